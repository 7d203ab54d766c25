-- The weights of a chart's links, listed or all 1: asked, and set in a table one after the other.
use Rattle.std.specs.Prelude.{Option, Some, None, Ok, Err, MatchOption, ℕ, zero, suc, ◌+◌, ◌*◌, ◌/◌, ◌%◌, ◌<◌, ◌≡◌, refl}
use Rattle.std.specs.Prelude.{Bool, true, false, not, ◌&&◌, eqb, List, [], ◌∷◌, map, length, get_or, replicate}
use Rattle.std.specs.List.{list_all}
use Rattle.std.specs.Simd.{first_chunks}
use Rattle.std.proofs.Common.{Bor, le_of_lt, le_refl, arith, sym, ap, ap₂, ◌∙◌, le-leb, eq-eqb, ne_eqb}
use Rattle.std.proofs.lemmas.Bool.{lt-leb}
use Rattle.std.proofs.Math.Nat.{min-eq_left, min-eq_right, max-eq_left, max-eq_right}
use Rattle.std.proofs.Math.Decide.{ℕ_discrete}
use Rattle.std.proofs.Math.ListN.{length-replicate}
use Rattle.std.proofs.lemmas.List.{set_comm}
use Rattle.model.specs.declared.Edge.{Edge}
use Rattle.model.specs.declared.refusal.Refusal.TheVariants as because
use Rattle.model.specs.Answers.{number}
use Rattle.model.specs.Lists.{every}
use Rattle.model.specs.Layouts.{is_weight}
use Rattle.model.specs.Checks.{refusal, by_refusal, checked}
use Rattle.model.specs.Edits.{both_ways}
use Rattle.model.specs.Charts.{edges_in, asked, answer, weight_checks, with_weights, body_of, chart_edges, has_weights, chart_weights}
use Rattle.laws.specs.Sums.Indicators.{less, same, more, order}
use Rattle.laws.specs.Charts.Ends.{edge}
use Rattle.laws.specs.Charts.Wrapped.{wrapped, edges_number}

-- the body of field 57, or 1 for each link where there is none
unfoldable pub weights_in : List ℕ → Option (Bor (List ℕ)) → List ℕ
weights_in links None = replicate (length (edges_in links)) 1
weights_in links (Some body) = body.now

-- of a chart
pub chart_weights_lem : (s : List ℕ) (listed : Option (Bor (List ℕ)))
    → MatchOption listed (has_weights s ≡ false) (λ body. (has_weights s ≡ true) × (body.now ≡ body_of s 3)) → weights_in (body_of s 1) listed ≡ chart_weights s
unfolding weights_in chart_weights chart_edges
chart_weights_lem s None e = rw e
chart_weights_lem s (Some body) t = rw (t.0, t.1)

-- ---- the questions

-- of bytes, each but 0 is a weight
pub weighs : {w : ℕ} → w < 256 → (w ≡ 0 → ⊥) → is_weight w ≡ true
unfolding is_weight
weighs {w} small some = rw (le-leb 1 w (omega arith), le-leb w 255 (omega arith))

pub weighs_not : {w : ℕ} → w ≡ 0 → is_weight w ≡ false
unfolding is_weight
weighs_not {w} e = rw (lt-leb 1 w (omega arith))

one_weighs : (w : ℕ) → w < 256 → not (eqb w 0) ≡ is_weight w
one_weighs w small = elim (ℕ_discrete w 0) [ yes e ↦ rw (eq-eqb w 0 e, weighs_not e) | no d ↦ rw (ne_eqb w 0 d, weighs small d) ]

pub bytes_weigh : (body : List ℕ) → ((i : ℕ) → get_or body i 0 < 256) → list_all (λ w. not (eqb w 0)) body ≡ every is_weight body
unfolding every
bytes_weigh [] small = refl
bytes_weigh (w ∷ ws) small = ap₂ (λ (a b : Bool). a && b) (one_weighs w (small 0)) (bytes_weigh ws (λ i. small (suc i)))

all_ones : (k : ℕ) → every is_weight (replicate k 1) ≡ true
unfolding every is_weight
all_ones zero = refl
all_ones (suc k) = all_ones k

module _ (links : List ℕ) where
  pub ask_none : asked (Ok tt) ≡ answer (weight_checks links (weights_in links None)) []
  unfolding weights_in weight_checks answer checked by_refusal refusal asked
  ask_none =
      let many = length-replicate {A = ℕ} (length (edges_in links)) 1 in
      rw (eq-eqb (length (replicate (length (edges_in links)) 1)) (length (edges_in links)) many, all_ones (length (edges_in links)))

  module _ (body : Bor (List ℕ)) where
    pub ask_many : (length body.now ≡ length links / 2 → ⊥) → asked (Err because.WeightCount) ≡ answer (weight_checks links (weights_in links (Some body))) []
    unfolding weights_in weight_checks answer checked by_refusal refusal asked number
    ask_many d = rw (edges_number links, ne_eqb (length body.now) (length links / 2) d)

    module _ (many : length body.now ≡ length links / 2) where
      pub ask_all : every is_weight body.now ≡ true → asked (Ok tt) ≡ answer (weight_checks links (weights_in links (Some body))) []
      unfolding weights_in weight_checks answer checked by_refusal refusal asked
      ask_all t = rw (edges_number links, eq-eqb (length body.now) (length links / 2) many, t)

      pub ask_zero : every is_weight body.now ≡ false → asked (Err because.ZeroWeight) ≡ answer (weight_checks links (weights_in links (Some body))) []
      unfolding weights_in weight_checks answer checked by_refusal refusal asked number
      ask_zero t = rw (edges_number links, eq-eqb (length body.now) (length links / 2) many, t)

-- ---- the weights set one after the other

-- either end first
both_swap : (table : List ℕ) (a b w : ℕ) → both_ways table a b w ≡ both_ways table b a w
unfolding both_ways
both_swap table a b w =
    elim (ℕ_discrete (64 * a + b) (64 * b + a)) [
      | yes e ↦ rw e
      | no d ↦ set_comm table (64 * a + b) (64 * b + a) w w d
    ]

both_edge : (table : List ℕ) (a b w : ℕ) → both_ways table (edge a b).low (edge a b).high w ≡ both_ways table a b w
unfolding edge
both_edge table a b w =
    elim (order a b) [
      | less l ↦ rw (min-eq_left (le_of_lt l), max-eq_right (le_of_lt l))
      | same e ↦ rw (e, min-eq_left (le_refl b), max-eq_right (le_refl b))
      | more l ↦ rw (min-eq_right (le_of_lt l), max-eq_left (le_of_lt l)) (both_swap table b a w)
    ]

no_weights : (table : List ℕ) (es : List Edge) → with_weights table es [] ≡ table
unfolding with_weights
no_weights table [] = refl
no_weights table (e ∷ es) = refl

-- the edge of two bytes, each modulo 64
unfoldable pub pair_edge : List ℕ → Edge
pair_edge pair = edge (get_or pair 0 0 % 64) (get_or pair 1 0 % 64)

-- a weight of 1 for each link
abbrev pub ones : List (List ℕ) → List ℕ
ones pairs = map {B = ℕ} (λ _. 1) pairs

pub ones_number : (links : List ℕ) → ones (first_chunks 2 (length links / 2) links) ≡ replicate (length (edges_in links)) 1
unfolding edges_in
ones_number [] = refl
ones_number (a ∷ []) = refl
ones_number (a ∷ b ∷ rest) =
    let half : length (a ∷ b ∷ rest) / 2 ≡ suc (length rest / 2) = omega arith in
    ap (λ (k : ℕ). ones (first_chunks 2 k (a ∷ b ∷ rest))) half
    ∙ ap (λ (ws : List ℕ). 1 ∷ ws) (ones_number rest)

pub pairs_wrapped : (s : List ℕ) → map pair_edge (first_chunks 2 (length s / 2) s) ≡ edges_in (wrapped s)
unfolding wrapped edges_in edge pair_edge
pairs_wrapped [] = refl
pairs_wrapped (a ∷ []) = refl
pairs_wrapped (a ∷ b ∷ rest) =
    let half : length (a ∷ b ∷ rest) / 2 ≡ suc (length rest / 2) = omega arith in
    ap (λ (k : ℕ). map pair_edge (first_chunks 2 k (a ∷ b ∷ rest))) half
    ∙ ap (λ (es : List Edge). pair_edge (a ∷ b ∷ []) ∷ es) (pairs_wrapped rest)

-- what is left of the links and of the weights is set in the table as it is now
pub record SetUpTo (start : List ℕ) (all : List (List ℕ)) (weights table : List ℕ) (pairs : List (List ℕ)) (left : List ℕ) : Type 0 where
  pub rest : with_weights start (map pair_edge all) weights ≡ with_weights table (map pair_edge pairs) left

module _ {start : List ℕ} {all : List (List ℕ)} {weights : List ℕ} where
  pub set_start : {pairs : List (List ℕ)} {left : List ℕ} → pairs ≡ all → left ≡ weights → SetUpTo start all weights start pairs left
  set_start p q = record { rest = ap₂ (λ (x : List (List ℕ)) (y : List ℕ). with_weights start (map pair_edge x) y) (sym p) (sym q) }

  module _ {table : List ℕ} {pairs : List (List ℕ)} {left : List ℕ} (s : SetUpTo start all weights table pairs left) where
    pub set_next : {pair : List ℕ} {more : List (List ℕ)} {w : ℕ} {behind next : List ℕ} → pairs ≡ pair ∷ more → left ≡ w ∷ behind
        → next ≡ both_ways table (get_or pair 0 0 % 64) (get_or pair 1 0 % 64) w → SetUpTo start all weights next more behind
    unfolding with_weights pair_edge
    set_next {pair} {more} {w} {behind} p q n =
        record {
          rest =
              s.rest ∙ ap₂ (λ (x : List (List ℕ)) (y : List ℕ). with_weights table (map pair_edge x) y) p q
              ∙ ap (λ (t : List ℕ). with_weights t (map pair_edge more) behind) (both_edge table (get_or pair 0 0 % 64) (get_or pair 1 0 % 64) w ∙ sym n);
        }

    pub set_all : pairs ≡ [] → table ≡ with_weights start (map pair_edge all) weights
    unfolding with_weights
    set_all p = sym (s.rest ∙ ap (λ (x : List (List ℕ)). with_weights table (map pair_edge x) left) p)

    pub set_listed : left ≡ [] → table ≡ with_weights start (map pair_edge all) weights
    set_listed q = sym (s.rest ∙ ap (with_weights table (map pair_edge pairs)) q ∙ no_weights table (map pair_edge pairs))

-- the links two bytes at a time, with the weights that are listed, or with 1 for each
module _ (table links : List ℕ) {pairs : List (List ℕ)} (whole : pairs ≡ first_chunks 2 (length links / 2) links) where
  same_edges : map pair_edge pairs ≡ edges_in (wrapped links)
  same_edges = ap (map pair_edge) whole ∙ pairs_wrapped links

  pub listed_set : {next : List ℕ} {listed : Option (Bor (List ℕ))} {body : Bor (List ℕ)} → listed ≡ Some body
      → next ≡ with_weights table (map pair_edge pairs) body.now
      → next ≡ with_weights table (edges_in (wrapped links)) (weights_in links listed)
  unfolding weights_in
  listed_set told e = e ∙ ap₂ (with_weights table) same_edges (sym (ap (weights_in links) told))

  pub ones_set : {next : List ℕ} {listed : Option (Bor (List ℕ))} → listed ≡ None → next ≡ with_weights table (map pair_edge pairs) (ones pairs)
      → next ≡ with_weights table (edges_in (wrapped links)) (weights_in links listed)
  unfolding weights_in
  ones_set told e = e ∙ ap₂ (with_weights table) same_edges (ap ones whole ∙ ones_number links ∙ sym (ap (weights_in links) told))
