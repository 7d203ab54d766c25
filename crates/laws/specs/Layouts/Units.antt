-- Layouts in which every edge weighs 1: no entry of the table is above 1, and the weights are what the words say.
use Rattle.std.specs.Prelude.{ℕ, ◌+◌, ◌*◌, ◌/◌, ◌%◌, ◌≤◌, ◌<◌, ◌≡◌, refl, Bool, true, false, cond, ◌&&◌, List, [], ◌∷◌, map, get_or, eqb, leb, ltb}
use Rattle.std.proofs.Common.{le_of_eq, lt_of_lt_of_le, arith, ap₂, ◌∙◌, eqb-true, eq-eqb, le-leb, leb-true, lt-ltb, ltb-true, ltb-false}
use Rattle.std.proofs.Math.Decide.{dec_lt}
use Rattle.std.proofs.Math.Path.{sym, subst}
use Rattle.std.proofs.Math.Dec.{T}
use Rattle.model.specs.declared.Layout.{Layout}
use Rattle.model.specs.declared.Edge.{Edge}
use Rattle.model.specs.Lists.{one, upto, every, keep}
use Rattle.model.specs.Crossings.{linked, edges, unit_weight, edge_weight}
use Rattle.model.specs.Layouts.{table_places, table_weight, weight, valid}
use Rattle.model.specs.WrittenCharts.{weights_of, unit_weighted}
use Rattle.laws.specs.Sums.Indicators.{T_true, less, same, more, order, both_left, both_right}
use Rattle.laws.specs.Sums.Lists.{All, none, also}
use Rattle.laws.specs.Sums.Every.{every_upto, upto_every, every_keep}
use Rattle.laws.specs.Sums.Below.{every_map, every_flat_map, every_same}
use Rattle.laws.specs.Crossings.Edges.{edge}
use Rattle.laws.specs.Crossings.Units.{unit_weights}
use Rattle.laws.specs.Crossings.Agreeing.{EndsBelow, edges_below}
use Rattle.laws.specs.Layouts.Validity.{sound, valid_symmetric}

-- ---- no weight above 1

pub record Unit (ws : List ℕ) : Type 0 where
  pub unit : (u v : ℕ) → u < 64 → v < 64 → table_weight ws u v ≤ 1

-- asked of each entry
unfoldable pub none_above_one : List ℕ → Bool
none_above_one ws = every (λ i. leb (get_or ws i 0) 1) (upto table_places)

pub entries_unit : (ws : List ℕ) → T (none_above_one ws) → Unit ws
unfolding none_above_one table_weight
entries_unit ws t =
    record {
      unit = λ u v h k.
          let i : ℕ = 64 * u + v in
          leb-true (get_or ws i 0) 1 (T_true (leb (get_or ws i 0) 1) (every_upto (λ j. leb (get_or ws j 0) 1) table_places t i (omega arith)));
    }

pub unit_entries : {ws : List ℕ} → Unit ws → T (none_above_one ws)
unfolding none_above_one table_weight
unit_entries {ws} s =
    upto_every (λ j. leb (get_or ws j 0) 1) table_places
    (λ i l.
    let e : i ≡ 64 * (i / 64) + i % 64 = omega arith in
    let few = s.unit (i / 64) (i % 64) (omega arith) (omega arith) in
    subst T (sym (le-leb (get_or ws i 0) 1 (subst (λ (j : ℕ). get_or ws j 0 ≤ 1) (sym e) few))) tt)

-- the weights are what the words say
pub record Agrees (n : ℕ) (adj ws : List ℕ) : Type 0 where
  pub agrees : (u v : ℕ) → u < n → v < n → table_weight ws u v ≡ unit_weight adj u v

abbrev pub Agreeing : Layout → Type 0
Agreeing l = Agrees l.n l.adjacency l.weights

pub unit_agrees : (l : Layout) → T (valid l) → Unit l.weights → Agreeing l
unfolding one
unit_agrees l t i =
    let s = sound l t in
    record {
      agrees = λ u v h k.
          by_test (linked l.adjacency u v) (s.fits.edges u v h k) (i.unit u v (lt_of_lt_of_le h s.small) (lt_of_lt_of_le k s.small));
    }
  where
    by_test : {w : ℕ} (b : Bool) → ltb 0 w ≡ b → w ≤ 1 → w ≡ one b
    by_test {w} true e few = omega (arith, ltb-true 0 w e)
    by_test {w} false e few = omega (arith, ltb-false 0 w e)

-- ---- "is every weight 1?"

all_ones : {n : ℕ} {adj ws : List ℕ} → Agrees n adj ws → {es : List Edge} → All (EndsBelow n) es → All (λ e. edge_weight (unit_weight adj) e ≡ 1) es
    → every (eqb 1) (map (edge_weight (table_weight ws)) es) ≡ true
unfolding every
all_ones a none none = refl
all_ones {ws = ws} a (also {x = e} {xs = es} p ps) (also q qs) =
    ap₂ (λ (x y : Bool). x && y)
    (eq-eqb 1 (table_weight ws e.low e.high) (sym (a.agrees e.low e.high p.0 p.1 ∙ q)))
    (all_ones a ps qs)

-- where the weights agree with the words, each edge weighs 1
pub agrees_unit : (l : Layout) → Agreeing l → T (unit_weighted l)
unfolding unit_weighted weights_of weight
agrees_unit l a = subst T (sym (all_ones a (edges_below l.n l.adjacency) (unit_weights l.n l.adjacency))) tt

pub ones_all : (f : Edge → ℕ) (es : List Edge) → every (eqb 1) (map f es) ≡ true → All (λ e. f e ≡ 1) es
unfolding every
ones_all f [] t = none
ones_all f (e ∷ es) t =
    also {x = e} (sym (eqb-true 1 (f e) (both_left (eqb 1 (f e)) (every (eqb 1) (map f es)) t)))
    (ones_all f es (both_right (eqb 1 (f e)) (every (eqb 1) (map f es)) t))

-- an edge to a higher vertex b, if there is one, weighs 1
unit_to : (ℕ → ℕ → ℕ) → List ℕ → ℕ → ℕ → Bool
unit_to W adj a b = cond (ltb a b && linked adj a b) (eqb 1 (W a b)) true

-- asked of each pair of vertices
by_pairs : (W : ℕ → ℕ → ℕ) (n : ℕ) (adj : List ℕ)
    → every (eqb 1) (map (edge_weight W) (edges n adj)) ≡ every (λ a. every (unit_to W adj a) (upto n)) (upto n)
unfolding edges unit_to
by_pairs W n adj =
    every_map (eqb 1) (edge_weight W) (edges n adj)
    ∙ every_flat_map (λ e. eqb 1 (edge_weight W e)) row (upto n)
    ∙ every_same (λ a. every (λ e. eqb 1 (edge_weight W e)) (row a)) (λ a. every (unit_to W adj a) (upto n)) n (λ a l. in_row a)
  where
    higher : ℕ → ℕ → Bool
    higher a b = ltb a b && linked adj a b

    row : ℕ → List Edge
    row a = map (edge a) (keep (higher a) (upto n))

    in_row : (a : ℕ) → every (λ e. eqb 1 (edge_weight W e)) (row a) ≡ every (unit_to W adj a) (upto n)
    in_row a =
        every_map (λ e. eqb 1 (edge_weight W e)) (edge a) (keep (higher a) (upto n))
        ∙ every_keep (λ b. eqb 1 (W a b)) (higher a) (upto n)

-- where each edge weighs 1, no entry is above 1
module _ (l : Layout) (t : T (valid l)) (w : T (unit_weighted l)) where
  -- an edge, from its lower end
  one_there : (u v : ℕ) → u < v → v < l.n → linked l.adjacency u v ≡ true → table_weight l.weights u v ≡ 1
  unfolding unit_weighted weights_of weight unit_to
  one_there u v d k e =
      let W = table_weight l.weights in
      let to = unit_to W l.adjacency in
      let asked = every_upto (λ a. every (to a) (upto l.n)) l.n (subst T (by_pairs W l.n l.adjacency) w) u (omega arith) in
      let weighs : T (eqb 1 (W u v)) = rw (lt-ltb u v d, e) at (every_upto (to u) l.n asked v k) in
      sym (eqb-true 1 (W u v) (T_true (eqb 1 (W u v)) weighs))

  rising : (u v : ℕ) → u < v → v < l.n → table_weight l.weights u v ≤ 1
  rising u v d k = by_test (linked l.adjacency u v) refl
    where
      by_test : (b : Bool) → linked l.adjacency u v ≡ b → table_weight l.weights u v ≤ 1
      by_test true e = le_of_eq (one_there u v d k e)
      by_test false e = omega (arith, ltb-false 0 (table_weight l.weights u v) ((sound l t).fits.edges u v (omega arith) k ∙ e))

  below_one : (u v : ℕ) → u < l.n → v < l.n → table_weight l.weights u v ≤ 1
  unfolding weight
  below_one u v h k =
      elim (order u v) [
        | less d ↦ rising u v d k
        | same d ↦ subst (λ (x : ℕ). table_weight l.weights u x ≤ 1) d (omega (arith, (valid_symmetric l t).diagonal u h))
        | more d ↦ omega (arith, (sound l t).fits.even u v h k, rising v u d h)
      ]

  pub unit_weighted_lem : Unit l.weights
  unit_weighted_lem =
      let f = (sound l t).fits in
      record {
        unit = λ u v h k. elim (dec_lt u l.n) [
          | no a ↦ omega (arith, f.rows u v (omega arith) h k)
          | yes a ↦ elim (dec_lt v l.n) [ no b ↦ omega (arith, f.columns u v h (omega arith) k) | yes b ↦ below_one u v a b ]
        ];
      }
