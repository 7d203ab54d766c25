-- The adjacency words that a list of edges gives, and what one edge more does to them.
use Rattle.std.specs.Prelude.{ℕ, zero, suc, ◌+◌, ◌*◌, ◌^◌, ◌≤◌, ◌<◌, ◌≡◌, refl, Bool, true, false, cond, List, [], ◌∷◌, ◌++◌, map, length, get_or, set, replicate, eqb}
use Rattle.std.proofs.Common.{add-zero, lt_of_lt_of_le, not-suc-le-zero, pow-suc, zero-lt-suc, arith, ◌∙◌, subst, ext_get_or, get_or-set_same, get_or-set_other, set-set, pow_mono}
use Rattle.std.proofs.Math.Decide.{ℕ_discrete, dec_lt}
use Rattle.std.proofs.Math.Path.{sym, ap}
use Rattle.std.proofs.Math.ListN.{length-set}
use Rattle.std.proofs.lemmas.List.{length-map}
use Rattle.model.specs.declared.Edge.{Edge}
use Rattle.model.specs.Lists.{one, upto, any, sum_over}
use Rattle.model.specs.Crossings.{bit, linked}
use Rattle.model.specs.Edits.{with_bit, at_both_ends}
use Rattle.model.specs.Charts.{joins, same_edge, word_in}
use Rattle.laws.specs.Sums.Indicators.{less, same, more, order}
use Rattle.laws.specs.Sums.Ranges.{sum}
use Rattle.laws.specs.Sums.Lists.{length_upto, map_upto_at, sum_over_upto}
use Rattle.laws.specs.Sums.Bits.{bit_beyond, bits_ext, set_same, set_other, set_lt}
use Rattle.laws.specs.Layouts.EdgeEdits.{both, set_changes, words_lt, joined_to, joined_back, bits_kept}
use Rattle.laws.specs.Sums.Any.{any_new, any_old}
use Rattle.laws.specs.Charts.Ends.{edge, edge_swap, same_edge_lem, other_edge}

-- ---- a word made of its bits

-- the word with the bits that pass, among the first k
unfoldable pub word_of : (ℕ → Bool) → ℕ → ℕ
word_of p k = sum k (λ v. cond (p v) (2 ^ v) 0)

pub word_of_lt : (p : ℕ → Bool) (k : ℕ) → word_of p k < 2 ^ k
unfolding word_of sum
word_of_lt p zero = zero-lt-suc 0
word_of_lt p (suc k) = rw (pow-suc 2 k) (by_test (p k) (word_of_lt p k))
  where
    by_test : (b : Bool) → word_of p k < 2 ^ k → word_of p k + cond b (2 ^ k) 0 < 2 ^ k * 2
    by_test true h = omega arith
    by_test false h = omega arith

-- a bit above all others
set_above : (k w : ℕ) → w < 2 ^ k → with_bit w k ≡ w + 2 ^ k
unfolding with_bit
set_above k w h = rw (bit_beyond k w k h (omega arith)) (omega arith)

pub word_of_bit : (p : ℕ → Bool) (k v : ℕ) → v < k → bit (word_of p k) v ≡ one (p v)
unfolding word_of sum one
word_of_bit p zero v h = absurd (not-suc-le-zero h)
word_of_bit p (suc k) v h =
    elim (order v k) [
      | less l ↦ lower (λ z. omega arith) (p k) ∙ word_of_bit p k v l
      | same e ↦ ap (bit (word_of p k + cond (p k) (2 ^ k) 0)) e ∙ top (p k) ∙ ap (λ (x : ℕ). one (p x)) (sym e)
      | more l ↦ absurd (omega arith)
    ]
  where
    lower : (v ≡ k → ⊥) → (b : Bool) → bit (word_of p k + cond b (2 ^ k) 0) v ≡ bit (word_of p k) v
    lower d true = ap (λ (x : ℕ). bit x v) (sym (set_above k (word_of p k) (word_of_lt p k))) ∙ set_other (word_of p k) k v d
    lower d false = ap (λ (x : ℕ). bit x v) (add-zero (word_of p k))

    top : (b : Bool) → bit (word_of p k + cond b (2 ^ k) 0) k ≡ one b
    top true = ap (λ (x : ℕ). bit x k) (sym (set_above k (word_of p k) (word_of_lt p k))) ∙ set_same (word_of p k) k
    top false = ap (λ (x : ℕ). bit x k) (add-zero (word_of p k)) ∙ bit_beyond k (word_of p k) k (word_of_lt p k) (omega arith)

-- no bit from n on
pub word_of_below : (p : ℕ → Bool) (n k : ℕ) → n ≤ k → ((v : ℕ) → n ≤ v → p v ≡ false) → word_of p k < 2 ^ n
unfolding one
word_of_below p n k h none =
    subst (λ (w : ℕ). w < 2 ^ n)
    (bits_ext k (word_of p n) (word_of p k) (lt_of_lt_of_le (word_of_lt p n) (pow_mono h)) (word_of_lt p k) bits) (word_of_lt p n)
  where
    bits : (v : ℕ) → v < k → bit (word_of p n) v ≡ bit (word_of p k) v
    bits v l =
        elim (dec_lt v n) [
          | yes b ↦ word_of_bit p n v b ∙ sym (word_of_bit p k v l)
          | no b ↦ bit_beyond n (word_of p n) v (word_of_lt p n) (omega arith) ∙ sym (word_of_bit p k v l ∙ ap one (none v (omega arith)))
        ]

-- two words with the same bits
pub word_of_ext : (w : ℕ) (p : ℕ → Bool) (k : ℕ) → w < 2 ^ k → ((v : ℕ) → v < k → bit w v ≡ one (p v)) → w ≡ word_of p k
word_of_ext w p k h e = bits_ext k w (word_of p k) h (word_of_lt p k) (λ v l. e v l ∙ sym (word_of_bit p k v l))

-- ---- the words of some edges

pub word_is : (es : List Edge) (u : ℕ) → word_in es u ≡ word_of (λ v. any (joins u v) es) 64
unfolding word_in word_of
word_is es u = sum_over_upto (λ v. cond (any (joins u v) es) (2 ^ v) 0) 64

-- the words as a list
abbrev pub adjacency_of : List Edge → List ℕ
adjacency_of es = map (word_in es) (upto 64)

pub adjacency_length : (es : List Edge) → length (adjacency_of es) ≡ 64
adjacency_length es = length-map (upto 64) (word_in es) ∙ length_upto 64

pub adjacency_at : (es : List Edge) (u : ℕ) → u < 64 → get_or (adjacency_of es) u 0 ≡ word_of (λ v. any (joins u v) es) 64
adjacency_at es u h =
    map_upto_at (word_in es) 64 u h ∙ word_is es u

pub adjacency_bit : (es : List Edge) (u v : ℕ) → u < 64 → v < 64 → bit (get_or (adjacency_of es) u 0) v ≡ one (any (joins u v) es)
adjacency_bit es u v h l = ap (λ (w : ℕ). bit w v) (adjacency_at es u h) ∙ word_of_bit (λ v. any (joins u v) es) 64 v l

pub adjacency_lt : (es : List Edge) (u : ℕ) → u < 64 → get_or (adjacency_of es) u 0 < 2 ^ 64
adjacency_lt es u h = rw (adjacency_at es u h) (word_of_lt (λ v. any (joins u v) es) 64)

-- words with the bits of some edges are their words
pub adjacency_ext : (adj : List ℕ) (es : List Edge) → length adj ≡ 64 → ((u : ℕ) → u < 64 → get_or adj u 0 < 2 ^ 64)
    → ((u v : ℕ) → u < 64 → v < 64 → bit (get_or adj u 0) v ≡ one (any (joins u v) es)) → adj ≡ adjacency_of es
adjacency_ext adj es n h e =
    ext_get_or 0 adj (adjacency_of es) (n ∙ sym (adjacency_length es))
    (λ u l.
    (let below : u < 64 = omega arith in
    word_of_ext (get_or adj u 0) (λ v. any (joins u v) es) 64 (h u below) (λ v b. e u v below b) ∙ sym (adjacency_at es u below)))

pub no_edges : replicate 64 0 ≡ adjacency_of []
unfolding word_in any sum_over upto
no_edges = refl

-- bit v of the word of u says whether an edge joins them
pub adjacency_linked : (es : List Edge) (u v : ℕ) → u < 64 → v < 64 → linked (adjacency_of es) u v ≡ any (joins u v) es
unfolding linked one
adjacency_linked es u v h l = ap (λ (x : ℕ). eqb x 1) (adjacency_bit es u v h l) ∙ as_test (any (joins u v) es)
  where
    as_test : (t : Bool) → eqb (one t) 1 ≡ t
    as_test true = refl
    as_test false = refl

-- ---- one edge more

joins_edge : (u v a b : ℕ) → joins u v (edge a b) ≡ same_edge (edge a b) (edge u v)
unfolding joins edge
joins_edge u v a b = refl

-- both bits set in the words, no other bit changed, and words of 64 bits stay such
record BothSet (adj : List ℕ) (a b : ℕ) : Type 0 where
  pub to : bit (get_or (at_both_ends with_bit adj a b) a 0) b ≡ 1
  pub back : bit (get_or (at_both_ends with_bit adj a b) b 0) a ≡ 1
  pub kept : (u v : ℕ) → (u ≡ a → v ≡ b → ⊥) → (u ≡ b → v ≡ a → ⊥) → bit (get_or (at_both_ends with_bit adj a b) u 0) v ≡ bit (get_or adj u 0) v
  pub small : (k : ℕ) → a < k → b < k → ((u : ℕ) → u < length adj → get_or adj u 0 < 2 ^ k)
      → (u : ℕ) → u < length adj → get_or (at_both_ends with_bit adj a b) u 0 < 2 ^ k

set_once : (adj : List ℕ) (a : ℕ) → at_both_ends with_bit adj a a ≡ set adj a (with_bit (get_or adj a 0) a)
unfolding at_both_ends
set_once adj a = set-set adj a (with_bit (get_or adj a 0) a) (with_bit (get_or adj a 0) a)

-- also where both ends are one vertex
one_end : (adj : List ℕ) (a : ℕ) → a < length adj → BothSet adj a a
one_end adj a h = record { to = here; back = here; kept = kept; small = small }
  where
    word : get_or (at_both_ends with_bit adj a a) a 0 ≡ with_bit (get_or adj a 0) a
    word = ap (λ (x : List ℕ). get_or x a 0) (set_once adj a) ∙ get_or-set_same adj a (with_bit (get_or adj a 0) a) 0 h

    other : (u : ℕ) → (u ≡ a → ⊥) → get_or (at_both_ends with_bit adj a a) u 0 ≡ get_or adj u 0
    other u d = ap (λ (x : List ℕ). get_or x u 0) (set_once adj a) ∙ get_or-set_other adj a u (with_bit (get_or adj a 0) a) 0 d

    here : bit (get_or (at_both_ends with_bit adj a a) a 0) a ≡ 1
    here = ap (λ (w : ℕ). bit w a) word ∙ set_same (get_or adj a 0) a

    kept : (u v : ℕ) → (u ≡ a → v ≡ a → ⊥) → (u ≡ a → v ≡ a → ⊥) → bit (get_or (at_both_ends with_bit adj a a) u 0) v ≡ bit (get_or adj u 0) v
    kept u v p q =
        elim (ℕ_discrete u a) [
          | yes e ↦ rw e (ap (λ (w : ℕ). bit w v) word ∙ set_other (get_or adj a 0) a v (p e))
          | no d ↦ ap (λ (w : ℕ). bit w v) (other u d)
        ]

    small : (k : ℕ) → a < k → a < k → ((u : ℕ) → u < length adj → get_or adj u 0 < 2 ^ k)
        → (u : ℕ) → u < length adj → get_or (at_both_ends with_bit adj a a) u 0 < 2 ^ k
    small k ak bk all u l =
        elim (ℕ_discrete u a) [
          | yes e ↦ rw (e, word) (set_lt k (get_or adj a 0) a (all a h) ak)
          | no d ↦ rw (other u d) (all u l)
        ]

both_set : (adj : List ℕ) (a b : ℕ) → a < length adj → b < length adj → BothSet adj a b
both_set adj a b h l =
    elim (ℕ_discrete a b) [
      | yes e ↦ subst (λ (x : ℕ). BothSet adj a x) e (one_end adj a h)
      | no d ↦
          record {
            to = joined_to with_bit adj a b h l d 1 set_changes;
            back = joined_back with_bit adj a b h l d 1 set_changes;
            kept = bits_kept with_bit adj a b h l d 1 set_changes;
            small = words_lt with_bit adj a b h l d 1 set_changes;
          }
    ]

module _ (es : List Edge) (a b : ℕ) (first : a < 64) (second : b < 64) where
  joined : List ℕ
  joined = at_both_ends with_bit (adjacency_of es) a b

  joined_length : length joined ≡ 64
  unfolding joined at_both_ends
  joined_length = simp length-set (adjacency_length es)

  changed : BothSet (adjacency_of es) a b
  changed = both_set (adjacency_of es) a b (rw (adjacency_length es) first) (rw (adjacency_length es) second)

  bits : (u v : ℕ) → u < 64 → v < 64 → bit (get_or joined u 0) v ≡ one (any (joins u v) (es ++ (edge a b ∷ [])))
  unfolding joined one
  bits u v hu hv =
      elim (both (ℕ_discrete u a) (ℕ_discrete v b)) [
        | yes p ↦ rw (p.0, p.1) (changed.to ∙ sym (ap one (any_new (joins a b) es (edge a b) (joins_edge a b a b ∙ same_edge_lem a b))))
        | no p ↦
            elim (both (ℕ_discrete u b) (ℕ_discrete v a)) [
              | yes q ↦
                  rw (q.0, q.1)
                  (changed.back
                  ∙ sym (ap one (any_new (joins b a) es (edge a b) (joins_edge b a a b ∙ ap (same_edge (edge a b)) (edge_swap b a) ∙ same_edge_lem a b))))
              | no q ↦
                  changed.kept u v (λ e f. p (e, f)) (λ e f. q (e, f))
                  ∙ adjacency_bit es u v hu hv
                  ∙ sym (ap one (any_old (joins u v) es (edge a b)
                  (joins_edge u v a b ∙ other_edge a b u v (λ z. p (sym z.0, sym z.1)) (λ z. q (sym z.1, sym z.0)))))
            ]
      ]

  small : (u : ℕ) → u < 64 → get_or joined u 0 < 2 ^ 64
  unfolding joined
  small u hu =
      changed.small 64 first second (λ w l. adjacency_lt es w (rw (adjacency_length es) at l)) u (rw (adjacency_length es) hu)

  pub edge_joined : at_both_ends with_bit (adjacency_of es) a b ≡ adjacency_of (es ++ (edge a b ∷ []))
  unfolding joined
  edge_joined = adjacency_ext joined (es ++ (edge a b ∷ [])) joined_length small bits
