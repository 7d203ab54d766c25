-- Adding and removing an edge: the words of both ends change, and the edges stay symmetric.
use Rattle.std.specs.Prelude.{ℕ, ◌%◌, ◌^◌, ◌≤◌, ◌<◌, ◌≡◌, refl, List, length, get_or, set, T}
use Rattle.std.proofs.Common.{lt_of_lt_of_le, arith, ◌∙◌, subst, length-set, lt-ltb}
use Rattle.std.proofs.Math.Decide.{ℕ_discrete}
use Rattle.std.proofs.Math.Path.{sym, ap, ap₂}
use Rattle.std.proofs.Math.Seq.{get_or-set_same, get_or-set_other}
use Rattle.std.proofs.Math.Dec.{eqb, ltb}
use Rattle.model.specs.Crossings.{bit, linked, unit_weight}
use Rattle.model.specs.declared.Layout.{Layout}
use Rattle.model.specs.Layouts.{capacity, table_places, table_weight, vertex_order, valid, changed}
use Rattle.model.specs.Edits.{with_bit, without_bit, at_both_ends, both_ways, with_edges}
use Rattle.laws.specs.Layouts.Recount.{recounted, recounted_changed}
use Rattle.laws.specs.Layouts.Refusals.{Pair, within_capacity}
use Rattle.laws.specs.Sums.Pairs.{Symmetric}
use Rattle.laws.specs.Sums.Bits.{set_same, set_other, set_lt, clear_same, clear_other, clear_lt}
use Rattle.laws.specs.Crossings.Masks.{weight_bit}
use Rattle.laws.specs.Layouts.Validity.{sound, sound_valid}
use Rattle.laws.specs.Tables.Fits.{Fits, IsWeight}
use Rattle.laws.specs.Tables.Edits.{both_there, both_back, both_other}

pub both : {A B : Type 0} → Dec A → Dec B → Dec (A × B)
both (yes a) (yes b) = yes (a, b)
both (yes a) (no b) = no (λ p. b p.1)
both (no a) b = no (λ p. a p.0)

-- a change of one bit of a word: to x, and no other bit; a word of k bits stays one
pub record ChangesOne (f : ℕ → ℕ → ℕ) (x : ℕ) : Type 0 where
  pub here : (w i : ℕ) → bit (f w i) i ≡ x
  pub elsewhere : (w i j : ℕ) → (j ≡ i → ⊥) → bit (f w i) j ≡ bit w j
  pub within : (k w i : ℕ) → w < 2 ^ k → i < k → f w i < 2 ^ k

pub set_changes : ChangesOne with_bit 1
set_changes = record { here = set_same; elsewhere = set_other; within = set_lt }

pub clear_changes : ChangesOne without_bit 0
clear_changes = record { here = clear_same; elsewhere = clear_other; within = clear_lt }

-- a weight that goes with a bit: one from 1 to 255 where it is set, and 0 where it is not
pub record WeighsAs (x w : ℕ) : Type 0 where
  pub goes : ltb 0 w ≡ eqb x 1
  pub few : w ≤ 255

pub set_weighs : {w : ℕ} → IsWeight w → WeighsAs 1 w
set_weighs {w} i = record { goes = lt-ltb 0 w i.some; few = i.few }

pub clear_weighs : WeighsAs 0 0
clear_weighs = record { goes = refl; few = omega arith }

-- ends that are places of the array, taken modulo its length
pub ends_within : (f : ℕ → ℕ → ℕ) (adj : List ℕ) {words : List ℕ} {a b : ℕ} → a < 64 → b < 64 → words ≡ at_both_ends f adj (a % 64) (b % 64)
    → words ≡ at_both_ends f adj a b
ends_within f adj {words} {a} {b} h l e =
    let first : a % 64 ≡ a = omega arith in
    let second : b % 64 ≡ b = omega arith in
    e ∙ ap₂ (at_both_ends f adj) first second

module _ (f : ℕ → ℕ → ℕ) (adj : List ℕ) (a b : ℕ) (first : a < length adj) (second : b < length adj) (different : a ≡ b → ⊥) where
  -- the words, one by one
  pub word_first : get_or (at_both_ends f adj a b) a 0 ≡ f (get_or adj a 0) b
  unfolding at_both_ends
  word_first =
      get_or-set_other (set adj a (f (get_or adj a 0) b)) b a (f (get_or adj b 0) a) 0 different
      ∙ get_or-set_same adj a (f (get_or adj a 0) b) 0 first

  pub word_second : get_or (at_both_ends f adj a b) b 0 ≡ f (get_or adj b 0) a
  unfolding at_both_ends
  word_second =
      get_or-set_same (set adj a (f (get_or adj a 0) b)) b (f (get_or adj b 0) a) 0 (rw (length-set adj a (f (get_or adj a 0) b)) second)

  pub word_other : (u : ℕ) → (u ≡ a → ⊥) → (u ≡ b → ⊥) → get_or (at_both_ends f adj a b) u 0 ≡ get_or adj u 0
  unfolding at_both_ends
  word_other u da db =
      get_or-set_other (set adj a (f (get_or adj a 0) b)) b u (f (get_or adj b 0) a) 0 db
      ∙ get_or-set_other adj a u (f (get_or adj a 0) b) 0 da

  module _ (x : ℕ) (change : ChangesOne f x) where
    -- words of k bits
    pub words_lt : (k : ℕ) → a < k → b < k → ((u : ℕ) → u < length adj → get_or adj u 0 < 2 ^ k)
        → (u : ℕ) → u < length adj → get_or (at_both_ends f adj a b) u 0 < 2 ^ k
    words_lt k ak bk small u h =
        elim (ℕ_discrete u a) [
          | yes e ↦ rw (e, word_first) (change.within k (get_or adj a 0) b (small a first) bk)
          | no da ↦
              elim (ℕ_discrete u b) [
                | yes e ↦ rw (e, word_second) (change.within k (get_or adj b 0) a (small b second) ak)
                | no db ↦ rw (word_other u da db) (small u h)
              ]
        ]

    -- the two ends are joined with weight x
    pub joined_to : bit (get_or (at_both_ends f adj a b) a 0) b ≡ x
    joined_to = ap (λ (w : ℕ). bit w b) word_first ∙ change.here (get_or adj a 0) b

    pub joined_back : bit (get_or (at_both_ends f adj a b) b 0) a ≡ x
    joined_back = ap (λ (w : ℕ). bit w a) word_second ∙ change.here (get_or adj b 0) a

    -- and nothing else changes
    pub bits_kept : (u v : ℕ) → (u ≡ a → v ≡ b → ⊥) → (u ≡ b → v ≡ a → ⊥) → bit (get_or (at_both_ends f adj a b) u 0) v ≡ bit (get_or adj u 0) v
    bits_kept u v h k =
        elim (ℕ_discrete u a) [
          | yes e ↦ rw e (ap (λ (w : ℕ). bit w v) word_first ∙ change.elsewhere (get_or adj a 0) b v (h e))
          | no da ↦
              elim (ℕ_discrete u b) [
                | yes e ↦ rw e (ap (λ (w : ℕ). bit w v) word_second ∙ change.elsewhere (get_or adj b 0) a v (k e))
                | no db ↦ ap (λ (w : ℕ). bit w v) (word_other u da db)
              ]
        ]

    pub still_symmetric : (n : ℕ) → Symmetric n (unit_weight adj) → Symmetric n (unit_weight (at_both_ends f adj a b))
    still_symmetric n s =
        record {
          swap = λ u v i j. rw (weight_bit (at_both_ends f adj a b) u v, weight_bit (at_both_ends f adj a b) v u)
              (swapped u v (sym (weight_bit adj u v) ∙ s.swap u v i j ∙ weight_bit adj v u));
          diagonal = λ v i. weight_bit (at_both_ends f adj a b) v v ∙ bits_kept v v (λ e d. different (sym e ∙ d)) (λ e d. different (sym d ∙ e)) ∙ sym
              (weight_bit adj v v) ∙ s.diagonal v i;
        }
      where
        swapped : (u v : ℕ) → bit (get_or adj u 0) v ≡ bit (get_or adj v 0) u
            → bit (get_or (at_both_ends f adj a b) u 0) v ≡ bit (get_or (at_both_ends f adj a b) v 0) u
        swapped u v e =
            elim (both (ℕ_discrete u a) (ℕ_discrete v b)) [
              | yes p ↦ rw (p.0, p.1) (joined_to ∙ sym joined_back)
              | no p ↦
                  elim (both (ℕ_discrete u b) (ℕ_discrete v a)) [
                    | yes q ↦ rw (q.0, q.1) (joined_back ∙ sym joined_to)
                    | no q ↦ bits_kept u v (λ h k. p (h, k)) (λ h k. q (h, k)) ∙ e ∙ sym (bits_kept v u (λ h k. q (k, h)) (λ h k. p (k, h)))
                  ]
            ]

-- the layout of an accepted link or unlink: x is the bit of both ends then, and w their weight
module _ {l : Layout} {a b : ℕ} (f : ℕ → ℕ → ℕ) {x w : ℕ} (change : ChangesOne f x) (weighs : WeighsAs x w) (p : Pair l a b)
    (size : length l.adjacency ≡ capacity) (room : length l.weights ≡ table_places) where
  abbrev words : List ℕ
  words = at_both_ends f l.adjacency a b

  abbrev table : List ℕ
  table = both_ways l.weights a b w

  first_word : a < length l.adjacency
  first_word = rw size (within_capacity p).0

  second_word : b < length l.adjacency
  second_word = rw size (within_capacity p).1

  there : table_weight table a b ≡ w
  there = both_there l.weights a b w room (within_capacity p).0 (within_capacity p).1 p.different

  back : table_weight table b a ≡ w
  back = both_back l.weights a b w room (within_capacity p).0 (within_capacity p).1

  other : (u v : ℕ) → v < 64 → (u ≡ a → v ≡ b → ⊥) → (u ≡ b → v ≡ a → ⊥) → table_weight table u v ≡ table_weight l.weights u v
  other = both_other l.weights a b w room (within_capacity p).0 (within_capacity p).1

  -- of the two ends, either way round, and of any others
  by_ends : (P : ℕ → ℕ → Type 0) → P a b → P b a → ((u v : ℕ) → (u ≡ a → v ≡ b → ⊥) → (u ≡ b → v ≡ a → ⊥) → P u v) → (u v : ℕ) → P u v
  by_ends P first second rest u v =
      elim (both (ℕ_discrete u a) (ℕ_discrete v b)) [
        | yes q ↦ subst (λ (y : ℕ). P y v) (sym q.0) (subst (P a) (sym q.1) first)
        | no q ↦
            elim (both (ℕ_discrete u b) (ℕ_discrete v a)) [
              | yes r ↦ subst (λ (y : ℕ). P y v) (sym r.0) (subst (P b) (sym r.1) second)
              | no r ↦ rest u v (λ h k. q (h, k)) (λ h k. r (h, k))
            ]
      ]

  -- the weights fit the words
  edges_fit : Fits l.n words table
  unfolding linked
  edges_fit =
      let s = sound l p.is_valid_lem in
      let fit = s.fits in
      record {
        even = by_ends (λ u v. u < l.n → v < l.n → table_weight table u v ≡ table_weight table v u) (λ h k. there ∙ sym back) (λ h k. back ∙ sym there)
            (λ u v to from h k.
            other u v (lt_of_lt_of_le k s.small) to from
            ∙ fit.even u v h k
            ∙ sym (other v u (lt_of_lt_of_le h s.small) (λ i j. from j i) (λ i j. to j i)));
        edges = by_ends (λ u v. u < l.n → v < l.n → ltb 0 (table_weight table u v) ≡ linked words u v)
            (λ h k. ap (ltb 0) there ∙ weighs.goes
            ∙ ap (λ (y : ℕ). eqb y 1) (sym (joined_to f l.adjacency a b first_word second_word p.different x change)))
            (λ h k. ap (ltb 0) back ∙ weighs.goes
            ∙ ap (λ (y : ℕ). eqb y 1) (sym (joined_back f l.adjacency a b first_word second_word p.different x change)))
            (λ u v to from h k.
            ap (ltb 0) (other u v (lt_of_lt_of_le k s.small) to from)
            ∙ fit.edges u v h k
            ∙ ap (λ (y : ℕ). eqb y 1)
            (sym (bits_kept f l.adjacency a b first_word second_word p.different x change u v to from)));
        light = by_ends (λ u v. u < l.n → v < l.n → table_weight table u v ≤ 255)
            (λ h k. rw there weighs.few) (λ h k. rw back weighs.few)
            (λ u v to from h k. rw (other u v (lt_of_lt_of_le k s.small) to from) (fit.light u v h k));
        rows = λ u v h i j. other u v j (λ e d. omega (arith, p.first)) (λ e d. omega (arith, p.second)) ∙ fit.rows u v h i j;
        columns = λ u v h i j. other u v j (λ e d. omega (arith, p.second)) (λ e d. omega (arith, p.first)) ∙ fit.columns u v h i j;
      }

  -- is valid
  pub edges_valid : T (valid (with_edges l words table))
  unfolding with_edges changed vertex_order
  edges_valid =
      let s = sound l p.is_valid_lem in
      sound_valid (with_edges l words table)
      (record {
        small = s.small;
        permutation = s.permutation;
        places = s.places;
        words = still_symmetric f l.adjacency a b first_word second_word p.different x change l.n s.words;
        bits = λ v h.
            words_lt f l.adjacency a b first_word second_word p.different x change l.n p.first p.second
            (λ u k. s.bits u (rw size at k)) v (rw size h);
        unused = λ v h k.
            word_other f l.adjacency a b first_word second_word p.different v
            (λ e. omega (arith, p.first)) (λ e. omega (arith, p.second))
            ∙ s.unused v h k;
        fits = edges_fit;
      })

  -- by the counter
  pub edges_recounted : {adj ws : List ℕ} → adj ≡ words → ws ≡ table → recounted l l.n l.order adj ws ≡ with_edges l words table
  unfolding with_edges
  edges_recounted e d =
      ap₂ (recounted l l.n l.order) e d ∙ recounted_changed l l.n l.order words table p.is_valid_lem edges_valid
