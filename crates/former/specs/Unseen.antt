-- A placed vertex without edges changes nothing: the next vertex with edges and the crossings at either end are the same without it.
use Rattle.std.specs.Prelude.{ℕ, ◌*◌, ◌<◌, ◌≡◌, Bool, ◌&&◌, eqb}
use Rattle.std.proofs.Common.{zero-mul, mul-zero, ◌∙◌, true≢false}
use Rattle.std.proofs.Math.Path.{refl, sym, ap}
use Rattle.std.proofs.Math.Bool.{true, false, not, cond, and-false}
use mathlib.Core.List.{List}
use Rattle.model.specs.Lists.{upto, keep, sum_over, member}
use Rattle.model.specs.Crossings.{unit_weight}
use Rattle.model.specs.GreedyAppend.{unplaced, waiting, has_edges, degree_in, preferred, best_of, next_vertex}
use Rattle.model.specs.GreedyAppend.{closing, open', front_crossings, back_crossings}
use Rattle.laws.specs.Sums.Lists.{All, none, also, all_keep, all_upto, sum_pairs_ext, keep_keep, keep_swap, keep_true}
use Rattle.laws.specs.Sums.Pairs.{Symmetric}
use Rattle.laws.specs.Append.Isolated.{no_weight}
use Rattle.laws.specs.Layouts.Weights.{WithinWords, unit_within_words}
use Rattle.former.specs.Kept.{sum_over_kept, sum_pairs_kept, member_keep}

-- a test that drops isolated vertices alone
pub record Dropping (adj : List ℕ) (q : ℕ → Bool) : Type 0 where
  pub dropped : (v : ℕ) → q v ≡ false → has_edges adj v ≡ false

module _ {adj : List ℕ} {q : ℕ → Bool} (d : Dropping adj q) where
  pub passed : (v : ℕ) → has_edges adj v ≡ true → q v ≡ true
  passed v linked = by_test (q v) refl
    where
      by_test : (b : Bool) → q v ≡ b → b ≡ true
      by_test true e = refl
      by_test false e = absurd (true≢false (sym linked ∙ d.dropped v e))

  -- those with edges that are not placed are the same
  pub waiting_seen : (n : ℕ) (xs : List ℕ) → waiting n (has_edges adj) xs ≡ waiting n (has_edges adj) (keep q xs)
  unfolding waiting unplaced
  waiting_seen n xs =
      keep_keep (has_edges adj) (λ v. not (member v xs)) (upto n)
      ∙ (λ i. keep (λ v. by_test v (has_edges adj v) refl i) (upto n))
      ∙ sym (keep_keep (has_edges adj) (λ v. not (member v (keep q xs))) (upto n))
    where
      by_test : (v : ℕ) (b : Bool) → has_edges adj v ≡ b → (not (member v xs) && b) ≡ (not (member v (keep q xs)) && b)
      by_test v true e = rw (member_keep q v xs, passed v e)
      by_test v false e = and-false (not (member v xs)) ∙ sym (and-false (not (member v (keep q xs))))

  -- the weight of the edges to vertices
  weight_seen : {n : ℕ} {W : ℕ → ℕ → ℕ} → Symmetric n W → WithinWords n adj W → {u : ℕ} {us : List ℕ} → u < n → All (λ x. x < n) us
      → sum_over (W u) us ≡ sum_over (W u) (keep q us)
  weight_seen {W = W} symmetry bare {u} h below =
      sum_over_kept q (W u) below (λ x l e. symmetry.swap u x h l ∙ bare.none_from x l (d.dropped x e) u h)

-- one is the test for edges itself
linked_only : (adj : List ℕ) → Dropping adj (has_edges adj)
linked_only adj = record { dropped = λ v e. e }

module _ {n : ℕ} {adj : List ℕ} {W : ℕ → ℕ → ℕ} (symmetry : Symmetric n W) (bare : WithinWords n adj W) {q : ℕ → Bool} (d : Dropping adj q) where
  unplaced_seen : (c : ℕ → Bool) (xs : List ℕ) {u : ℕ} → u < n
      → sum_over (W u) (keep c (unplaced n xs)) ≡ sum_over (W u) (keep c (unplaced n (keep q xs)))
  unfolding unplaced waiting
  unplaced_seen c xs {u} h = to xs ∙ ap (λ (us : List ℕ). sum_over (W u) (keep c us)) (waiting_seen d n xs) ∙ sym (to (keep q xs))
    where
      to : (ys : List ℕ) → sum_over (W u) (keep c (unplaced n ys)) ≡ sum_over (W u) (keep c (waiting n (has_edges adj) ys))
      to ys =
          weight_seen (linked_only adj) symmetry bare h (all_keep c (all_keep (λ v. not (member v ys)) (all_upto n)))
          ∙ ap (sum_over (W u)) (keep_swap (has_edges adj) c (unplaced n ys))

  module _ {xs : List ℕ} (below : All (λ x. x < n) xs) {v : ℕ} (h : v < n) where
    -- what v's edge to p, if there is one, meets of the open ones at x: nothing where either is isolated
    met : List ℕ → ℕ → ℕ → ℕ
    met ys p x = closing n W ys v p * open' n W ys v x

    met_closing : (p x : ℕ) → p < n → q p ≡ false → met xs p x ≡ 0
    unfolding met closing
    met_closing p x k e = rw (symmetry.swap v p h k, bare.none_from p k (d.dropped p e) v h) (zero-mul _)

    met_open : (p x : ℕ) → x < n → q x ≡ false → met xs p x ≡ 0
    unfolding met open' unplaced
    met_open p x k e =
        rw (no_weight bare k (d.dropped x e) (all_keep (λ y. not (eqb v y)) (all_keep (λ y. not (member y xs)) (all_upto n)))) (mul-zero _)

    met_seen : (p x : ℕ) → x < n → met xs p x ≡ met (keep q xs) p x
    unfolding met closing open'
    met_seen p x k = ap (λ (e : ℕ). W v p * e) (unplaced_seen (λ y. not (eqb v y)) xs k)

    pub front_seen : front_crossings n W xs v ≡ front_crossings n W (keep q xs) v
    unfolding front_crossings met
    front_seen =
        sum_pairs_kept q (λ x p. met xs p x) below (λ x p k l. met_open p x k) (λ x p k l. met_closing p x l)
        ∙ sum_pairs_ext (λ x p. met xs p x) (λ x p. met (keep q xs) p x) (all_keep q below) (λ x p k l. met_seen p x k)

    pub back_seen : back_crossings n W xs v ≡ back_crossings n W (keep q xs) v
    unfolding back_crossings met
    back_seen =
        sum_pairs_kept q (met xs) below (λ p x k l. met_closing p x k) (λ p x k l. met_open p x l)
        ∙ sum_pairs_ext (met xs) (met (keep q xs)) (all_keep q below) (λ p x k l. met_seen p x l)

-- the choice goes by the words
module _ {n : ℕ} {adj : List ℕ} (symmetry : Symmetric n (unit_weight adj)) {q : ℕ → Bool} (d : Dropping adj q) {xs : List ℕ} (below : All (λ x. x < n) xs) where
  preferred_seen : {v u : ℕ} → v < n → u < n → preferred n adj xs v u ≡ preferred n adj (keep q xs) v u
  unfolding preferred degree_in
  preferred_seen {v} {u} h k =
      let bare = unit_within_words n adj in
      rw (
        weight_seen d symmetry bare h below,
        weight_seen d symmetry bare k below,
        simp keep_true at (unplaced_seen symmetry bare d (λ x. true) xs h),
        simp keep_true at (unplaced_seen symmetry bare d (λ x. true) xs k),
      )

  best_seen : {b : ℕ} {vs : List ℕ} → b < n → All (λ x. x < n) vs → best_of n adj xs b vs ≡ best_of n adj (keep q xs) b vs
  unfolding best_of
  best_seen h none = refl
  best_seen {b} h (also {x} {xs = vs} k ks) =
      ap (λ (t : Bool). best_of n adj xs (cond t x b) vs) (preferred_seen k h) ∙ best_seen {b = cond (preferred n adj (keep q xs) x b) x b} (by_test (preferred n adj (keep q xs) x b)) ks
    where
      by_test : (t : Bool) → cond t x b < n
      by_test true = k
      by_test false = h

  pub next_seen : {vs : List ℕ} → All (λ x. x < n) vs → next_vertex n adj xs vs ≡ next_vertex n adj (keep q xs) vs
  unfolding next_vertex
  next_seen none = refl
  next_seen (also h hs) = best_seen h hs
