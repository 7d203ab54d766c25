-- An isolated vertex has no edge to close: it makes no crossing at either end, and put at the back it leaves the tally.
use Rattle.std.specs.Prelude.{ℕ, ◌+◌, ◌*◌, ◌<◌, ◌≡◌, false}
use Rattle.std.proofs.Math.Nat.{add-zero, zero-mul}
use Rattle.std.proofs.Common.{arith, sym, ◌∙◌}
use Rattle.std.proofs.Math.Path.{ap, ap₂}
use Rattle.std.proofs.Math.Bool.{not}
use mathlib.Core.List.{List, ◌∷◌, [], ◌++◌, append-nil, append_assoc}
use Rattle.model.specs.Lists.{sum_over}
use Rattle.model.specs.GreedyAppend.{waiting, isolated, has_edges, closing, open', front_crossings, back_crossings, Placing, place_back, place_at_back}
use Rattle.laws.specs.Sums.Lists.{All, none, also, all_append, all_mono, sum_over_ext, sum_over_scale, sum_pairs_ext, sum_pairs_scale}
use Rattle.laws.specs.Layouts.Weights.{WithinWords}
use Rattle.laws.specs.Append.Order.{all_waiting}

-- v is a vertex, and has no edges
abbrev Lone : ℕ → List ℕ → ℕ → Type 0
Lone n adj v = (v < n) × (has_edges adj v ≡ false)

module _ {n : ℕ} {adj : List ℕ} {W : ℕ → ℕ → ℕ} (within : WithinWords n adj W) where
  pub no_weight : {v : ℕ} → v < n → has_edges adj v ≡ false → {us : List ℕ} → All (λ u. u < n) us → sum_over (W v) us ≡ 0
  no_weight {v} h lone {us} below =
      sum_over_ext (W v) (λ u. 0) below (λ u k. within.none_from v h lone u k) ∙ omega (arith, sum_over_scale 0 (λ u. 0) us)

  -- it meets no crossing, at either end
  module _ {v : ℕ} (h : v < n) (lone : has_edges adj v ≡ false) {xs : List ℕ} (below : All (λ x. x < n) xs) where
    no_closing : (p x : ℕ) → p < n → W v p * x ≡ 0 * x
    no_closing p x k = ap (λ (w : ℕ). w * x) (within.none_from v h lone p k)

    pub front_none : front_crossings n W xs v ≡ 0
    unfolding front_crossings closing
    front_none =
        sum_pairs_ext (λ q p. W v p * open' n W xs v q) (λ q p. 0 * open' n W xs v q) below (λ q p k m. no_closing p (open' n W xs v q) m)
        ∙ sum_pairs_scale 0 (λ q p. open' n W xs v q) xs ∙ zero-mul _

    pub back_none : back_crossings n W xs v ≡ 0
    unfolding back_crossings closing
    back_none =
        sum_pairs_ext (λ p q. W v p * open' n W xs v q) (λ p q. 0 * open' n W xs v q) below (λ p q k m. no_closing p (open' n W xs v q) k)
        ∙ sum_pairs_scale 0 (λ p q. open' n W xs v q) xs ∙ zero-mul _

  -- isolated vertices at the back
  at_back_lem : (s : Placing) → All (λ x. x < n) s.placed → {vs : List ℕ} → All (Lone n adj) vs
      → place_at_back n W s vs ≡ record { placed = s.placed ++ vs; tally = s.tally }
  unfolding place_at_back place_back
  at_back_lem s below none = ap (λ (xs : List ℕ). record { placed = xs; tally = s.tally }) (sym (append-nil s.placed))
  at_back_lem s below (also {x = v} {xs = vs} lone more) =
      at_back_lem (place_back n W s v) (all_append below (also lone.0 none)) more
      ∙ ap₂ (λ (xs : List ℕ) (t : ℕ). record { placed = xs; tally = t })
      (append_assoc s.placed (v ∷ []) vs)
      (ap (λ (k : ℕ). s.tally + k) (back_none lone.0 lone.1 below) ∙ add-zero s.tally)

  pub isolated_at_back : (s : Placing) → All (λ x. x < n) s.placed
      → let rest = waiting n (isolated adj) s.placed in
      place_at_back n W s rest ≡ record { placed = s.placed ++ rest; tally = s.tally }
  unfolding has_edges
  isolated_at_back s below =
      at_back_lem s below (all_mono (all_waiting n (isolated adj) s.placed) (λ v w. (w.below, ap not w.passes)))
