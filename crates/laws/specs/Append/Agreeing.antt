-- Two weights that agree on all vertices: greedy append places alike by either.
use Prim.Native.Nat.{ℕ, zero, suc, ◌+◌, ◌*◌, ◌<◌}
use Rattle.std.proofs.Common.{arith, ◌∙◌}
use Rattle.std.specs.Prelude.{◌≡◌, Bool, length, eqb, ltb}
use Rattle.std.proofs.Math.Path.{refl, ap, ap₂}
use Rattle.std.proofs.Math.Bool.{not, cond}
use mathlib.Core.List.{List, [], ◌∷◌, ◌++◌}
use Rattle.model.specs.GreedyAppend.{waiting, isolated, has_edges, next_vertex, closing, open', front_crossings, back_crossings}
use Rattle.model.specs.GreedyAppend.{Placing, alone, place_front, place_back, place_vertex, place_at_back, place_more, place_linked, place_all}
use Rattle.laws.specs.Sums.Lists.{All, none, also, all_append, all_mono, all_keep, sum_over_ext, sum_pairs_ext}
use Rattle.laws.specs.Append.Order.{all_waiting, all_unplaced, next_among}
use Rattle.laws.specs.Append.Calls.{either_end}

module _ {n : ℕ} {U W : ℕ → ℕ → ℕ} (agree : (a b : ℕ) → a < n → b < n → U a b ≡ W a b) where
  -- ---- a step

  abbrev Below : List ℕ → Type 0
  Below xs = All (λ x. x < n) xs

  module _ {xs : List ℕ} (below : Below xs) {v : ℕ} (h : v < n) where
    open_agrees : (q : ℕ) → q < n → open' n U xs v q ≡ open' n W xs v q
    unfolding open'
    open_agrees q k =
        sum_over_ext (U q) (W q) (all_keep (λ x. not (eqb v x)) (all_mono (all_unplaced n xs) (λ x p. p.0))) (λ x l. agree q x k l)

    front_agrees : front_crossings n U xs v ≡ front_crossings n W xs v
    unfolding front_crossings closing
    front_agrees =
        sum_pairs_ext (λ q p. U v p * open' n U xs v q) (λ q p. W v p * open' n W xs v q) below
        (λ q p k l. ap₂ (λ (x y : ℕ). x * y) (agree v p h l) (open_agrees q k))

    back_agrees : back_crossings n U xs v ≡ back_crossings n W xs v
    unfolding back_crossings closing
    back_agrees =
        sum_pairs_ext (λ p q. U v p * open' n U xs v q) (λ p q. W v p * open' n W xs v q) below
        (λ p q k l. ap₂ (λ (x y : ℕ). x * y) (agree v p h k) (open_agrees q l))

  module _ (s : Placing) (below : Below s.placed) {v : ℕ} (h : v < n) where
    back_same : place_back n U s v ≡ place_back n W s v
    unfolding place_back
    back_same = ap (λ (c : ℕ). record { placed = s.placed ++ (v ∷ []); tally = s.tally + c }) (back_agrees below h)

    front_same : place_front n U s v ≡ place_front n W s v
    unfolding place_front
    front_same = ap (λ (c : ℕ). record { placed = v ∷ s.placed; tally = s.tally + c }) (front_agrees below h)

    vertex_same : place_vertex n U s v ≡ place_vertex n W s v
    unfolding place_vertex
    vertex_same =
        ap₂ (λ (x y : ℕ). cond (ltb x y) (place_front n U s v) (place_back n U s v)) (front_agrees below h) (back_agrees below h)
        ∙ ap₂ (λ (x y : Placing). cond (ltb (front_crossings n W s.placed v) (back_crossings n W s.placed v)) x y) front_same back_same

    vertex_below : Below (place_vertex n W s v).placed
    unfolding place_front place_back
    vertex_below = either_end n W (λ (p : Placing). Below p.placed) s v (also h below) (all_append below (also h none))

  -- ---- all steps

  at_back_same : (s : Placing) → Below s.placed → {vs : List ℕ} → Below vs → place_at_back n U s vs ≡ place_at_back n W s vs
  unfolding place_at_back place_back
  at_back_same s below none = refl
  at_back_same s below (also {x = v} {xs = vs} h hs) =
      ap (λ (p : Placing). place_at_back n U p vs) (back_same s below h) ∙ at_back_same (place_back n W s v) (all_append below (also h none)) hs

  module _ (adj : List ℕ) (some : 0 < n) where
    next_below : (p : ℕ → Bool) (xs : List ℕ) → next_vertex n adj xs (waiting n p xs) < n
    unfolding next_vertex
    next_below p xs = from (waiting n p xs) (all_mono (all_waiting n p xs) (λ v w. w.below))
      where
        from : (vs : List ℕ) → Below vs → next_vertex n adj xs vs < n
        from [] below = some
        from (v ∷ vs) below = next_among n adj xs below (omega arith)

    more_same : (p : ℕ → Bool) (k : ℕ) (s : Placing) → Below s.placed
        → (place_more n adj U p k s ≡ place_more n adj W p k s) × Below (place_more n adj W p k s).placed
    unfolding place_more
    more_same p zero s below = (refl, below)
    more_same p (suc k) s below =
        let v = next_vertex n adj s.placed (waiting n p s.placed) in
        let h = next_below p s.placed in
        let rest = more_same p k (place_vertex n W s v) (vertex_below s below h) in
        (ap (place_more n adj U p k) (vertex_same s below h) ∙ rest.0, rest.1)

  pub all_same : (adj : List ℕ) (s : ℕ) → s < n → place_all n adj U s ≡ place_all n adj W s
  unfolding place_all place_linked alone
  all_same adj s h =
      let linked = more_same adj (omega arith) (has_edges adj) (length (waiting n (has_edges adj) (s ∷ []))) (alone s) (also h none) in
      ap (λ (p : Placing). place_at_back n U p (waiting n (isolated adj) p.placed)) linked.0
      ∙ at_back_same (place_linked n adj W s) linked.1
      (all_mono (all_waiting n (isolated adj) (place_linked n adj W s).placed) (λ v w. w.below))
