-- Each crossing of the finished list is counted exactly once, at the step in which the first of its two edges closes: the other edge is open then, and its
-- end still to come will stand outside everything placed. What closes when; the theorems stand in proofs/Append/Once.antt.
use Prim.Native.Nat.{ℕ, suc, ◌*◌}
use Rattle.std.proofs.Math.Nat.{mul-zero}
use Rattle.std.proofs.Common.{◌∙◌}
use native.Mathlib.Omega.{arith}
use Rattle.std.specs.Prelude.{◌≡◌, Bool, ◌&&◌, ◌||◌, length}
use Rattle.std.proofs.Math.Path.{sym, ap}
use Rattle.std.proofs.Math.Bool.{not}
use mathlib.Core.List.{List, [], ◌∷◌, ◌++◌, append-nil, append_assoc}
use Rattle.model.specs.declared.Layout.{Layout}
use Rattle.model.specs.Lists.{one, sum_over, sum_pairs, member}
use Rattle.model.specs.Layouts.{weight}
use Rattle.model.specs.GreedyAppend.{unplaced, waiting, has_edges, Placing, alone, place_more, closing, open', front_crossings, back_crossings}
use Rattle.laws.specs.Sums.Lists.{sum_pairs_scale}
use Rattle.laws.specs.Crossings.Lists.{sum_quads}
use Rattle.laws.specs.Append.Order.{unplaced_front}
use Rattle.laws.specs.Append.Calls.{laid_out}

-- an edge is closed once both its ends are placed
unfoldable pub closed_in : List ℕ → ℕ → ℕ → Bool
closed_in xs a b = member a xs && member b xs

-- of the crossings of the finished list zs, those with an edge that is closed when xs are placed
unfoldable pub crossings_closed : (ℕ → ℕ → ℕ) → List ℕ → List ℕ → ℕ
crossings_closed W xs zs = sum_quads (λ a b c d. one (closed_in xs a c || closed_in xs b d) * (W a c * W b d)) zs

-- those whose first edge closes when ys are placed where xs were
unfoldable pub crossings_first : (ℕ → ℕ → ℕ) → List ℕ → List ℕ → List ℕ → ℕ
crossings_first W xs ys zs =
    sum_quads (λ a b c d. one ((closed_in ys a c || closed_in ys b d) && not (closed_in xs a c || closed_in xs b d)) * (W a c * W b d)) zs

-- the placed vertices stand side by side in the finished list: those still to come stand outside
pub record Around (xs zs : List ℕ) : Type 0 where
  pub ahead : List ℕ
  pub behind : List ℕ
  pub parts : zs ≡ ahead ++ (xs ++ behind)

-- ---- side by side, from the finished list back to the start

pub around_all : (xs : List ℕ) → Around xs xs
around_all xs = record { ahead = []; behind = []; parts = sym (append-nil xs) }

unfoldable pub around_front : {v : ℕ} {xs zs : List ℕ} → Around (v ∷ xs) zs → Around xs zs
around_front {v} {xs} r =
    record {
      ahead = r.ahead ++ (v ∷ []);
      behind = r.behind;
      parts = r.parts ∙ sym (append_assoc r.ahead (v ∷ []) (xs ++ r.behind));
    }

unfoldable pub around_back : (v : ℕ) (xs : List ℕ) {zs : List ℕ} → Around (xs ++ (v ∷ [])) zs → Around xs zs
around_back v xs r =
    record {
      ahead = r.ahead;
      behind = v ∷ r.behind;
      parts = r.parts ∙ ap (λ (ys : List ℕ). r.ahead ++ ys) (append_assoc xs (v ∷ []) r.behind);
    }

-- ---- the call lay

-- the last vertex adds nothing, as no edge is open
module _ (n : ℕ) (W : ℕ → ℕ → ℕ) (xs : List ℕ) (v : ℕ) (done : unplaced n (v ∷ xs) ≡ []) where
  no_open : (q : ℕ) → open' n W xs v q ≡ 0
  unfolding open' sum_over
  no_open q = ap (sum_over (W q)) (sym (unplaced_front n xs v) ∙ done)

  pub last_adds_nothing : (front_crossings n W xs v ≡ 0) × (back_crossings n W xs v ≡ 0)
  unfolding front_crossings back_crossings
  last_adds_nothing = (
    (λ i. sum_pairs (λ q p. closing n W xs v p * no_open q i) xs) ∙ simp mul-zero (omega (arith, sum_pairs_scale 0 (λ q p. 0) xs)),
    (λ i. sum_pairs (λ p q. closing n W xs v p * no_open q i) xs) ∙ simp mul-zero (omega (arith, sum_pairs_scale 0 (λ p q. 0) xs)),
  )

module _ (l : Layout) (s : ℕ) where
  -- the list and the tally after k of the steps that place the vertices with edges
  abbrev pub after : ℕ → Placing
  after k = place_more l.n l.adjacency (weight l) (has_edges l.adjacency) k (alone s)

  abbrev pub steps : ℕ
  steps = length (waiting l.n (has_edges l.adjacency) (s ∷ []))

  -- the crossings of the finished order whose first edge closes in the step after these k
  abbrev pub first_in : ℕ → ℕ
  first_in k = crossings_first (weight l) (after k).placed (after (suc k)).placed (laid_out l s).placed
