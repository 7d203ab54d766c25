-- A vertex added crosses nothing, so the count is the one before.
use Prim.Native.Nat.{ℕ, suc, ◌+◌, ◌<◌}
use Rattle.std.proofs.Common.{add-zero, arith, ap, ap₂, ◌∙◌, take-suc-set}
use Rattle.std.proofs.Math.Numerals.{add-one}
use Rattle.std.specs.Prelude.{◌≡◌, length, T}
use Rattle.std.proofs.Math.Path.{sym}
use mathlib.Core.List.{List, [], ◌∷◌, ◌++◌}
use Rattle.std.proofs.Math.ListN.{set}
use Rattle.model.specs.declared.Layout.{Layout}
use Rattle.model.specs.Crossings.{crossings}
use Rattle.model.specs.Layouts.{vertex_order, weight, crossings_of, valid, modulus, carried, changed}
use Rattle.model.specs.Edits.{added}
use Rattle.laws.specs.Orders.Permutations.{at, Permutation, at_lt}
use Rattle.laws.specs.Orders.Moves.{at_left, at_right}
use Rattle.laws.specs.Crossings.Counting.{placed}
use Rattle.laws.proofs.Crossings.Counting.{crossing_sum_last}
use Rattle.laws.specs.Crossings.Edges.{crossings_sum}
use Rattle.laws.specs.Layouts.Validity.{sound, valid_symmetric}
use Rattle.laws.specs.Layouts.Reordering.{carried_same}
use Rattle.laws.specs.Layouts.VertexEdits.{permutation_more, no_edge_to, symmetric_more}

module _ (l : Layout) (t : T (valid l)) (room : l.n < 64) where
  -- so it crosses nothing
  pub crossings_added : crossings (suc l.n) (vertex_order l ++ (l.n ∷ [])) (weight l) ≡ crossings l.n (vertex_order l) (weight l)
  crossings_added =
      crossings_sum (permutation_more perm) (weight l) (symmetric_more l t room)
      ∙ crossing_sum_last l.n (placed more (weight l)) (placed (vertex_order l) (weight l))
      (λ i j a b. ap₂ (weight l) (kept i a) (kept j b))
      (λ i a. ap₂ (weight l) (kept i a) last ∙ no_edge_to l t room (at (vertex_order l) i) (omega (arith, at_lt perm i a)))
      ∙ sym (crossings_sum perm (weight l) (valid_symmetric l t))
    where
      perm : Permutation l.n (vertex_order l)
      perm = (sound l t).permutation

      more : List ℕ
      more = vertex_order l ++ (l.n ∷ [])

      kept : (i : ℕ) → i < l.n → at more i ≡ at (vertex_order l) i
      kept i a = at_left (vertex_order l) (l.n ∷ []) l.n i perm.size a

      last : at more l.n ≡ l.n
      last = ap (at more) (sym (add-zero l.n)) ∙ at_right (vertex_order l) (l.n ∷ []) l.n 0 perm.size

  module _ (size : length l.order ≡ 64) where
    -- and its count is the one before
    pub added_kept : {places : List ℕ} → l.count < modulus → places ≡ set l.order l.n l.n
        → record { n = l.n + 1; order = places; adjacency = l.adjacency; weights = l.weights; count = l.count } ≡ added l
    unfolding added changed crossings_of vertex_order weight
    added_kept h e =
        rw (e, add-one l.n)
        (ap (λ (x : ℕ). record { n = suc l.n; order = set l.order l.n l.n; adjacency = l.adjacency; weights = l.weights; count = x })
        (sym
        (ap (carried l.count (crossings_of l))
        (ap (λ (o : List ℕ). crossings (suc l.n) o (weight l)) (take-suc-set l.order l.n l.n (omega arith)) ∙ crossings_added)
        ∙ carried_same l.count (crossings_of l) h)))
