-- One more vertex placed: what a step is, how many are still to come, and that the rest is the rest of the definition.
use Prim.Native.Nat.{ℕ, suc, ◌+◌, ◌%◌, ◌≤◌, ◌<◌}
use Rattle.std.proofs.Common.{arith, ◌∙◌}
use Rattle.std.specs.Prelude.{◌≡◌, length}
use Rattle.std.proofs.Math.Path.{sym, ap, subst}
use mathlib.Core.List.{List}
use Rattle.model.specs.GreedyAppend.{Placing, waiting, has_edges}
use Rattle.model.specs.GreedyAppend.{place_vertex, place_more}
use Rattle.laws.specs.Tables.Rows.{table_weight, TakenRow}
use Rattle.laws.specs.Append.Calls.{step_waiting}
use Rattle.append_ends.specs.Ends.{most_at_end}
use Rattle.append_choice.specs.Choices.{best_below}
use Rattle.append.specs.declared.steps.Partial.{Partial}
use Rattle.append.specs.Steps.{Graph, Stepped, PlacedUpTo, placing_of, placed_of, to_come, step_right, step_room, next_is, next_waits}

module _ {n : ℕ} {adj ws : List ℕ} (g : Graph n adj ws) {first : ℕ} where
  module _ {s : Partial} {opens : List ℕ} (p : PlacedUpTo n adj ws first s opens) {v : ℕ} (found : v ≡ (best_below n adj s.placed n).vertex) (h : v < n) where
    -- of the table that the open edges go by, before and after the row is taken away
    module _ {before after left : List ℕ} {r : Partial} (same : before ≡ ws) (kept : after ≡ before) (t : TakenRow before (v % 64) opens left)
        (e : r ≡ placed_of after left s v) where
      taken : TakenRow ws (v % 64) opens left
      taken = subst (λ (k : List ℕ). TakenRow k (v % 64) opens left) same t

      stepped : Stepped n ws s v left r
      stepped =
          subst (Stepped n ws s v left) (sym (e ∙ ap (λ (k : List ℕ). placed_of k left s v) (kept ∙ same)))
          (step_right g p.underway (next_waits g p found h) taken)

      -- one more place is taken
      pub place_less : (s.line.size < n) × (r.line.size ≡ s.line.size + 1)
      place_less = (step_room g p.underway (next_waits g p found h), stepped.size)

      -- and one less is to come
      to_come_less : suc (length (to_come n adj r)) ≡ length (to_come n adj s)
      unfolding placing_of
      to_come_less =
          ap (λ (x : Placing). suc (length (waiting n (has_edges adj) x.placed))) stepped.step
          ∙ step_waiting n (table_weight ws) (placing_of s) (next_waits g p found h)

      pub place_next_lem : r.tally ≤ s.tally + most_at_end → PlacedUpTo n adj ws first r left
      unfolding place_more placing_of
      place_next_lem few =
          record {
            underway =
                record {
                  part = stepped.part;
                  open_edges = stepped.open_edges;
                  size = taken.size;
                  bounded = omega (arith, p.underway.bounded, stepped.size);
                };
            rest =
                ap (place_more n adj (table_weight ws) (has_edges adj) (length (to_come n adj r)))
                (stepped.step ∙ ap (place_vertex n (table_weight ws) (placing_of s)) (next_is g p found h).1)
                ∙ ap (λ (k : ℕ). place_more n adj (table_weight ws) (has_edges adj) k (placing_of s)) to_come_less
                ∙ p.rest;
          }
