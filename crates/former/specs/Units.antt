-- Where each link has weight 1, the calls keep layouts in which every edge weighs 1.
use Rattle.std.specs.Prelude.{ℕ, ◌≤◌, ◌<◌, ◌≡◌, List, length}
use Rattle.std.proofs.Math.Decide.{ℕ_discrete}
use Rattle.std.proofs.Common.{arith, sym, subst}
use Rattle.model.specs.declared.Layout.{Layout}
use Rattle.model.specs.Answers.{Added}
use Rattle.model.specs.Answers.{Appended}
use Rattle.model.specs.declared.Call.{Call}
use Rattle.model.specs.declared.Call.TheVariants as call
use Rattle.model.specs.Layouts.{table_places, changed, reordered}
use Rattle.model.specs.Edits.{with_bit, without_bit, at_both_ends, both_ways, with_edges, added, add_checks, add_answer, add_refused, add_of}
use Rattle.model.specs.Edits.{link_checks, link_of, unlink_checks, unlink_of, move_checks, move_of}
use Rattle.model.specs.GreedyAppend.{lay_checks, lay_answer, lay_refused, lay_of}
use Rattle.model.specs.Sifting.{sift_of, round_of, settle_of}
use Rattle.model.specs.Histories.{answer_of}
use Rattle.laws.specs.Tables.Edits.{both_there, both_back, both_other}
use Rattle.laws.specs.Layouts.Units.{Unit}
use Rattle.laws.specs.Layouts.EdgeEdits.{both}
use Rattle.laws.specs.Layouts.Refusals.{Pair, checked_either, changed_either, within_capacity, link_pair, unlink_pair}
use Rattle.laws.specs.Layouts.Reordering.{moved_layout}
use Rattle.laws.specs.Append.Calls.{laid_out}
use Rattle.laws.specs.Sifting.Candidates.{sifted_rearranged}
use Rattle.laws.specs.Sifting.Rounds.{round_reduced, settled_rearranged}
use Rattle.laws.specs.Sifting.Calls.{sift_either, round_either, settle_either}
use Rattle.history.specs.StepLaws.{Whole}

-- a call that names no weight but 1
pub data UnitCall : Call → Type 0 where
  adding : UnitCall call.AddVertex
  linking : {a b : ℕ} → UnitCall (call.AddEdge a b 1)
  unlinking : {a b : ℕ} → UnitCall (call.RemoveEdge a b)
  moving : {a b : ℕ} → UnitCall (call.MoveAfter a b)
  laying : {s : ℕ} → UnitCall (call.GreedyAppend s)
  sifting : {u : ℕ} → UnitCall (call.Sift u)
  sifting_round : UnitCall call.SiftingRound
  converging : {limit : ℕ} → UnitCall (call.Converge limit)

set_unit : (ws : List ℕ) (a b w : ℕ) → length ws ≡ table_places → a < 64 → b < 64 → (a ≡ b → ⊥) → w ≤ 1 → Unit ws → Unit (both_ways ws a b w)
set_unit ws a b w size first second different few i =
    record {
      unit = λ u v h k. elim (both (ℕ_discrete u a) (ℕ_discrete v b)) [
        | yes p ↦ rw (p.0, p.1, both_there ws a b w size first second different) few
        | no p ↦
            elim (both (ℕ_discrete u b) (ℕ_discrete v a)) [
              | yes q ↦ rw (q.0, q.1, both_back ws a b w size first second) few
              | no q ↦ rw (both_other ws a b w size first second u v k (λ x y. p (x, y)) (λ x y. q (x, y))) (i.unit u v h k)
            ]
      ];
    }

module _ (l : Layout) (r : Whole l) (i : Unit l.weights) where
  abbrev UnitAfter : Layout → Type 0
  UnitAfter m = Unit m.weights

  add_unit : UnitAfter (add_of l).layout
  unfolding add_of added changed
  add_unit = checked_either (add_checks l) (add_answer l) (add_refused l) (λ (a : Added). UnitAfter a.layout) (λ e. i) (λ k. i)

  module _ (a b : ℕ) where
    paired : (w : ℕ) → w ≤ 1 → Pair l a b → Unit (both_ways l.weights a b w)
    paired w few p =
        set_unit l.weights a b w r.sized.table (within_capacity p).0 (within_capacity p).1 p.different few i

    link_unit : UnitAfter (link_of l a b 1).layout
    unfolding link_of with_edges changed
    link_unit =
        changed_either l (link_checks l a b 1) (with_edges l (at_both_ends with_bit l.adjacency a b) (both_ways l.weights a b 1)) UnitAfter
        (λ e. paired 1 (omega arith) (link_pair l a b 1 e)) i

    unlink_unit : UnitAfter (unlink_of l a b).layout
    unfolding unlink_of with_edges changed
    unlink_unit =
        changed_either l (unlink_checks l a b) (with_edges l (at_both_ends without_bit l.adjacency a b) (both_ways l.weights a b 0)) UnitAfter
        (λ e. paired 0 (omega arith) (unlink_pair l a b e)) i

    move_unit : UnitAfter (move_of l a b).layout
    unfolding move_of reordered changed
    move_unit = changed_either l (move_checks l a b) (moved_layout l a b) UnitAfter (λ e. i) i

  lay_unit : (s : ℕ) → UnitAfter (lay_of l s).layout
  unfolding lay_of reordered changed
  lay_unit s = checked_either (lay_checks l s) (lay_answer l (laid_out l s)) (lay_refused l) (λ (a : Appended). UnitAfter a.layout) (λ e. i) (λ k. i)

  same_unit : {ws : List ℕ} → ws ≡ l.weights → Unit ws
  same_unit e = subst Unit (sym e) i

  sift_unit : (u : ℕ) → UnitAfter (sift_of l u).layout
  sift_unit u = sift_either l u UnitAfter (λ t h. same_unit (sifted_rearranged l t u h).same_weights) i

  round_unit : UnitAfter (round_of l).layout
  round_unit = round_either l UnitAfter (λ t. same_unit (round_reduced l t).rearranged.same_weights) i

  settle_unit : (limit : ℕ) → UnitAfter (settle_of l limit).layout
  settle_unit limit = settle_either l limit UnitAfter (λ t. same_unit (settled_rearranged limit l t).same_weights) i

pub call_unit : (l : Layout) {c : Call} → Whole l → Unit l.weights → UnitCall c → Unit (answer_of l c).layout.weights
unfolding answer_of
call_unit l r i adding = add_unit l r i
call_unit l r i (linking {a} {b}) = link_unit l r i a b
call_unit l r i (unlinking {a} {b}) = unlink_unit l r i a b
call_unit l r i (moving {a} {b}) = move_unit l r i a b
call_unit l r i (laying {s}) = lay_unit l r i s
call_unit l r i (sifting {u}) = sift_unit l r i u
call_unit l r i sifting_round = round_unit l r i
call_unit l r i (converging {limit}) = settle_unit l r i limit
