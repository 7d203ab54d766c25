-- What an accepted call of a list gives on a valid layout: its sifts and rounds are proper ones, and its answer counts them.
use Rattle.std.specs.Prelude.{ℕ, ◌<◌, refl, Bool, true, false, length, T, eqb}
use Rattle.std.proofs.Common.{add-zero, arith, sym, ap, ◌∙◌, subst}
use Rattle.std.proofs.Math.Path.{◌≡◌}
use Rattle.std.proofs.lemmas.Bool.{false≢true}
use mathlib.Core.List.{◌++◌, flat_map, append-nil}
use Rattle.model.specs.declared.Layout.{Layout}
use Rattle.model.specs.Answers.{Converged}
use Rattle.model.specs.declared.Call.{Call}
use Rattle.model.specs.declared.Call.TheVariants as call
use Rattle.model.specs.Lists.{one, sum_over, All}
use Rattle.model.specs.Layouts.{crossings_of, valid}
use Rattle.model.specs.Search.{Round, Sweep, no_sift, one_sift, one_round, some_rounds, rounds_run, sift_run, sifts_of_all, round_at, round_by}
use Rattle.model.specs.Sifting.{ring, optima_of, optima_at, optima_in, sift_of, sift_round, swept, round_of, sifts_of_round, settled, rounds_up_to, settle_of}
use Rattle.model.specs.Histories.{Start, empty, read, imported, outcome, of_added, of_changed, of_appended, of_sifted, of_rounded}
use Rattle.model.specs.Histories.{of_converged, answer_of, sweep_of}
use Rattle.model.specs.Histories.{sifting, sift_called, rounds_of_call, rounds_due, says_converged, optima_told, LocalMinimum}
use Rattle.laws.specs.Sifting.Sweeps.{SweepFacts, nothing_swept, sweep_facts, swept_to, Names, rounds_spent}
use Rattle.laws.specs.Sifting.Rounds.{Valid, lawful, settled_minimum}
use Rattle.laws.specs.Sifting.Calls.{sift_passed, sift_accepted, sift_refused_lem}
use Rattle.laws.proofs.Sifting.Calls.{sift_keeps}
use Rattle.laws.specs.Sifting.Calls.{round_passed, round_accepted, round_refused_lem}
use Rattle.laws.proofs.Sifting.Calls.{round_keeps}
use Rattle.laws.specs.Sifting.Calls.{settle_passed, settle_accepted, settle_refused_lem}
use Rattle.laws.proofs.Sifting.Calls.{settle_keeps}
use Rattle.laws.specs.Layouts.Reordering.{Keeps, move_refused}
use Rattle.laws.proofs.Layouts.Reordering.{move_keeps}
use Rattle.laws.specs.Layouts.EditCalls.{add_refused_lem, link_refused, unlink_refused}
use Rattle.laws.proofs.Layouts.EditCalls.{add_keeps, link_keeps, unlink_keeps}
use Rattle.laws.specs.Append.Calls.{lay_refused_lem}
use Rattle.laws.proofs.Append.Calls.{lay_keeps}
use Rattle.laws.specs.Layouts.Sizes.{Sized, empty_sized, add_sized, link_sized, unlink_sized, move_sized}
use Rattle.laws.specs.Charts.Reading.{read_sized}
use Rattle.laws.proofs.Append.Calls.{lay_sized}
use Rattle.laws.specs.Sifting.Calls.{sift_sized, round_sized}
use Rattle.laws.specs.Sifting.Calls.{settle_sized}
use Rattle.laws.specs.Graph6.Imports.{imported_valid, imported_sized}
use Rattle.laws.specs.Charts.Reading.{empty_valid, empty_count, read_valid}

-- what an accepted call gives
pub record CallFacts (l : Layout) (c : Call) : Type 0 where
  pub run : SweepFacts ring Valid l (sweep_of c)
  pub number : length (rounds_of_call l c) ≡ rounds_due c (answer_of l c)
  pub minimum : T (says_converged c (answer_of l c)) → LocalMinimum (answer_of l c).layout
  pub spent : (limit : ℕ) → c ≡ call.Converge limit → (answer_of l c).third ≡ 0
      → ((answer_of l c).second ≡ limit) × All (λ (r : Round Layout). 0 < r.moved) (rounds_of_call l c)
  pub optima_are : optima_told c (answer_of l c) ≡ sum_over optima_at (sift_called l c ++ flat_map sifts_of_round (rounds_of_call l c))
  pub reached : T (sifting c) → swept_to ring l (sweep_of c) ≡ (answer_of l c).layout

-- ---- sift

module _ (l : Layout) (u : ℕ) where
  sift_facts : (sift_of l u).refusal ≡ 0 → CallFacts l (call.Sift u)
  unfolding answer_of sweep_of sift_run rounds_run rounds_due optima_told says_converged flat_map sum_over swept_to Names
  sift_facts e =
      let p = sift_passed l u e in
      let same = sift_accepted l u p.0 p.1 in
      record {
        run = sweep_facts ring Valid lawful l p.0 (one_sift u) p.1;
        number = refl;
        minimum = λ f. absurd f;
        spent = λ limit d. let z : ◌≡◌ {A = ℕ} 0 1 = cc in absurd (omega arith);
        optima_are = rw same (sym (add-zero (optima_of l u)));
        reached = λ f. rw same refl;
      }

-- ---- round

module _ (l : Layout) where
  round_facts : (round_of l).refusal ≡ 0 → CallFacts l call.SiftingRound
  unfolding answer_of sweep_of sift_run rounds_run rounds_due optima_told says_converged flat_map swept_to Names round_at round_by sift_round
      swept optima_in
  round_facts e =
      let t = round_passed l e in
      let same = round_accepted l t in
      record {
        run = sweep_facts ring Valid lawful l t one_round tt;
        number = refl;
        minimum = λ f. absurd f;
        spent = λ limit d. let z : ◌≡◌ {A = ℕ} 0 1 = cc in absurd (omega arith);
        optima_are = rw same (sym (ap (sum_over optima_at) (append-nil (sifts_of_all ring l))));
        reached = λ f. rw same refl;
      }

-- ---- settle

one_true : (b : Bool) → T (eqb (one b) 1) → b ≡ true
unfolding one
one_true true t = refl
one_true false t = absurd t

one_false : (b : Bool) → one b ≡ 0 → b ≡ false
unfolding one
one_false true e = absurd (omega arith)
one_false false e = refl

module _ (l : Layout) (limit : ℕ) where
  settle_facts : (settle_of l limit).refusal ≡ 0 → CallFacts l (call.Converge limit)
  unfolding answer_of sweep_of sift_run rounds_run rounds_due optima_told says_converged swept_to Names rounds_up_to settled optima_in
  settle_facts e =
      let p = settle_passed l limit e in
      let same = settle_accepted l limit p.0 p.1 p.2 in
      record {
        run = sweep_facts ring Valid lawful l p.0 (some_rounds limit) tt;
        number = rw same refl;
        minimum = rw same (λ f. settled_minimum limit l p.0 (one_true (rounds_up_to limit l).converged f));
        spent = λ k d z.
            let all = rounds_spent ring limit l (one_false (rounds_up_to limit l).converged (ap (λ (c : Converged). one c.converged) (sym same) ∙ z)) in
            (ap (λ (c : Converged). c.rounds) same ∙ all.0 ∙ cc, all.1);
        optima_are = rw same refl;
        reached = λ f. rw same refl;
      }

-- ---- the other calls sift nothing

no_sifts : (l : Layout) (c : Call) → sweep_of c ≡ no_sift → rounds_due c (answer_of l c) ≡ 0 → optima_told c (answer_of l c) ≡ 0
    → says_converged c (answer_of l c) ≡ false → sifting c ≡ false → CallFacts l c
unfolding sweep_of sift_run rounds_run flat_map sum_over sifting
no_sifts l c e due told says sifts =
    record {
      run = subst (SweepFacts ring Valid l) (sym e) (nothing_swept ring Valid l);
      number = ap (λ (w : Sweep). length (rounds_run ring l w)) e ∙ sym due;
      minimum = λ f. absurd (subst T says f);
      spent = λ limit d. absurd (false≢true (sym sifts ∙ ap sifting d));
      optima_are = told ∙ ap (λ (w : Sweep). sum_over optima_at (sift_run ring l w ++ flat_map sifts_of_round (rounds_run ring l w))) (sym e);
      reached = λ f. absurd (subst T sifts f);
    }

-- an accepted call
pub call_facts : (l : Layout) (c : Call) → (answer_of l c).refusal ≡ 0 → CallFacts l c
unfolding answer_of sweep_of rounds_due optima_told says_converged sifting
call_facts l (call.Sift u) e = sift_facts l u e
call_facts l call.SiftingRound e = round_facts l e
call_facts l (call.Converge limit) e = settle_facts l limit e
call_facts l call.AddVertex e = no_sifts l call.AddVertex refl refl refl refl refl
call_facts l (call.AddEdge a b w) e = no_sifts l (call.AddEdge a b w) refl refl refl refl refl
call_facts l (call.RemoveEdge a b) e = no_sifts l (call.RemoveEdge a b) refl refl refl refl refl
call_facts l (call.MoveAfter a b) e = no_sifts l (call.MoveAfter a b) refl refl refl refl refl
call_facts l (call.GreedyAppend s) e = no_sifts l (call.GreedyAppend s) refl refl refl refl refl

-- ---- every call, refused or accepted, keeps what the layouts of a list have

-- a valid layout with all its places, whatever count it carries
pub record Whole (l : Layout) : Type 0 where
  pub is_valid_lem : T (valid l)
  pub sized : Sized l

-- and with its true count
pub record Right (l : Layout) : Type 0 where
  pub whole : Whole l
  pub counted : l.count ≡ crossings_of l

record Kept (l m : Layout) : Type 0 where
  whole_kept : Whole m
  count_kept : l.count ≡ crossings_of l → m.count ≡ crossings_of m

kept : {l m : Layout} → Whole l → Keeps l m → Sized m → Kept l m
kept r k s = let v = k r.is_valid_lem in record { whole_kept = record { is_valid_lem = v.0; sized = s }; count_kept = v.1 }

call_kept : (l : Layout) (c : Call) → Whole l → Kept l (answer_of l c).layout
unfolding answer_of
call_kept l call.AddVertex r = kept r (add_keeps l r.sized) (add_sized l r.sized)
call_kept l (call.AddEdge a b w) r = kept r (link_keeps l a b w r.sized) (link_sized l a b r.sized w)
call_kept l (call.RemoveEdge a b) r = kept r (unlink_keeps l a b r.sized) (unlink_sized l a b r.sized)
call_kept l (call.MoveAfter a b) r = kept r (move_keeps l a b) (move_sized l r.sized a b)
call_kept l (call.GreedyAppend s) r = kept r (lay_keeps l s) (lay_sized l r.sized s)
call_kept l (call.Sift u) r = kept r (sift_keeps l u) (sift_sized l r.sized u)
call_kept l call.SiftingRound r = kept r (round_keeps l) (round_sized l r.sized)
call_kept l (call.Converge limit) r = kept r (settle_keeps l limit) (settle_sized l r.sized limit)

pub call_whole : (l : Layout) (c : Call) → Whole l → Whole (answer_of l c).layout
call_whole l c w = (call_kept l c w).whole_kept

pub call_keeps : (l : Layout) (c : Call) → Right l → Right (answer_of l c).layout
call_keeps l c r = let k = call_kept l c r.whole in record { whole = k.whole_kept; counted = k.count_kept r.counted }

pub start_right : {l : Layout} → Start l → Right l
start_right empty = record { whole = record { is_valid_lem = empty_valid; sized = empty_sized }; counted = empty_count }
start_right (read s e) = record { whole = record { is_valid_lem = (read_valid s e).0; sized = read_sized s }; counted = (read_valid s e).1 }
start_right (imported s e) = record { whole = record { is_valid_lem = (imported_valid s e).0; sized = imported_sized s }; counted = (imported_valid s e).1 }

-- ---- a refused call answers its refusal code and gives the layout back

pub call_refused : (l : Layout) (c : Call) → ((answer_of l c).refusal ≡ 0 → ⊥) → answer_of l c ≡ outcome (answer_of l c).refusal l 0 0 0 0
unfolding answer_of one
call_refused l call.AddVertex d = ap of_added (add_refused_lem l d)
call_refused l (call.AddEdge a b w) d = ap of_changed (link_refused l a b w d)
call_refused l (call.RemoveEdge a b) d = ap of_changed (unlink_refused l a b d)
call_refused l (call.MoveAfter a b) d = ap of_changed (move_refused l a b d)
call_refused l (call.GreedyAppend s) d = ap of_appended (lay_refused_lem l s d)
call_refused l (call.Sift u) d = ap of_sifted (sift_refused_lem l u d)
call_refused l call.SiftingRound d = ap of_rounded (round_refused_lem l d)
call_refused l (call.Converge limit) d = ap of_converged (settle_refused_lem l limit d)

-- so it does not say converged
pub refused_says_nothing : (r : ℕ) (l : Layout) (c : Call) → says_converged c (outcome r l 0 0 0 0) ≡ false
unfolding says_converged
refused_says_nothing r l c = by_sweep (sweep_of c)
  where
    by_sweep : (w : Sweep) → elim w [ no_sift ↦ false | one_sift u ↦ false | one_round ↦ false | some_rounds limit ↦ eqb 0 1 ] ≡ false
    by_sweep no_sift = refl
    by_sweep (one_sift u) = refl
    by_sweep one_round = refl
    by_sweep (some_rounds limit) = refl
