-- Demand 3 of document 01 as one theorem: `demand_3`, at the end, over every start and every list of calls. What it says is the record `Demand3` of
-- specs/Demand3.antt.
use Rattle.std.specs.Prelude.{ℕ, ◌<◌, ◌≡◌, refl, Bool, true, false, length, T, eqb}
use Rattle.std.proofs.Common.{arith, sym, ap, ◌∙◌, eqb-true}
use Rattle.std.proofs.Math.Path.{subst}
use mathlib.Core.List.{List, flat_map}
use Rattle.std.proofs.lemmas.Bool.{eqb-false}
use Rattle.model.specs.declared.Layout.{Layout}
use Rattle.model.specs.declared.Call.{Call}
use Rattle.model.specs.declared.Call.TheVariants as call
use Rattle.model.specs.Lists.{one, All}
use Rattle.model.specs.Layouts.{crossings_of}
use Rattle.model.specs.Search.{Sift, Round}
use Rattle.model.specs.Sifting.{ring}
use Rattle.model.specs.Runs.{but_last, step_at, accepted_at}
use Rattle.model.specs.Histories.{ring_calls, Start, Step, after_step, steps, played, answer_of, accepted, sweep_of}
use Rattle.model.specs.Histories.{rounds_of_step, sifts_of_step, rounds_in, sifts_in}
use Rattle.model.specs.Histories.{says_converged, LocalMinimum}
use Rattle.laws.specs.Sums.Lists.{all_mono, all_flat_map}
use Rattle.laws.specs.Layouts.Validity.{sound, permutation_each_once}
use Rattle.laws.proofs.Append.Calls.{lay_tally}
use Rattle.laws.specs.Sifting.Sweeps.{SweepFacts, round_no_more}
use Rattle.laws.specs.Sifting.Runs.{steps_called, steps_follow, all_steps, end_good, code_zero, rounds_are, sifts_are, sifts_number}
use Rattle.laws.specs.Sifting.Runs.{step_sifts, step_rounds, step_moved}
use Rattle.laws.specs.Sifting.Rounds.{Valid, ProperSift, ProperRound, best_sifted}
use Rattle.laws.proofs.Sifting.Enough.{settle_enough}
use Rattle.laws.specs.Sifting.Optima.{optima_least, optima_counted, optima_some, optima_below}
use Rattle.history.specs.StepLaws.{Right, start_right, call_keeps, call_refused, CallFacts, call_facts, refused_says_nothing}
use Rattle.history.specs.Demand3.{Defined, LimitReached, EnoughRounds, TallyRight, OptimaRight, Complete, Demand3}

-- ---- step by step

abbrev step_on : Layout → Call → Step
step_on = step_at ring_calls

all_right : (P : Step → Type 0) → ((l : Layout) (c : Call) → P (step_on l c)) → {l : Layout} → Right l → (cs : List Call) → All P (steps l cs)
all_right P h = all_steps ring_calls Right call_keeps P (λ l c r. h l c)

settle_enough_rounds : (l : Layout) (limit : ℕ) → (answer_of l (call.Converge limit)).refusal ≡ 0 → EnoughRounds (step_on l (call.Converge limit)) limit
unfolding answer_of says_converged sweep_of one
settle_enough_rounds l limit e =
    let p = settle_enough l limit e in
    record { enough = λ h. rw (p.enough (omega arith)) tt; few = omega (arith, p.few) }

module _ (l : Layout) (c : Call) where
  is_defined : Defined (step_on l c)
  unfolding accepted_at
  is_defined =
      record { answers = refl; unchanged = λ e. call_refused l c (eqb-false (answer_of l c).refusal 0 e) }

  facts : T (accepted (step_on l c)) → CallFacts l c
  facts t = call_facts l c (code_zero ring_calls l c t)

  is_complete : T (accepted (step_on l c)) → Complete (step_on l c)
  is_complete t =
      let f = facts t in
      record {
        number_of_rounds = ap length (rounds_are ring_calls l c t) ∙ f.number;
        number_of_sifts = sifts_number ring_calls l c Valid t f.run;
        sifts_lead = λ s. rw (sifts_are ring_calls l c t, ← f.reached s) f.run.lead;
        optima_summed = rw (sifts_are ring_calls l c t) f.optima_are;
      }

  is_tally : T (accepted (step_on l c)) → (first : ℕ) → TallyRight (step_on l c) first
  unfolding answer_of
  is_tally t first e =
      subst (λ (d : Call). (answer_of l d).refusal ≡ 0 → (answer_of l d).first ≡ crossings_of (answer_of l d).layout) (sym e) (lay_tally l first)
      (code_zero ring_calls l c t)

  reaches_limit : T (accepted (step_on l c)) → (limit : ℕ) → LimitReached (step_on l c) limit
  reaches_limit t limit e z = rw (rounds_are ring_calls l c t) ((facts t).spent limit e z)

  is_enough : T (accepted (step_on l c)) → (limit : ℕ) → c ≡ call.Converge limit → EnoughRounds (step_on l c) limit
  is_enough t limit e =
      subst (λ (d : Call). (answer_of l d).refusal ≡ 0 → EnoughRounds (step_on l d) limit) (sym e) (settle_enough_rounds l limit) (code_zero ring_calls l c t)

  -- what it sifts, where it is accepted
  sweeps : (answer_of l c).refusal ≡ 0 → SweepFacts ring Valid l (sweep_of c)
  sweeps e = (call_facts l c e).run

  is_minimum : T (says_converged c (answer_of l c)) → LocalMinimum (answer_of l c).layout
  is_minimum = by_test (eqb (answer_of l c).refusal 0) refl
    where
      by_test : (b : Bool) → eqb (answer_of l c).refusal 0 ≡ b → T (says_converged c (answer_of l c)) → LocalMinimum (answer_of l c).layout
      by_test true e t = (call_facts l c (eqb-true (answer_of l c).refusal 0 e)).minimum t
      by_test false e t =
          let same = call_refused l c (eqb-false (answer_of l c).refusal 0 e) in
          absurd (subst T (ap (says_converged c) same ∙ refused_says_nothing (answer_of l c).refusal l c) t)

is_optima : {x : Sift Layout} → ProperSift x → OptimaRight x
is_optima p =
    record { none_fewer = optima_least p; just_as_many = optima_counted p; some = optima_some p; not_all = optima_below p }

-- ---- the theorem

pub demand_3 : {start : Layout} → Start start → (calls : List Call) → Demand3 start calls
unfolding sifts_in rounds_in
demand_3 {start} s calls =
    let r = start_right s in
    let end = end_good ring_calls Right call_keeps r calls in
    let proper : All ProperRound (flat_map rounds_of_step (steps start calls)) =
    all_flat_map rounds_of_step (all_right (λ x. All ProperRound (rounds_of_step x)) (λ l c. step_rounds ring_calls l c Valid (sweeps l c)) r calls) (λ x p. p) in
    let sifted : All ProperSift (flat_map sifts_of_step (steps start calls)) =
    all_flat_map sifts_of_step (all_right (λ x. All ProperSift (sifts_of_step x)) (λ l c. step_sifts ring_calls l c Valid (sweeps l c)) r calls) (λ x p. p) in
    record {
      called = steps_called ring_calls start calls;
      defined = all_right Defined is_defined r calls;
      one_after_another = steps_follow ring_calls start calls;
      valid_at_the_end = end.whole.is_valid_lem;
      each_vertex_once = permutation_each_once (sound (played start calls) end.whole.is_valid_lem).permutation;
      count_is_crossings = end.counted;
      tallies_right = all_right (λ x. T (accepted x) → (first : ℕ) → TallyRight x first) is_tally r calls;
      best_places = all_mono sifted (λ x p. best_sifted p);
      optima_right = all_mono sifted (λ x p. is_optima p);
      no_round_raised = all_mono proper (λ x p. round_no_more ring Valid p);
      converged_is_minimum = all_right (λ x. T (says_converged x.call x.answer) → LocalMinimum (after_step x)) is_minimum r calls;
      limit_reached = all_right (λ x. T (accepted x) → (limit : ℕ) → LimitReached x limit) reaches_limit r calls;
      went_on_after_a_move =
          all_right (λ x. All (λ (y : Round Layout). 0 < y.moved) (but_last (rounds_of_step x))) (λ l c. step_moved ring_calls l c Valid (sweeps l c)) r calls;
      enough_rounds =
          all_right (λ x. T (accepted x) → (limit : ℕ) → x.call ≡ call.Converge limit → EnoughRounds x limit) is_enough r calls;
      complete = all_right (λ x. T (accepted x) → Complete x) is_complete r calls;
      whole_rounds = all_mono proper (λ x p. record { each_vertex = p.vertices; leads = p.chain });
    }
