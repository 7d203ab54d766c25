-- "a ring whose weights are and stay 1 behaves as before but for the wider numbers and modulus" (document 02, Note 8), over every list of calls: the
-- record `AsBefore`, proved in proofs/AsBefore.antt. The former definitions are those of `model`, Former.
use Rattle.std.specs.Prelude.{ℕ, zero, suc, ◌≡◌, refl, T}
use Rattle.std.proofs.Common.{◌∙◌}
use Rattle.std.proofs.Math.Path.{ap}
use mathlib.Core.List.{List, map}
use Rattle.model.specs.declared.Layout.{Layout}
use Rattle.model.specs.declared.Call.{Call}
use Rattle.model.specs.Lists.{All}
use Rattle.model.specs.Layouts.{vertex_order, weights_fit, valid}
use Rattle.model.specs.Checks.{Check, refusal, by_refusal, checked}
use Rattle.model.specs.WrittenCharts.{unit_weighted}
use Rattle.model.specs.Histories.{Step, steps, played}
use Rattle.model.specs.Runs.{StepOf, steps_from, played_from}
use Rattle.model.specs.Former.{FormerLayout, FormerOutcome, former_valid}
use Rattle.model.specs.Former.{former_calls}
use Rattle.laws.specs.Sums.Indicators.{and_left}
use Rattle.history.specs.StepLaws.{Whole}
use Rattle.laws.specs.Layouts.Units.{Unit}
use Rattle.former.specs.Forgetting.{forget, forget_outcome}

-- ---- checks that are the same

-- two answers by the same refusal code
pub checked_shown : {A B : Type 0} (g : A → B) (cs ds : List Check) {a : A} {b : B} {f : ℕ → A} {h : ℕ → B} → refusal cs ≡ refusal ds
    → (refusal cs ≡ 0 → g a ≡ b) → ((r : ℕ) → g (f r) ≡ h r) → g (checked cs a f) ≡ checked ds b h
unfolding checked by_refusal
checked_shown {A} {B} g cs ds {a} {b} {f} {h} e accepted refused = from (refusal cs) refl ∙ ap (λ (r : ℕ). by_refusal r b h) e
  where
    from : (r : ℕ) → refusal cs ≡ r → g (by_refusal r a f) ≡ by_refusal r b h
    from zero z = accepted z
    from (suc r) z = refused (suc r)

-- a valid layout was one
pub was_valid_lem : (l : Layout) → T (valid l) → T (former_valid (forget l))
unfolding valid former_valid vertex_order
was_valid_lem l t = and_left (former_valid (forget l)) (weights_fit l.n l.adjacency l.weights) t

-- ---- the claim

-- a valid layout whose weights are 1
pub record OfWeightOne (l : Layout) : Type 0 where
  pub whole : Whole l
  pub unit : Unit l.weights

-- a step with its weights forgotten
abbrev pub forget_step : Step → StepOf FormerLayout Call FormerOutcome
forget_step s = record { before = forget s.before; call = s.call; answer = forget_outcome s.answer }

pub record AsBefore (start : Layout) (calls : List Call) : Type 0 where
  -- the former definitions, from the start with its weights forgotten, take the same steps: the same refusals, answers and layouts, the count modulo 2^32
  pub same_steps : steps_from former_calls (forget start) calls ≡ map forget_step (steps start calls)
  pub same_end : played_from former_calls (forget start) calls ≡ forget (played start calls)
  -- and each weight is 1 throughout, so that what only reads does what it did (`reads_as_before`, Reads)
  pub each_one : All (λ (s : Step). OfWeightOne s.before) (steps start calls)
  pub end_one : OfWeightOne (played start calls)
  pub still_one : T (unit_weighted (played start calls))
