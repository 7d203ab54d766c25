-- What a lent layout becomes by a call's result, and what the call hands on of it.
use Rattle.std.specs.Prelude.{◌≡◌, refl, ℕ, Result, Ok, Err}
use Rattle.model.specs.declared.Layout.{Layout}
use Rattle.model.specs.declared.SiftSummary.{SiftSummary}
use Rattle.model.specs.declared.RoundSummary.{RoundSummary}
use Rattle.model.specs.declared.ConvergeSummary.{ConvergeSummary}
use Rattle.model.specs.declared.refusal.Refusal.{Refusal}
use Rattle.model.specs.Answers.{number, refusal_number, told_by, as_changed, as_added, as_appended, as_sifted, as_rounded, as_converged}
use Rattle.model.specs.Charts.{as_read}
use Rattle.model.specs.Reports.{add_report, append_report, sift_report, round_report, converge_report}
use Rattle.model.specs.Reports.{as_add_report, as_append_report, as_sift_report, as_round_report, as_converge_report}

module _ {T : Type 0} where
  -- that of an accepted call; a refused one leaves it as it came
  unfoldable pub stored : Layout → Result (Layout × T) Refusal → Layout
  stored l (Ok x) = x.0
  stored l (Err r) = l

  unfoldable pub told : Result (Layout × T) Refusal → Result T Refusal
  told (Ok x) = Ok x.1
  told (Err r) = Err r

-- ---- the reports of the calls, and the layouts that they leave

pub add_told : (l : Layout) (a : Result (Layout × ℕ) Refusal)
    → (as_add_report (told a) ≡ add_report (as_added l a)) × (stored l a ≡ (as_added l a).layout)
unfolding add_report as_add_report as_added told_by told stored
add_told l (Ok x) = (refl, refl)
add_told l (Err r) = (refl, refl)

pub append_told : (l : Layout) (a : Result (Layout × ℕ) Refusal)
    → (as_append_report (told a) ≡ append_report (as_appended l a)) × (stored l a ≡ (as_appended l a).layout)
unfolding append_report as_append_report as_appended told_by told stored
append_told l (Ok x) = (refl, refl)
append_told l (Err r) = (refl, refl)

pub sift_told : (l : Layout) (a : Result (Layout × SiftSummary) Refusal)
    → (as_sift_report (told a) ≡ sift_report (as_sifted l a)) × (stored l a ≡ (as_sifted l a).layout)
unfolding sift_report as_sift_report as_sifted told_by told stored
sift_told l (Ok x) = (refl, refl)
sift_told l (Err r) = (refl, refl)

pub round_told : (l : Layout) (a : Result (Layout × RoundSummary) Refusal)
    → (as_round_report (told a) ≡ round_report (as_rounded l a)) × (stored l a ≡ (as_rounded l a).layout)
unfolding round_report as_round_report as_rounded told_by told stored
round_told l (Ok x) = (refl, refl)
round_told l (Err r) = (refl, refl)

pub converge_told : (l : Layout) (a : Result (Layout × ConvergeSummary) Refusal)
    → (as_converge_report (told a) ≡ converge_report (as_converged l a)) × (stored l a ≡ (as_converged l a).layout)
unfolding converge_report as_converge_report as_converged told_by told stored
converge_told l (Ok x) = (refl, refl)
converge_told l (Err r) = (refl, refl)

-- ---- and the refusal numbers of those that tell nothing besides

pub change_told : (l : Layout) (a : Result Layout Refusal) → refusal_number a ≡ (as_changed l a).refusal
unfolding refusal_number as_changed told_by
change_told l (Ok next) = refl
change_told l (Err r) = refl

pub load_told : (a : Result Layout Refusal) → refusal_number a ≡ (as_read a).refusal
unfolding refusal_number as_read told_by
load_told (Ok next) = refl
load_told (Err r) = refl
