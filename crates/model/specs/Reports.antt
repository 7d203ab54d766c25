-- "hosts hold one lent ring, changed in place by each call": what such a call returns beside the lent layout.
use Rattle.std.specs.Prelude.{ℕ, true, false, List, [], ◌∷◌, Result}
use Rattle.model.specs.declared.Layout.{Layout}
use Rattle.model.specs.declared.Edge.{Edge}
use Rattle.model.specs.Answers.{Added}
use Rattle.model.specs.Answers.{Appended}
use Rattle.model.specs.Answers.{Sifted}
use Rattle.model.specs.Answers.{Rounded}
use Rattle.model.specs.Answers.{Converged}
use Rattle.model.specs.declared.AddReport.{AddReport}
use Rattle.model.specs.declared.AppendReport.{AppendReport}
use Rattle.model.specs.declared.SiftReport.{SiftReport}
use Rattle.model.specs.declared.RoundReport.{RoundReport}
use Rattle.model.specs.declared.ConvergeReport.{ConvergeReport}
use Rattle.model.specs.declared.CrossingReport.{CrossingReport}
use Rattle.model.specs.declared.SiftSummary.{SiftSummary}
use Rattle.model.specs.declared.RoundSummary.{RoundSummary}
use Rattle.model.specs.declared.ConvergeSummary.{ConvergeSummary}
use Rattle.model.specs.declared.refusal.Refusal.{Refusal}
use Rattle.model.specs.Answers.{told_by}
use Rattle.model.specs.Reading.{Shown, first_crossing_of}

-- ---- the answers without their layouts

unfoldable pub add_report : Added → AddReport
add_report a = record { refusal = a.refusal; vertex = a.vertex }

unfoldable pub append_report : Appended → AppendReport
append_report a = record { refusal = a.refusal; tally = a.tally }

unfoldable pub sift_report : Sifted → SiftReport
sift_report a = record { refusal = a.refusal; reduction = a.reduction; optima = a.optima }

unfoldable pub round_report : Rounded → RoundReport
round_report a = record { refusal = a.refusal; reduction = a.reduction; moved = a.moved; optima = a.optima }

unfoldable pub converge_report : Converged → ConvergeReport
converge_report a = record { refusal = a.refusal; reduction = a.reduction; rounds = a.rounds; converged = a.converged; optima = a.optima }

-- ---- the shown crossing pair

unfoldable pub no_edge : Edge
no_edge = record { low = 0; high = 0 }

unfoldable pub pair_report : ℕ → List Edge → CrossingReport
pair_report r [] = record { refusal = r; found = false; first = no_edge; second = no_edge }
pair_report r (e ∷ []) = record { refusal = r; found = false; first = no_edge; second = no_edge }
pair_report r (e ∷ f ∷ more) = record { refusal = r; found = true; first = e; second = f }

unfoldable pub crossing_report : Shown → CrossingReport
crossing_report s = pair_report s.refusal s.pair

unfoldable pub crossing_report_of : Layout → CrossingReport
crossing_report_of l = crossing_report (first_crossing_of l)

-- ---- the report of a result without its layout

unfoldable pub as_add_report : Result ℕ Refusal → AddReport
as_add_report a = told_by a (λ v. record { refusal = 0; vertex = v }) (λ r. record { refusal = r; vertex = 0 })

unfoldable pub as_append_report : Result ℕ Refusal → AppendReport
as_append_report a = told_by a (λ t. record { refusal = 0; tally = t }) (λ r. record { refusal = r; tally = 0 })

unfoldable pub as_sift_report : Result SiftSummary Refusal → SiftReport
as_sift_report a =
    told_by a
    (λ s. record { refusal = 0; reduction = s.reduction; optima = s.optima })
    (λ r. record { refusal = r; reduction = 0; optima = 0 })

unfoldable pub as_round_report : Result RoundSummary Refusal → RoundReport
as_round_report a =
    told_by a
    (λ s. record { refusal = 0; reduction = s.reduction; moved = s.moved; optima = s.optima })
    (λ r. record { refusal = r; reduction = 0; moved = 0; optima = 0 })

unfoldable pub as_converge_report : Result ConvergeSummary Refusal → ConvergeReport
as_converge_report a =
    told_by a
    (λ s. record { refusal = 0; reduction = s.reduction; rounds = s.rounds; converged = s.converged; optima = s.optima })
    (λ r. record { refusal = r; reduction = 0; rounds = 0; converged = false; optima = 0 })
