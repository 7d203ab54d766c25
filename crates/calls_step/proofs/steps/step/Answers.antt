use mathlib.Core.Path.{sym, ap, ◌∙◌}
use Rattle.model.specs.Histories.{answer_of}
use Rattle.calls_step.proofs.steps.step.Goals as goal

pub returns-in-AddVertex : goal.returns-in-AddVertex
unfolding answer_of
returns-in-AddVertex c = c.added.ensures ∙ ap (answer_of _) (sym c.in-AddVertex.is)

pub returns-in-AddEdge : goal.returns-in-AddEdge
unfolding answer_of
returns-in-AddEdge c = c.joined.ensures ∙ ap (answer_of _) (sym c.in-AddEdge.is)

pub returns-in-RemoveEdge : goal.returns-in-RemoveEdge
unfolding answer_of
returns-in-RemoveEdge c = c.parted.ensures ∙ ap (answer_of _) (sym c.in-RemoveEdge.is)

pub returns-in-MoveAfter : goal.returns-in-MoveAfter
unfolding answer_of
returns-in-MoveAfter c = c.moved.ensures ∙ ap (answer_of _) (sym c.in-MoveAfter.is)

pub returns-in-GreedyAppend : goal.returns-in-GreedyAppend
unfolding answer_of
returns-in-GreedyAppend c = c.appended.ensures ∙ ap (answer_of _) (sym c.in-GreedyAppend.is)

pub returns-in-Sift : goal.returns-in-Sift
unfolding answer_of
returns-in-Sift c = c.sifted.ensures ∙ ap (answer_of _) (sym c.in-Sift.is)

pub returns-in-SiftingRound : goal.returns-in-SiftingRound
unfolding answer_of
returns-in-SiftingRound c = c.swept.ensures ∙ ap (answer_of _) (sym c.in-SiftingRound.is)

pub returns-in-Converge : goal.returns-in-Converge
unfolding answer_of
returns-in-Converge c = c.converged.ensures ∙ ap (answer_of _) (sym c.in-Converge.is)
