use mathlib.Core.Path.{refl}
use Rattle.model.specs.Edits.{both_ways}
use Rattle.weights.proofs.set_both.Goals as goal

pub returns : goal.returns
unfolding both_ways
returns c = refl
