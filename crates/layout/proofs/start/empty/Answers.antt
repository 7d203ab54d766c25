use mathlib.Core.Path.{refl}
use Rattle.model.specs.Layouts.{empty_layout}
use Rattle.layout.proofs.start.empty.Goals as goal

pub returns : goal.returns
unfolding empty_layout
returns c = refl
