use mathlib.Core.Path.{refl}
use Rattle.weights_valid.specs.Bytes.{byte_of}
use Rattle.weights_valid.proofs.byte_of.Goals as goal

pub returns : goal.returns
unfolding byte_of
returns c = refl
