use Rattle.model.specs.Edits.{with_bit}
use Rattle.ends.proofs.join.Given as goal

abbrev pub ghost-change : goal.ghost-change
ghost-change a = with_bit
