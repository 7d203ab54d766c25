use Rattle.model.specs.Edits.{without_bit}
use Rattle.ends.proofs.part.Given as goal

abbrev pub ghost-change : goal.ghost-change
ghost-change a = without_bit
