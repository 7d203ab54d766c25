use Rattle.std.proofs.Common.{arith, rules}
use Rattle.play_answers.proofs.put_numbers.Goals as goal

pub loop-number-preserved : goal.loop-number-preserved
loop-number-preserved c = (omega (arith, c.loop-number.invariant.0, c.put_number-end.ensures.bound), search rules)
