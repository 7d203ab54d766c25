use Rattle.std.proofs.Common.{arith}
use Rattle.append_ends.specs.Passes.{passed_of}
use Rattle.append_ends.proofs.Met.pass.Goals as goal

pub returns : goal.returns
unfolding passed_of
returns c = (rw (c.from-closed.ensures, c.from-opened.ensures), omega arith)
