use Rattle.std.proofs.Common.{◌≡◌}
use Rattle.append_line.specs.Lines.{rest_of}
use Rattle.append_line.proofs.Line.put_rest.Given as goal

abbrev pub invariant-loop-v : goal.invariant-loop-v
invariant-loop-v l = l.self ≡ rest_of l.initial.self l.placed l.v
