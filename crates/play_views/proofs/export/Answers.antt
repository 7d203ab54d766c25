use Rattle.std.proofs.Common.{arith}
use Rattle.play_views.proofs.export.Goals as goal

pub written_by-requires-clause-short : goal.written_by-requires-clause-short
written_by-requires-clause-short c = omega arith
