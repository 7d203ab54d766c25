use Rattle.std.proofs.Common.{rules}
use Rattle.append_ends.proofs.OpenEdges.close.Goals as goal

pub returns-clause-row : goal.returns-clause-row
returns-clause-row c = c.sub_row.ensures (search rules)
