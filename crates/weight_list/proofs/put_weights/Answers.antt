use Rattle.std.proofs.Common.{refl}
use Rattle.weight_list.specs.Weighed.{weights_put}
use Rattle.weight_list.proofs.put_weights.Goals as goal

pub returns : goal.returns
returns c = weights_put _ _ refl c.put_edges-count.ensures _ c.lacks.ensures c.if-lacks.false c.put_each.ensures
