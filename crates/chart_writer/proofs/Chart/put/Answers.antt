use mathlib.Core.Path.{◌≡◌}
use Rattle.std.proofs.Common.{length, take, length-take-le, rules, arith}
use Rattle.chart_writer.specs.Fields.{weights_room, all_put}
use Rattle.chart_writer.proofs.Chart.put.Goals as goal
use Rattle.chart_writer.proofs.Chart.put.Goals.{Start}

-- the order that is written has all n places
size : (c : Start) → let s = c.args.self.now in length (take s.n s.order) ≡ s.n
size c =
    let places : length c.args.self.now.order ≡ 64 = search rules in
    length-take-le _ _ (omega (arith, c.requires.few))

pub put_weights-requires : goal.put_weights-requires
put_weights-requires c =
    (c.requires.few, weights_room c.requires _ (size (goal.at.put_weights-requires c).Start) c.put_fields-at.ensures)

pub returns : goal.returns
returns c = all_put c.requires _ (size (goal.at.returns c).Start) c.put_fields-at.ensures c.put_weights.ensures
