use mathlib.Core.Path.{◌≡◌}
use Rattle.std.proofs.Common.{length, take, length-take-le, rules, arith}
use Rattle.chart_writer.specs.Fields.{links_room, order_room, chart_put}
use Rattle.chart_writer.proofs.Chart.put_fields.Goals as goal
use Rattle.chart_writer.proofs.Chart.put_fields.Goals.{Start}

-- the order that is written has all n places
size : (c : Start) → let s = c.args.self.now in length (take s.n s.order) ≡ s.n
size c =
    let places : length c.args.self.now.order ≡ 64 = search rules in
    length-take-le _ _ (omega (arith, c.requires.few))

pub put_links-places-requires : goal.put_links-places-requires
put_links-places-requires c =
    let given = c.requires in
    (given.few, links_room given c.put_field-links.ensures)

pub put_field-requires : goal.put_field-requires
put_field-requires c =
    let given = c.requires in
    rw (size (goal.at.put_field-requires c).Start) (omega (arith, given.few), order_room given c.put_field-links.ensures c.put_links-places.ensures)

pub returns : goal.returns
returns c =
    chart_put c.requires c.put_field-links.ensures c.put_links-places.ensures _ c.put_field.ensures
