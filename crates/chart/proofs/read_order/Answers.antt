use Rattle.std.proofs.Common.{sym, ◌∙◌}
use Rattle.laws.specs.Charts.Padded.{padded_copy}
use Rattle.chart.specs.Reading.{SizeRead, read_placed, read_misplaced, order_long, order_read}
use Rattle.chart.proofs.read_order.Goals as goal
use Rattle.chart.proofs.read_order.Goals.{In-Ok}

-- question 8 has passed
placed : (c : In-Ok) → let s = c.args in SizeRead 8 s.bytes.now s.n
placed c = read_placed c.requires.0 c.body_of-body.ensures c.in-Ok.is c.ask_order-once.ensures

pub returns-in_default : goal.returns-in_default
returns-in_default c = read_misplaced c.requires.0 c.body_of-body.ensures c.unwrap_err.ensures c.ask_order-once.ensures

pub filled_up-requires : goal.filled_up-requires
filled_up-requires c = order_long (placed (goal.at.filled_up-requires c).In-Ok).passed c.body_of-body.ensures

pub read_weights-requires : goal.read_weights-requires
read_weights-requires c =
    let there = placed (goal.at.read_weights-requires c).In-Ok in
    let long = order_long there.passed c.body_of-body.ensures in
    (there, order_read there.passed c.body_of-body.ensures (c.filled_up.ensures ∙ sym (padded_copy _ long)), c.requires.1)
