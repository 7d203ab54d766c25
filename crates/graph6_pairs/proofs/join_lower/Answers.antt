use Rattle.std.proofs.Common.{sym, ◌∙◌}
use Rattle.graph6_pairs.specs.Joining.{lower_start, lower_next, lower_end}
use Rattle.graph6_pairs.proofs.join_lower.Goals as goal
use Rattle.graph6_pairs.proofs.join_lower.Goals.{then-bit_at, else-bit_at}

pub loop-a-init : goal.loop-a-init
loop-a-init c = lower_start c.requires.1

pub loop-a-preserved : goal.loop-a-preserved
loop-a-preserved c =
    elim c.if-bit_at.branch [
      | then-bit_at w ↦
          lower_next c.loop-a.invariant c.loop-a-test.true c.requires.0 c.pair_place.ensures (sym w.if-bit_at.true ∙ c.bit_at.ensures)
          (w.adjacency-is ∙ w.join.ensures)
      | else-bit_at w ↦
          lower_next c.loop-a.invariant c.loop-a-test.true c.requires.0 c.pair_place.ensures (sym w.if-bit_at.false ∙ c.bit_at.ensures) w.adjacency-is
    ]

pub returns : goal.returns
returns c = lower_end c.loop-a.invariant c.loop-a-test.false
