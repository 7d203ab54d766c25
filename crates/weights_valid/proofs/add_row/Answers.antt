use native.Mathlib.Omega.{arith}
use Rattle.std.proofs.Common.{rules}
use Rattle.model.specs.Layouts.{table_weight}
use Rattle.weights_valid.specs.Bytes.{added_start, doubled_fits, added_fits, added_next, added_end}
use Rattle.weights_valid.proofs.add_row.Goals as goal

pub loop-v-init : goal.loop-v-init
loop-v-init c = added_start (search rules)

pub overflow_mul-byte : goal.overflow_mul-byte
overflow_mul-byte c =
    record { fits = omega (arith, doubled_fits c.loop-v.invariant (omega arith) c.requires.1) }

pub overflow_add-byte : goal.overflow_add-byte
unfolding table_weight
overflow_add-byte c =
    let few = added_fits c.loop-v.invariant (omega arith) c.not_zero.ensures c.requires.1 in
    record { fits = omega (arith, few) }

pub loop-v-preserved : goal.loop-v-preserved
unfolding table_weight
loop-v-preserved c =
    added_next c.loop-v.invariant (omega arith) c.not_zero.ensures

pub returns : goal.returns
returns c = added_end c.loop-v.invariant (omega (arith, c.loop-v.invariant.size))
