use Prim.Native.Nat.{ℕ, ◌*◌, ◌%◌}
use native.Mathlib.Omega.{arith}
use mathlib.Core.Path.{ap, ◌∙◌}
use lib.ListN.{get_or}
use Rattle.laws.specs.Tables.Rows.{row_sum, summed_start, summed_next, summed_end}
use Rattle.weights.proofs.row_products.Goals as goal

pub loop-i-init : goal.loop-i-init
loop-i-init c = summed_start

pub entry-requires : goal.entry-requires
entry-requires c = (c.requires, c.loop-i-test.true)

pub overflow_add-total : goal.overflow_add-total
overflow_add-total c =
    let inv = c.loop-i.invariant in
    omega (arith, inv.few, inv.inside, c.product-total.ensures.small)

pub loop-i-preserved : goal.loop-i-preserved
loop-i-preserved c =
    let numbers = c.args.numbers.now in
    summed_next c.loop-i.invariant c.loop-i-test.true
    (c.product-total.ensures.is ∙ ap (λ (x : ℕ). x * (get_or numbers c.loop-i.i 0 % 32768)) c.entry.ensures.is) c.product-total.ensures.small

pub returns : goal.returns
unfolding row_sum
returns c = summed_end c.loop-i.invariant c.loop-i-test.false
