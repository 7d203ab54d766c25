use native.Mathlib.Omega.{arith}
use Rattle.graph6_packing.specs.Bits.{bit_few, bit_added}
use Rattle.graph6_packing.proofs.pack_bit.Goals as goal

pub overflow_add-bytes : goal.overflow_add-bytes
overflow_add-bytes c = let few = bit_few c.args.k in omega (arith, few.0, few.1, c.requires.1)

pub returns-then-is_set : goal.returns-then-is_set
returns-then-is_set c = let s = c.args in bit_added c.if-is_set.true s.k s.bytes.now
