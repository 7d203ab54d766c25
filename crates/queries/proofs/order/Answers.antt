use Rattle.std.proofs.Common.{arith}
use Rattle.laws.specs.Layouts.Validity.{sound}
use Rattle.laws.specs.Layouts.Refusals.{valid_passed, passed_on}
use Rattle.queries.proofs.order.Goals as goal

-- a valid layout has at most 64 vertices
pub shared_ref_as_front-copy_from_slice : goal.shared_ref_as_front-copy_from_slice
shared_ref_as_front-copy_from_slice c = omega (arith, (sound _ (valid_passed _ _ (passed_on c.check_valid.ensures c.in_ok-check_valid.was)).0).small)
