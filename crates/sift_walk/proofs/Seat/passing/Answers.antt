use Prim.Native.Nat.{◌+◌, ◌*◌, ◌≤◌}
use native.Mathlib.Nat.{mul-le-mul}
use native.Mathlib.Omega.{arith}
use Rattle.std.specs.Prelude.{slice_index}
use Rattle.sift_walk.specs.Walks.{passed_made}
use Rattle.sift_walk.proofs.Seat.passing.Goals as goal
use Rattle.sift_walk.proofs.Seat.passing.Goals.{After-next}

-- no product is large
few : (c : After-next)
    → let s = c.args in
    let factor = s.whole + c.weight_at-w.result + 2 * s.step.met in
    (factor * slice_index s.self.now.rows.now s.v ≤ 3225305025) × (factor * c.weight_at-w.result ≤ 12549825) × (2 * s.whole * s.behind ≤ 2139062400)
few c =
    let asked = c.requires in
    let light = c.weight_at-w.ensures.small in (
      mul-le-mul {n₂ = 49215} {m₂ = 65535} (omega (arith, asked.0, asked.1, light)) (omega arith),
      mul-le-mul {n₂ = 49215} {m₂ = 255} (omega (arith, asked.0, asked.1, light)) light,
      mul-le-mul {n₂ = 32640} {m₂ = 65535} (omega (arith, asked.1)) (omega arith),
    )

pub returns : goal.returns
returns c =
    let small = few c in
    let reached = c.row_sum-reached.ensures in
    passed_made (omega arith) c.requires.3 c.weight_at-w.ensures.is c.weight_at-w.ensures.small reached.is
    (record {
      exact = omega (arith, small, c.requires, reached.small);
      not_lower = omega (arith, small, c.requires, reached.small);
      not_higher = omega (arith, small);
    })
    c.next.ensures
