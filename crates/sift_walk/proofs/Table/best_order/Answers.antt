use borrow.Author.Rules.{rules}
use Prim.Native.Nat.{◌≤◌}
use native.Mathlib.Omega.{arith}
use mathlib.Core.Path.{◌≡◌}
use lib.ListN.{length, take}
use lib.Seq.{length-take-le}
use Rattle.sift_walk.specs.Seats.{place_most, seated}
use Rattle.sift_walk.specs.Finding.{walk_found}
use Rattle.sift_walk.proofs.Table.best_order.Goals as goal
use Rattle.sift_walk.proofs.Table.best_order.Goals.{After-place_of-p, Start}

size : (c : Start) → length c.args.order ≡ 64
size c = search rules

-- u stands in one of the first n places, or behind the last
low : (c : After-place_of-p) → c.place_of-p.result ≤ c.args.self.now.n
low c =
    let s = c.args in
    let n = s.self.now.n in
    let inside : n ≤ length s.order = omega (arith, size (goal.at.After-place_of-p c).Start, c.if-n-gt64.false) in
    omega (arith, c.place_of-p.ensures, place_most (take n s.order) s.u, length-take-le n s.order inside)

pub invariant_of-seat : goal.invariant_of-seat
invariant_of-seat c =
    record {
      few = c.if-n-gt64.false;
      vertex = c.if-n-u.false;
      inside = low (goal.at.invariant_of-seat c).After-place_of-p;
    }

pub returns : goal.returns
returns c walker given =
    let seat = seated walker c.place_of-p.ensures in
    walk_found seat (c.pass_all-kept.ensures.1 seat given) c.chosen.ensures
