use Rattle.std.proofs.Common.{◌+◌, ◌≤◌, length, arith, length-set}
use Rattle.edge_list.specs.Rows.{row_start, row_skip, row_room, row_put}
use Rattle.edge_list.proofs.put_row.Goals as goal
use Rattle.edge_list.proofs.put_row.Goals.{Then-is_set, then-is_set, else-is_set}

-- there is room for an edge
room : (c : Then-is_set) → let s = c.loop-b in s.to + 2 ≤ length s.out
room c = row_room c.loop-b.invariant (omega (arith, c.loop-b-test.true)) c.is_set.ensures c.if-is_set.true

pub loop-b-init : goal.loop-b-init
loop-b-init c = let given = c.requires in row_start given.0 given.1 given.2

pub bounds-out-to : goal.bounds-out-to
bounds-out-to c = omega (arith, room c)

pub overflow_add-out : goal.overflow_add-out
overflow_add-out c = omega (arith, room c)

pub bounds-out-to-then-is_set : goal.bounds-out-to-then-is_set
bounds-out-to-then-is_set c = simp length-set (omega (arith, room c))

pub overflow_add-to : goal.overflow_add-to
overflow_add-to c = omega (arith, room c)

pub loop-b-preserved : goal.loop-b-preserved
loop-b-preserved c =
    let inv = c.loop-b.invariant in
    let test = c.is_set.ensures in
    elim c.if-is_set.branch [
      | then-is_set w ↦ rw (w.out-is, w.to-is) (row_put inv (omega (arith, c.loop-b-test.true)) test w.if-is_set.true)
      | else-is_set w ↦ rw (w.out-is, w.to-is) (row_skip inv (omega (arith, c.loop-b-test.true)) test w.if-is_set.false)
    ]
