use Rattle.std.proofs.Common.{length, arith, ap, le_of_eq}
use mathlib.Core.List.{flat_map}
use Rattle.model.specs.WrittenCharts.{edge_bytes}
use Rattle.laws.specs.Buffers.EdgeBytes.{edge_bytes_length}
use Rattle.text.specs.Room.{put_nothing, put_full, put_fits, no_room, has_room_lem}
use Rattle.edge_list.specs.Rows.{listed_few, listed_many}
use Rattle.edge_list.proofs.put_edges.Goals as goal
use Rattle.edge_list.proofs.put_edges.Goals.{then-n-gt64-via-then-n-gt64, then-n-gt64-via-else-n-gt64+then-lacks}

pub returns-then-n-gt64 : goal.returns-then-n-gt64
unfolding edge_bytes flat_map
returns-then-n-gt64 c =
    elim c.then-n-gt64.branch [
      | then-n-gt64-via-then-n-gt64 w ↦ rw (listed_many _ _ w.if-n-gt64.true) put_nothing
      | then-n-gt64-via-else-n-gt64+then-lacks w ↦ put_full _ (omega (arith, no_room w.lacks.ensures w.if-lacks.true, c.edge_count-count.ensures))
    ]

pub put_rows-requires : goal.put_rows-requires
put_rows-requires c =
    let few = ap length (listed_few c.args.n c.args.adjacency.now c.if-n-gt64.false) in
    (c.if-n-gt64.false, omega (arith, has_room_lem c.lacks.ensures c.if-lacks.false, c.edge_count-count.ensures, few))

pub returns : goal.returns
returns c =
    put_fits (omega (arith, has_room_lem c.lacks.ensures c.if-lacks.false, c.edge_count-count.ensures)) (le_of_eq (edge_bytes_length _))
    (rw (listed_few _ _ c.if-n-gt64.false) c.put_rows.ensures)
