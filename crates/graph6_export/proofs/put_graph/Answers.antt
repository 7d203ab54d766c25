use Prim.Native.Nat.{◌≤◌}
use mathlib.Core.Path.{sym}
use lib.ListN.{length}
use lib.Seq.{length-take-le}
use Rattle.graph6_export.specs.Parts.{data_inside, parts_put}
use Rattle.graph6_export.proofs.put_graph.Goals as goal
use Rattle.graph6_export.proofs.put_graph.Goals.{After-data_length-size}

-- the bytes of the pairs are among those of the array
inside : (c : After-data_length-size) → c.data_length-size.result ≤ length c.pack_pairs-bytes.result
inside c = data_inside _ c.data_length-size.ensures _ c.pack_pairs-bytes.ensures

pub slice_bounds-bytes-end : goal.slice_bounds-bytes-end
slice_bounds-bytes-end c = inside (goal.at.slice_bounds-bytes-end c).After-data_length-size

pub slice_bounds-put_text-end : goal.slice_bounds-put_text-end
slice_bounds-put_text-end c = sym (length-take-le _ _ (inside (goal.at.slice_bounds-put_text-end c).After-data_length-size))

pub returns : goal.returns
returns c =
    parts_put _ c.requires.0 c.requires.1 c.put_size-start.ensures c.pack_pairs-bytes.ensures c.data_length-size.ensures
    c.put_text.ensures
