use Rattle.std.proofs.Common.{◌≡◌, ◌%◌, ◌∙◌, ap}
use Rattle.append_ends.specs.Ends.{ends_of, placed_vertices}
use Rattle.append_ends.specs.Placed.{as_vertices}
use Rattle.append_ends.proofs.OpenEdges.end_crossings.Goals as goal

pub returns : goal.returns
returns c =
    let edges = c.args.self.now in
    let line = c.args.line.now in (
      c.ends_of.ensures.0
          ∙ ap (ends_of edges.weights.now edges.sums (c.args.v % 64)) (ap as_vertices c.placed.ensures.value ∙ placed_vertices line),
      c.ends_of.ensures.1,
    )
