-- The crossings of every edge of a valid layout (document 02, Note 7).
use Rattle.std.specs.Prelude.{◌*◌, List, ◌≡◌, T}
use Rattle.std.proofs.Common.{◌∙◌, subst}
use Rattle.model.specs.declared.Edge.{Edge}
use Rattle.model.specs.declared.Layout.{Layout}
use Rattle.model.specs.Lists.{sum_over}
use Rattle.model.specs.Crossings.{edges}
use Rattle.model.specs.Layouts.{vertex_order, weight, crossings_of, valid}
use Rattle.model.specs.EdgeCrossings.{crossings_with, edge_crossings}
use Rattle.laws.specs.Sums.Lists.{sum_over_map}
use Rattle.laws.specs.Crossings.Edges.{edges_twice}
use Rattle.laws.specs.Layouts.Weights.{valid_edges}
use Rattle.laws.specs.Layouts.Validity.{sound}

-- "Their sum is twice the crossings, for every whole ring."
pub edge_crossings_twice : (l : Layout) → T (valid l) → sum_over (λ x. x) (edge_crossings l) ≡ 2 * crossings_of l
unfolding edge_crossings crossings_of
edge_crossings_twice l t =
    let es = edges l.n l.adjacency in
    sum_over_map (λ x. x) (crossings_with (weight l) (vertex_order l) es) es
    ∙ subst (λ (fs : List Edge). sum_over (crossings_with (weight l) (vertex_order l) fs) fs ≡ 2 * crossings_of l)
    (valid_edges l t)
    (edges_twice (sound l t).permutation (weight l))
