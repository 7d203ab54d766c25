-- Charts written out again (document 02, Note 1): the bytes of a layout's chart, as a format. Writing has the call.
use Rattle.std.specs.Prelude.{ℕ, ◌/◌, ◌%◌, Bool, cond, length, eqb}
use mathlib.Core.List.{List, [], ◌∷◌, ◌++◌, map, flat_map}
use Rattle.model.specs.declared.Edge.{Edge}
use Rattle.model.specs.declared.Layout.{Layout}
use Rattle.model.specs.Lists.{every}
use Rattle.model.specs.Crossings.{edges, edge_weight}
use Rattle.model.specs.Layouts.{vertex_order, weight, crossings_of}
use Rattle.model.specs.Writing.{Format}

-- ---- the bytes of a chart

-- "one-byte tag, two-byte length (high byte first), body"
unfoldable pub field_bytes : ℕ → List ℕ → List ℕ
field_bytes tag body = tag ∷ length body / 256 ∷ length body % 256 ∷ body

-- "links lower end first", "two bytes each"
unfoldable pub edge_bytes : List Edge → List ℕ
edge_bytes es = flat_map (λ e. e.low ∷ e.high ∷ []) es

-- the weights of a layout's edges, in their sequence
unfoldable pub weights_of : Layout → List ℕ
weights_of l = map (edge_weight (weight l)) (edges l.n l.adjacency)

-- is every weight 1?
unfoldable pub unit_weighted : Layout → Bool
unit_weighted l = every (eqb 1) (weights_of l)

-- "The writer adds it, in its own link sequence, exactly when some weight isn't 1." (document 02, Note 8)
unfoldable pub weight_field : Layout → List ℕ
weight_field l = cond (unit_weighted l) [] (field_bytes 0x57 (weights_of l))

-- "fields 44, 4C, 52, links lower end first, sorted by lower and then higher end"
unfoldable pub chart_of : Layout → List ℕ
chart_of l =
    field_bytes 0x44 (l.n ∷ [])
    ++ field_bytes 0x4C (edge_bytes (edges l.n l.adjacency))
    ++ field_bytes 0x52 (vertex_order l)
    ++ weight_field l

-- "Refused: 19 when the lent buffer is shorter than the chart, asked after 11."
abbrev pub chart_format : Format
chart_format = record { entries = chart_of; checks = λ l. []; short = 19 }

-- ---- read back

-- "Reading a written chart gives the ring with its true count."
unfoldable pub with_true_count : Layout → Layout
with_true_count l = record { n = l.n; order = l.order; adjacency = l.adjacency; weights = l.weights; count = crossings_of l }
