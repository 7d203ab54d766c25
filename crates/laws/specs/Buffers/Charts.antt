-- The bytes of a chart, from n, a list of edges in any sequence and an order.
use Rattle.std.specs.Prelude.{ℕ, ◌+◌, ◌*◌, ◌≡◌, refl, List, [], ◌∷◌, ◌++◌, length, T}
use Rattle.std.proofs.Common.{arith, ap, ◌∙◌, length-append}
use Rattle.model.specs.declared.Edge.{Edge}
use Rattle.model.specs.declared.Layout.{Layout}
use Rattle.model.specs.Crossings.{edges}
use Rattle.model.specs.Layouts.{vertex_order, valid}
use Rattle.model.specs.WrittenCharts.{field_bytes, edge_bytes, weight_field, chart_of}
use Rattle.laws.specs.Layouts.Validity.{sound}
use Rattle.laws.specs.Buffers.EdgeBytes.{edge_bytes_length}

unfoldable pub chart_with : ℕ → List Edge → List ℕ → List ℕ → List ℕ
chart_with n es o last = field_bytes 0x44 (n ∷ []) ++ field_bytes 0x4C (edge_bytes es) ++ field_bytes 0x52 o ++ last

-- the chart of a layout has all its edges
pub chart_edges_lem : (l : Layout) → chart_of l ≡ chart_with l.n (edges l.n l.adjacency) (vertex_order l) (weight_field l)
unfolding chart_of chart_with
chart_edges_lem l = refl

-- three headers, one byte for n, two for each edge, one for each place of the order, and the weights
pub chart_length : (n : ℕ) (es : List Edge) (o last : List ℕ) → length (chart_with n es o last) ≡ 10 + 2 * length es + length o + length last
unfolding chart_with field_bytes
chart_length n es o last = simp length-append (omega (arith, edge_bytes_length es))

-- so of a valid layout
pub chart_size_lem : (l : Layout) → T (valid l)
    → length (chart_of l) ≡ 10 + 2 * length (edges l.n l.adjacency) + l.n + length (weight_field l)
chart_size_lem l t =
    let es = edges l.n l.adjacency in
    ap length (chart_edges_lem l)
    ∙ chart_length l.n es (vertex_order l) (weight_field l)
    ∙ ap (λ (k : ℕ). 10 + 2 * length es + k + length (weight_field l)) (sound l t).permutation.size
