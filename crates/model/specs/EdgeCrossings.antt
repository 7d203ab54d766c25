-- The crossings of every edge (document 02, Note 7), in a lent table of numbers.
use Rattle.std.specs.Prelude.{ℕ, List, [], map}
use Rattle.model.specs.declared.Edge.{Edge}
use Rattle.model.specs.declared.Layout.{Layout}
use Rattle.model.specs.declared.EdgesCounted.{EdgesCounted}
use Rattle.model.specs.Lists.{sum_over}
use Rattle.model.specs.Crossings.{edges, crossing_weight}
use Rattle.model.specs.Layouts.{vertex_order, weight}
use Rattle.model.specs.Writing.{Format, fill_answer, filled}

-- "the crossings that link takes part in": those of the edge e with each of the edges es
unfoldable pub crossings_with : (ℕ → ℕ → ℕ) → List ℕ → List Edge → Edge → ℕ
crossings_with W o es e = sum_over (crossing_weight W o e) es

-- "a number per link in the writer's sequence"
unfoldable pub edge_crossings : Layout → List ℕ
edge_crossings l = let es = edges l.n l.adjacency in map (crossings_with (weight l) (vertex_order l) es) es

-- "Refused: 23 when the table has fewer entries than there are links, asked after 11."
abbrev pub table_format : Format
table_format = record { entries = edge_crossings; checks = λ l. []; short = 23 }

abbrev pub count_answer : ℕ → ℕ → EdgesCounted
count_answer r edges = record { refusal = r; edges = edges }

module _ (l : Layout) (table : List ℕ) where
  -- the refusal code, and the number of edges: there is a number for each
  unfoldable pub edge_crossings_of : EdgesCounted
  edge_crossings_of = fill_answer table_format l table count_answer

  -- the table after the call: "Entries beyond the last link keep their old contents."
  unfoldable pub crossing_table : List ℕ
  crossing_table = filled table_format l table
