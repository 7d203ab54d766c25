-- The table of the crossings of every edge (document 02, Note 7), after an accepted call.
use Rattle.std.specs.Prelude.{ℕ, ◌≡◌, List, length}
use Rattle.std.proofs.Math.Path.{refl, sym, ap}
use Rattle.std.proofs.Common.{◌∙◌}
use Rattle.std.proofs.Math.ListN.{take}
use Rattle.std.proofs.lemmas.List.{length-map}
use Rattle.model.specs.declared.Layout.{Layout}
use Rattle.model.specs.declared.EdgesCounted.{EdgesCounted}
use Rattle.model.specs.Crossings.{edges}
use Rattle.model.specs.Layouts.{vertex_order, weight}
use Rattle.model.specs.Checks.{refusal}
use Rattle.model.specs.Writing.{fill_checks}
use Rattle.model.specs.EdgeCrossings.{crossings_with, edge_crossings, table_format, count_answer, edge_crossings_of, crossing_table}
use Rattle.laws.specs.Layouts.Refusals.{checked_number}
use Rattle.laws.specs.Buffers.Formats.{fill_answered, filled_front}

-- there is a number for each edge
pub numbers_length : (l : Layout) → length (edge_crossings l) ≡ length (edges l.n l.adjacency)
unfolding edge_crossings
numbers_length l = let es = edges l.n l.adjacency in length-map es (crossings_with (weight l) (vertex_order l) es)

module _ (l : Layout) (table : List ℕ) (accepted : (edge_crossings_of l table).refusal ≡ 0) where
  pub passed : refusal (fill_checks table_format l table) ≡ 0
  unfolding edge_crossings_of
  passed = sym (checked_number (fill_checks table_format l table) _ _ (λ (a : EdgesCounted). a.refusal) refl (λ r. refl)) ∙ accepted

  answered : edge_crossings_of l table ≡ count_answer 0 (length (edge_crossings l))
  unfolding edge_crossings_of
  answered = fill_answered table_format l table passed count_answer

  -- the number that is answered is that of the edges
  pub edges_told : (edge_crossings_of l table).edges ≡ length (edges l.n l.adjacency)
  edges_told = ap (λ (a : EdgesCounted). a.edges) answered ∙ numbers_length l

  -- so many entries of the table are the crossings of the edges
  pub table_front : take (edge_crossings_of l table).edges (crossing_table l table) ≡ edge_crossings l
  unfolding crossing_table
  table_front =
      ap (λ (a : EdgesCounted). take a.edges (crossing_table l table)) answered ∙ filled_front table_format l table passed
