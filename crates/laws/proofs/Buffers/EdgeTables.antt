-- The numbers in the table sum to twice the crossings.
use Rattle.std.specs.Prelude.{ℕ, ◌*◌, ◌≡◌, List}
use Rattle.std.proofs.Math.Path.{ap}
use Rattle.std.proofs.Common.{◌∙◌}
use Rattle.std.proofs.Math.ListN.{take}
use Rattle.model.specs.declared.Layout.{Layout}
use Rattle.model.specs.Lists.{sum_over}
use Rattle.model.specs.Layouts.{crossings_of}
use Rattle.model.specs.EdgeCrossings.{edge_crossings_of, crossing_table}
use Rattle.laws.specs.Layouts.EdgeCrossings.{edge_crossings_twice}
use Rattle.laws.specs.Buffers.Formats.{table_coded, fill_accepted}
use Rattle.laws.specs.Buffers.EdgeTables.{passed, table_front}

module _ (l : Layout) (table : List ℕ) (accepted : (edge_crossings_of l table).refusal ≡ 0) where
  -- and their sum is twice the crossings
  pub table_twice : sum_over (λ x. x) (take (edge_crossings_of l table).edges (crossing_table l table)) ≡ 2 * crossings_of l
  table_twice =
      ap (sum_over (λ x. x)) (table_front l table accepted) ∙ edge_crossings_twice l (fill_accepted table_coded l table (passed l table accepted)).is_valid_lem
