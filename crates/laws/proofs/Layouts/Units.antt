-- Whether every edge weighs 1 is asked of the entries of the table.
use Rattle.std.specs.Prelude.{◌≡◌}
use Rattle.std.proofs.Math.Dec.{T}
use Rattle.model.specs.declared.Layout.{Layout}
use Rattle.model.specs.Layouts.{valid}
use Rattle.model.specs.WrittenCharts.{unit_weighted}
use Rattle.laws.specs.Sums.Indicators.{bool_ext}
use Rattle.laws.specs.Layouts.Units.{none_above_one, entries_unit, unit_entries, unit_agrees, agrees_unit, unit_weighted_lem}

-- so it is enough to ask the entries
pub unit_asked : (l : Layout) → T (valid l) → none_above_one l.weights ≡ unit_weighted l
unit_asked l t =
    bool_ext (none_above_one l.weights) (unit_weighted l)
    (λ a. agrees_unit l (unit_agrees l t (entries_unit l.weights a)))
    (λ w. unit_entries (unit_weighted_lem l t w))
