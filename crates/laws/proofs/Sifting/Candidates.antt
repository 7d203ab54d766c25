-- A right count stays right where a layout is rearranged.
use Prim.Native.Nat.{ℕ}
use Rattle.std.proofs.Common.{◌∙◌}
use Rattle.std.specs.Prelude.{T}
use Rattle.std.proofs.Math.Path.{ap}
use Rattle.model.specs.declared.Layout.{Layout}
use Rattle.model.specs.Layouts.{crossings_of, valid, carried}
use Rattle.laws.specs.Layouts.Reordering.{carried_right}
use Rattle.laws.proofs.Layouts.Reordering.{crossings_fit}
use Rattle.laws.specs.Layouts.Reordering.{CountRight}
use Rattle.laws.specs.Sifting.Candidates.{Rearranged}

-- a right count stays right
pub rearranged_count : {l m : Layout} → T (valid l) → Rearranged l m → CountRight l → CountRight m
rearranged_count {l} {m} t p e =
    p.count_carried (rw e (crossings_fit l t))
    ∙ ap (λ (c : ℕ). carried c (crossings_of l) (crossings_of m)) e
    ∙ carried_right (crossings_of l) (crossings_of m) (crossings_fit l t) (crossings_fit m p.valid_after)
