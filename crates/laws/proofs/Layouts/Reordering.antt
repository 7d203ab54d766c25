-- The crossings fit the carried count, so a right count stays right.
use Rattle.std.specs.Prelude.{ℕ, ◌<◌, refl, T}
use Rattle.std.proofs.Common.{arith, ◌∙◌}
use Rattle.std.proofs.Math.Path.{ap}
use mathlib.Core.List.{List, ◌++◌}
use Rattle.std.proofs.Math.ListN.{drop}
use Rattle.model.specs.declared.Layout.{Layout}
use Rattle.model.specs.Layouts.{vertex_order, weight, crossings_of, valid, modulus, carried, changed, reordered, uncounted}
use Rattle.model.specs.Edits.{moved_after, move_checks, move_of}
use Rattle.laws.specs.Layouts.Refusals.{pair_passed}
use Rattle.laws.specs.Layouts.Refusals.{changed_either}
use Rattle.laws.proofs.Layouts.Validity.{crossings_bound}
use Rattle.laws.specs.Layouts.Reordering.{carried_right, CountRight, Keeps, same_keeps, moved_layout, move_valid}

pub crossings_fit : (l : Layout) → T (valid l) → crossings_of l < modulus
crossings_fit l t = omega (arith, crossings_bound l t)

-- where that holds of a valid layout, it holds of the valid layout that a call makes of it
pub changed_count : (l : Layout) (n : ℕ) (places adj ws : List ℕ) → T (valid l) → T (valid (changed l n places adj ws))
    → CountRight l → CountRight (changed l n places adj ws)
unfolding changed crossings_of vertex_order weight
changed_count l n places adj ws t u e =
    ap (λ (c : ℕ). carried c (crossings_of l) (crossings_of (uncounted n places adj ws))) e
    ∙ carried_right (crossings_of l) (crossings_of (uncounted n places adj ws)) (crossings_fit l t) (crossings_fit (changed l n places adj ws) u)

pub changed_keeps : (l : Layout) (n : ℕ) (places adj ws : List ℕ) → T (valid (changed l n places adj ws)) → Keeps l (changed l n places adj ws)
changed_keeps l n places adj ws u t = (u, changed_count l n places adj ws t u)

pub move_keeps : (l : Layout) (a b : ℕ) → Keeps l (move_of l a b).layout
unfolding move_of reordered
move_keeps l a b =
    changed_either l (move_checks l a b) (moved_layout l a b) (Keeps l)
    (λ e.
    (let p = pair_passed l a b e in
    changed_keeps l l.n (moved_after a b (vertex_order l) ++ drop l.n l.order) l.adjacency l.weights
    (move_valid l p.is_valid_lem a p.first b p.second p.different)))
    (same_keeps refl)
