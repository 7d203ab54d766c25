use Rattle.std.proofs.Common.{ℕ, ap₂}
use Rattle.std.proofs.Math.ListN.{set}
use Rattle.model.specs.Edits.{at_both_ends}
use Rattle.ends.proofs.change.Goals as goal

pub returns : goal.returns
unfolding at_both_ends
returns g c =
    let s = c.args in
    let computes = c.requires.1.1.1.1 in
    ap₂ (λ (x y : ℕ). set (set s.adjacency.now s.a x) s.b y)
    (computes _ _ _ c.requires.1.1.0 c.bit-at_a.ensures)
    (computes _ _ _ c.requires.1.0 c.bit-at_b.ensures)
