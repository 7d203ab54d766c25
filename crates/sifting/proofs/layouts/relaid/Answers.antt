use Rattle.std.proofs.Common.{ℕ, ap, arith}
use Rattle.sifting.specs.Layouts.{relaid, lowered_wrapping}
use Rattle.sifting.proofs.layouts.relaid.Goals as goal

pub returns : goal.returns
unfolding relaid
returns c =
    let s = c.args in
    ap
    (λ (k : ℕ). record { n = s.l.n; order = s.order; adjacency = s.l.adjacency; weights = s.l.weights; count = k })
    (lowered_wrapping s.l.count s.saving _ (omega arith) (omega arith) (omega arith) (omega arith))
