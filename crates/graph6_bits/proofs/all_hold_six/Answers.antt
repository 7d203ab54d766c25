use Rattle.std.proofs.Common.{◌≡◌, ℕ, ◌<◌, ◌↔◌, true, length, get_or, rules}
use Rattle.model.specs.Graph6.{holds_six}
use Rattle.graph6_bits.specs.Bits.{told_every}
use Rattle.graph6_bits.proofs.all_hold_six.Goals as goal

pub returns : goal.returns
returns c =
    let bytes = c.args.bytes.now in
    let told : c.all.result ≡ true ↔ ((k : ℕ) → k < length bytes → holds_six (get_or bytes k 0) ≡ true) = search rules in
    told_every holds_six bytes told
