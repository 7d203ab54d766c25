use Rattle.std.proofs.Common.{◌≡◌, ℕ, suc, ◌^◌, ◌≤◌, ◌<◌, ◌↔◌, true, length, get_or, ltb, ap, arith, rules}
use Rattle.std.proofs.Math.Nat.{min-eq_left}
use lib.Pow.{pow_pos}
use Rattle.model.specs.Layouts.{bits_below}
use Rattle.words.specs.Each.{told_each}
use Rattle.graphs.specs.Bounds.{told_most}
use Rattle.graphs.proofs.rows.bits_below.Goals as goal

pub returns : goal.returns
unfolding bits_below
returns c =
    let n = c.args.n in
    let words = c.args.adjacency.now in
    let size : length words ≡ 64 = search rules in
    let full : suc c.low_bits-most.result ≡ 2 ^ n =
    omega (arith, c.low_bits-most.ensures, ap (λ (m : ℕ). 2 ^ m) (min-eq_left c.requires), pow_pos n) in
    let told : c.all.result ≡ true ↔ ((k : ℕ) → k < length words → get_or words k 0 ≤ c.low_bits-most.result) = search rules in
    told_each (λ v. ltb (get_or words v 0) (2 ^ n)) 64 (told_most words size full told)
