use Rattle.std.proofs.Common.{◌≡◌, ℕ, ◌+◌, ◌<◌, ◌↔◌, true, length, get_or, rules}
use Rattle.words.specs.Each.{told_zeros}
use Rattle.graphs.proofs.rows.zero_from.Goals as goal

pub returns : goal.returns
returns c =
    let n = c.args.n in
    let xs = c.args.adjacency.now in
    let size : length xs ≡ 64 = search rules in
    let told : c.all.result ≡ true ↔ ((k : ℕ) → n + k < length xs → get_or xs (n + k) 0 ≡ 0) = search rules in
    told_zeros n xs size told
