use Rattle.std.proofs.Common.{◌≡◌, ℕ, ◌<◌, ◌↔◌, true, rules}
use Rattle.std.proofs.iter.runs.Sources.{ranges}
use Rattle.words.specs.Each.{told_each}
use Rattle.weights_valid.specs.Bytes.{group_fits, on_edges}
use Rattle.weights_valid.proofs.on_edges.Goals as goal

pub returns : goal.returns
unfolding on_edges
returns c =
    let fits = group_fits c.args.adjacency.now c.args.weights.now in
    let told : c.all.result ≡ true ↔ ((k : ℕ) → k < 8 → fits k ≡ true) = search (rules, ranges) in
    told_each fits 8 told
