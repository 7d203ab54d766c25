use Rattle.std.proofs.Common.{◌≡◌, ℕ, ◌<◌, ◌↔◌, true, false, not, length, get_or, take, eqb, get_or-take, length-take-le, ap, sym, ◌∙◌, arith, rules}
use Rattle.std.proofs.lemmas.Bool.{not-true}
use Rattle.model.specs.Layouts.{loopless}
use Rattle.model.specs.Crossings.{bit, linked}
use Rattle.words.specs.Each.{told_each}
use Rattle.graphs.proofs.rows.loopless.Goals as goal

pub returns : goal.returns
unfolding loopless linked
returns c =
    let n = c.args.n in
    let words = c.args.adjacency.now in
    let front = take n words in
    let size : length words ≡ 64 = search rules in
    let few : length front ≡ n = length-take-le n words (omega arith) in
    let told : c.all.result ≡ true ↔ ((k : ℕ) → k < length front → eqb (bit (get_or front k 0) k) 1 ≡ false) = search rules in
    let at = λ (k : ℕ) (l : k < n). ap (λ (w : ℕ). eqb (bit w k) 1) (get_or-take n words k 0 l) in
    told_each (λ v. not (eqb (bit (get_or words v 0) v) 1)) n
    (λ t k l. ap not (sym (at k l) ∙ told.0 t k (omega arith)), λ f. told.1 (λ k l. at k (omega arith) ∙ not-true _ (f k (omega arith))))
