use Rattle.std.proofs.Common.{List, ℕ, length, drop, replicate, ◌++◌, ◌∙◌, sym, ap}
use Rattle.std.proofs.Math.Seq.{take-length}
use Rattle.laws.specs.Charts.Padded.{padded_copy}
use Rattle.chart.proofs.filled_up.Goals as goal

pub returns : goal.returns
returns c =
    let body = c.args.body.now in
    rw c.copy_from_slice.ensures.after
    (ap (λ (xs : List ℕ). xs ++ drop (length body) (replicate 64 0)) (sym (take-length body)) ∙ padded_copy body c.requires)
