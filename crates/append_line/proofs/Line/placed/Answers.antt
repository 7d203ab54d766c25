use Rattle.std.proofs.Common.{ap, ◌%◌, ℕ, take, drop}
use Rattle.std.proofs.Math.Nat.{add-sub_cancel_left}
use Rattle.append_line.specs.Lines.{placed_in}
use Rattle.append_line.proofs.Line.placed.Goals as goal

pub returns-clause-value : goal.returns-clause-value
unfolding placed_in
returns-clause-value c =
    let l = c.args.self.now in
    ap (λ (k : ℕ). take k (drop (l.first % 65) l.places)) (add-sub_cancel_left (l.first % 65) (l.size % 65))
