use Rattle.std.proofs.Common.{ℕ, ◌≡◌, false, eqb, arith, sym, ap₂, ◌∙◌, Some}
use Rattle.std.proofs.lemmas.Bool.Decides.{nat_tests}
use Rattle.append_choice.specs.Choices.{candidate_if, candidate, complement}
use Rattle.append_choice.proofs.candidate.Goals as goal

-- a vertex with edges that is not placed, with its two counts
pub returns : goal.returns
unfolding candidate_if candidate complement
returns c =
    let some : eqb c.args.word 0 ≡ false = grind (arith, nat_tests) in
    rw (some, sym c.is_set.ensures ∙ c.if-is_set.false)
    (ap₂ (λ (a b : ℕ). Some (record { vertex = c.args.v; placed = a; unplaced = b })) c.count.ensures c.count-2.ensures)
