use Rattle.std.proofs.Common.{◌≤◌, arith, sym, ◌∙◌, true≢false}
use Rattle.model.specs.Answers.{number}
use Rattle.model.specs.Charts.{size_found}
use Rattle.laws.specs.Graph6.SixBits.{six_within, within_six}
use Rattle.graph6_size.specs.Sizes.{long_refused, long_found}
use Rattle.graph6_size.proofs.long_size.Goals as goal
use Rattle.graph6_size.proofs.long_size.Goals.{Else-not-holds_six-2, then-n-lt63-via-then-n-lt63, then-n-lt63-via-else-n-lt63+then-n-gt64}
use Rattle.graph6_size.proofs.long_size.Goals.{then-high-ne63-via-then-high-ne63, then-high-ne63-via-else-high-ne63+then-not-holds_six}
use Rattle.graph6_size.proofs.long_size.Goals.{then-high-ne63-via-else-high-ne63+else-not-holds_six+then-not-holds_six-2}

six : (c : Else-not-holds_six-2) → let s = c.args in ((63 ≤ s.middle) × (s.middle ≤ 126)) × ((63 ≤ s.low) × (s.low ≤ 126))
six c = (
  six_within (sym c.holds_six.ensures ∙ c.if-not-holds_six.false),
  six_within (sym c.holds_six-else-not-holds_six.ensures ∙ c.if-not-holds_six-2.false),
)

pub returns-then-high-ne63 : goal.returns-then-high-ne63
unfolding size_found number
returns-then-high-ne63 c =
    long_refused
    (elim c.then-high-ne63.branch [
      | then-high-ne63-via-then-high-ne63 w ↦ (λ n many few h m l. omega (arith, w.if-high-ne63.true))
      | then-high-ne63-via-else-high-ne63+then-not-holds_six w ↦
          (let failed = sym w.holds_six.ensures ∙ w.if-not-holds_six.true in
          λ n many few h m l. true≢false (sym (within_six (omega arith) (omega arith)) ∙ failed))
      | then-high-ne63-via-else-high-ne63+else-not-holds_six+then-not-holds_six-2 w ↦
          (let failed = sym w.holds_six-else-not-holds_six.ensures ∙ w.if-not-holds_six-2.true in
          λ n many few h m l. true≢false (sym (within_six (omega arith) (omega arith)) ∙ failed))
    ])

pub overflow_sub-n : goal.overflow_sub-n
overflow_sub-n c = (six c).0.0

pub overflow_sub-n-2 : goal.overflow_sub-n-2
overflow_sub-n-2 c = (six c).1.0

pub returns-then-n-lt63 : goal.returns-then-n-lt63
unfolding size_found number
returns-then-n-lt63 c =
    let known = six (goal.at.returns-then-n-lt63 c).Else-not-holds_six-2 in
    long_refused
    (elim c.then-n-lt63.branch [
      | then-n-lt63-via-then-n-lt63 w ↦ (λ n many few h m l. omega (arith, w.if-n-lt63.true))
      | then-n-lt63-via-else-n-lt63+then-n-gt64 w ↦ (λ n many few h m l. omega (arith, w.if-n-gt64.true))
    ])

pub returns : goal.returns
unfolding size_found
returns c =
    let known = six (goal.at.returns c).Else-not-holds_six-2 in
    long_found (omega (arith, c.if-n-lt63.false)) (omega (arith, c.if-n-gt64.false)) (omega (arith, c.if-high-ne63.false)) (omega arith)
    (omega arith)
