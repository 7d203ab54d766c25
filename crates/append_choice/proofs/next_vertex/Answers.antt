use Rattle.std.proofs.Common.{rules, ap, ◌∙◌, ◌≡◌, ◌<◌, Some, cond, leb}
use Rattle.std.specs.Prelude.{MatchOption}
use Rattle.append_choice.specs.Choices.{turned, best_below, best_start, best_more, best_end}
use Rattle.append_choice.proofs.next_vertex.Goals as goal
use Rattle.append_choice.proofs.next_vertex.Goals.{in-Some, in_default}

pub loop-v-init : goal.loop-v-init
loop-v-init c = best_start

pub loop-v-preserved : goal.loop-v-preserved
unfolding turned
loop-v-preserved c =
    elim c.match-candidate.branch [
      | in-Some w ↦ best_more c.loop-v.invariant c.loop-v-test.true (rw w.in-Some.is at c.candidate.ensures) (w.best-is ∙ ap Some w.preferred.ensures)
      | in_default w ↦ best_more c.loop-v.invariant c.loop-v-test.true (rw w.in_default.is at c.candidate.ensures) w.best-is
    ]

pub returns : goal.returns
returns c =
    let chosen = cond (leb c.args.n 64) (best_below c.args.n c.args.adjacency.now c.args.placed c.args.n).vertex c.args.n in
    let found : MatchOption c.loop-v.best (c.args.n ≡ chosen) (λ b. (b.vertex ≡ chosen) × (b.vertex < c.args.n)) =
    best_end c.loop-v.invariant c.loop-v.auto.v-end c.loop-v-test.false c.if-n-gt64.false in
    search rules
