use Rattle.std.proofs.Common.{◌<◌, refl, ap, arith}
use Rattle.sifting.specs.declared.convergence.Settled.{Settled}
use Rattle.sifting.specs.Settling.{settled_next, settling_start, settling_next, settling_still, settling_limit, settling_bounds}
use Rattle.sifting.proofs.convergence.run_rounds.Goals as goal
use Rattle.sifting.proofs.convergence.run_rounds.Goals.{In-loop}

-- rounds are left
more : (c : In-loop) → c.loop.state.rounds < c.args.limit
more c = omega (arith, c.loop-test.true, c.loop.invariant.counted)

pub loop-init : goal.loop-init
loop-init c = record { settling = settling_start _ c.requires.0; counted = refl }

pub add-requires : goal.add-requires
add-requires c =
    let asked = c.requires in
    let left = more (goal.at.add-requires c).In-loop in
    let bounds = settling_bounds c.loop.invariant.settling left c.sift_all-round.ensures asked.0 in
    (omega (arith, bounds.0), omega (arith, left, asked.2), omega (arith, bounds.1, asked.2))

pub loop-preserved : goal.loop-preserved
unfolding settled_next
loop-preserved c =
    let left = more (goal.at.loop-preserved c).In-loop in
    record {
      settling = settling_next c.loop.invariant.settling left c.sift_all-round.ensures c.add.ensures c.if-state.false;
      counted = omega (arith, ap (λ (x : Settled). x.rounds) c.add.ensures, c.loop.invariant.counted);
    }

pub returns-then-state : goal.returns-then-state
returns-then-state c =
    settling_still c.loop.invariant.settling (more (goal.at.returns-then-state c).In-loop) c.sift_all-round.ensures c.add.ensures c.if-state.true

pub returns-after-loop : goal.returns-after-loop
returns-after-loop c = settling_limit c.loop.invariant.settling (omega (arith, c.loop-test.false, c.loop.invariant.counted))
