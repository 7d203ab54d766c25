use native.Mathlib.Omega.{arith}
use mathlib.Core.Path.{◌≡◌}
use lib.ListN.{length}
use Rattle.laws.specs.Buffers.Writing.{written_size}
use Rattle.calls_play.specs.PlayLoops.{played_start, played_next, played_all}
use Rattle.calls_play.proofs.playing.play_all.Goals as goal
use Rattle.calls_play.proofs.playing.play_all.Goals.{At-loop-i}

-- the table keeps its length
same_size : (c : At-loop-i) → length c.loop-i.answers ≡ length c.args.answers.now
same_size c = written_size c.loop-i.invariant.answered (omega (arith, c.loop-i.invariant.inside, c.requires))

pub loop-i-init : goal.loop-i-init
loop-i-init c = played_start _ _ _

pub play_next-layout-requires : goal.play_next-layout-requires
play_next-layout-requires c =
    omega (arith, same_size (goal.at.play_next-layout-requires c).At-loop-i, c.requires)

pub loop-i-preserved : goal.loop-i-preserved
loop-i-preserved c =
    let done = c.play_next-layout.ensures in
    played_next c.loop-i.invariant (omega (arith, c.requires)) (omega (arith, c.requires)) done.value done.answers_after

pub shape_of-answers : goal.shape_of-answers
shape_of-answers c = same_size (goal.at.shape_of-answers c).At-loop-i

pub returns : goal.returns
returns c =
    let t = played_all c.loop-i.invariant c.requires.0 (omega arith) in
    record { value = t.0; answers_after = t.1 }
