use Rattle.std.proofs.Common.{inl, inr}
use Rattle.std.proofs.lemmas.Slice.Zip.{Zip-more, either_empty_from_Zip}
use Rattle.chart_weights.specs.Listed.{set_start, set_next, set_all, set_listed}
use Rattle.chart_weights.proofs.set_listed.Goals as goal

pub loop-a-init : goal.loop-a-init
loop-a-init c = set_start (cc) (cc)

pub loop-a-preserved : goal.loop-a-preserved
loop-a-preserved c =
    let more = Zip-more c.loop-a.a-iterator c.next.new.self _ _ c.in-Some.is c.next.ensures.steps in
    set_next c.loop-a.invariant more.0 more.1 c.set_both.ensures

pub returns : goal.returns
returns c =
    elim (either_empty_from_Zip c.loop-a.a-iterator c.next.new.self _ c.in-None.is c.next.ensures.steps) [
      | inl p ↦ set_all c.loop-a.invariant p
      | inr q ↦ set_listed c.loop-a.invariant q
    ]
