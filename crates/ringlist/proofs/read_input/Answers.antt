use Rattle.std.proofs.Common.{rules, sym, subst}
use Rattle.std.specs.Io.KnownBytes.{Consumes}
use Rattle.std.proofs.KnownBytes.{Consumes-trans}
use Rattle.ringlist.proofs.Reading.{take_more}
use Rattle.ringlist.proofs.read_input.Goals as goal

pub loop-got-preserved : goal.loop-got-preserved
loop-got-preserved g c = record {
  within = search rules;
  taken =
      let more = take_more _ _ _ _ _ c.loop-got.invariant.within c.in_ok-more.ensures.bound.0 in
      subst (Consumes _ _) (sym more) (Consumes-trans _ _ _ _ _ c.loop-got.invariant.taken c.in_ok-more.ensures.bytes.0);
}
