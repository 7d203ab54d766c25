use native.Mathlib.Omega.{arith}
use mathlib.Core.Path.{sym, ◌∙◌}
use Rattle.calls_encoding.specs.CallLists.{calls_fit, counted_next, counted_end}
use Rattle.calls_encoding.proofs.calls.count_calls.Goals as goal

pub returns-in_default : goal.returns-in_default
returns-in_default c =
    counted_end _ c.loop-i.invariant (sym c.call_at.ensures ∙ c.in_default.is)

pub loop-i-preserved : goal.loop-i-preserved
loop-i-preserved c =
    counted_next _ (omega arith) c.loop-i.invariant (sym c.call_at.ensures ∙ c.in-Some.is)

pub returns : goal.returns
returns c = omega (arith, calls_fit c.args.calls.now)
