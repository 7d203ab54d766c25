use mathlib.Core.Path.{◌∙◌}
use Rattle.calls_encoding.specs.CallLists.{call_beyond, call_numbers}
use Rattle.calls_encoding.proofs.calls.call_at.Goals as goal

pub returns-then-calls-i : goal.returns-then-calls-i
returns-then-calls-i c = call_beyond _ _ c.if-calls-i.true

pub returns : goal.returns
returns c =
    c.call_of.ensures ∙ call_numbers _ _ c.if-calls-i.false
