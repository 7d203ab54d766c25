use Rattle.std.proofs.Common.{le_refl, arith}
use Rattle.small_search.specs.Branches.{begun_asked}
use Rattle.small_search.specs.Turns.{none_right, answered}
use Rattle.small_search.proofs.least_of.Goals as goal

pub returns-then-n-eq0 : goal.returns-then-n-eq0
returns-then-n-eq0 c = none_right _ _ c.if-n-eq0.true

pub list_rest-requires : goal.list_rest-requires
list_rest-requires c =
    let asked = begun_asked c.requires (omega arith) c.begun-first.ensures in (asked.0, (asked.1, le_refl 1099511627776))

pub returns : goal.returns
returns c = answered c.requires (omega arith) _ c.begun-first.ensures c.list_rest.ensures.result_value
