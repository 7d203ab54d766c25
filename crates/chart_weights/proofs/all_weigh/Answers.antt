use Rattle.std.specs.Prelude.{not, eqb}
use Rattle.std.proofs.Common.{rules, tests, arith, ◌∙◌}
use Rattle.std.proofs.lemmas.Iterator.{YieldsList-from_slice}
use Rattle.std.proofs.lemmas.Iterator.Search.{all_from_yields_List}
use Rattle.chart_weights.specs.Listed.{bytes_weigh}
use Rattle.chart_weights.proofs.all_weigh.Goals as goal

pub returns : goal.returns
returns c =
    let body = c.args.body.now in
    all_from_yields_List (λ w. not (eqb w 0)) _ _ c.all.result c.all.ensures.ran (YieldsList-from_slice body cc) (λ x b q k. search (rules, tests))
    ∙ bytes_weigh body (λ i. omega (arith, c.type_inv.body i))
