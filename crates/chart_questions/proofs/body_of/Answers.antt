use Rattle.std.proofs.Common.{rules, refl}
use Rattle.std.proofs.lemmas.Iterator.Consumers.{nth_from_yields_List}
use Rattle.chart_questions.specs.Fields.{fields_yielded, body_told}
use Rattle.chart_questions.proofs.body_of.Goals as goal

pub returns : goal.returns
returns c =
    let said = nth_from_yields_List _ _ _ c.nth.ensures.ran (fields_yielded _) in
    body_told c.args.bytes.now c.args.i c.nth.result said c.map_or.result _ refl _ (λ f q. search rules) c.map_or.ensures
