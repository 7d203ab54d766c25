use Rattle.std.proofs.Common.{rules}
use Rattle.std.proofs.lemmas.Iterator.Consumers.{nth_from_yields_List}
use Rattle.chart_questions.specs.Fields.{fields_yielded, weights_told}
use Rattle.chart_questions.proofs.weights_of.Goals as goal

pub returns : goal.returns
returns c =
    let said = nth_from_yields_List _ _ _ c.nth.ensures.ran (fields_yielded _) in
    weights_told c.args.bytes.now c.nth.result said c.map.result _ (λ f b q. search rules) c.map.ensures.cases
