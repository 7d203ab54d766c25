use Rattle.std.specs.Prelude.{◌≡◌, ◌/◌, ◌%◌, length}
use Rattle.std.specs.Simd.{first_chunks}
use Rattle.std.proofs.Common.{rules, tests, arith, sym, ◌∙◌, eqb-true}
use Rattle.std.proofs.lemmas.Bool.Decides.{nat_tests}
use Rattle.std.proofs.lemmas.Iterator.{YieldsList-from_slice}
use Rattle.std.proofs.lemmas.Iterator.Search.{all_from_yields_List}
use Rattle.model.specs.Lists.{every}
use Rattle.model.specs.Charts.{edges_in, edge_within}
use Rattle.chart_ends.specs.Edges.{pair_within, pairs_within, answer_odd, answer_outside, answer_within}
use Rattle.chart_ends.proofs.ask_ends.Goals as goal
use Rattle.chart_ends.proofs.ask_ends.Goals.{After-all}

told : (c : After-all) → c.all.result ≡ every (edge_within c.args.n) (edges_in c.args.links.now)
told c =
    let s = c.args.links.now in
    all_from_yields_List (pair_within c.args.n) _ _ c.all.result c.all.ensures.ran (YieldsList-from_slice (first_chunks 2 (length s / 2) s) cc)
    (λ x b q k. search (rules, tests))
    ∙ pairs_within c.args.n s

even : (c : After-all) → length c.args.links.now % 2 ≡ 0
even c = sym c.as_chunks.ensures.back_len ∙ eqb-true _ 0 (sym c.is_empty.ensures ∙ c.if-not-is_empty.false)

pub returns-then-not-is_empty : goal.returns-then-not-is_empty
returns-then-not-is_empty c = answer_odd _ _ (λ e. grind (arith, nat_tests, c.as_chunks.ensures.back_len))

pub returns-then-all : goal.returns-then-all
returns-then-all c = let known = (goal.at.returns-then-all c).After-all in answer_within _ _ (even known) (sym (told known) ∙ c.if-all.true)

pub returns-else-all : goal.returns-else-all
returns-else-all c = let known = (goal.at.returns-else-all c).After-all in answer_outside _ _ (even known) (sym (told known) ∙ c.if-all.false)
