use Rattle.model.specs.Answers.{told_by, as_appended}
use Rattle.append.specs.Calls.{graph_valid, laid_right}
use Rattle.append.proofs.appending.append_from.Goals as goal

pub place_linked-linked-requires : goal.place_linked-linked-requires
place_linked-linked-requires c = (graph_valid c.args.l c.requires.0, c.requires.1)

pub returns : goal.returns
unfolding as_appended told_by
returns c =
    laid_right c.args.l c.args.s c.requires.0 c.requires.1 c.place_linked-linked.ensures c.put_rest.ensures
    c.written-order.ensures c.carried_to-next.ensures
