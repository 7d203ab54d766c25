use Rattle.std.specs.Prelude.{Err}
use Rattle.std.proofs.Common.{rules, ◌≡◌, ◌++◌, drop, sym, ap, ◌∙◌}
use Rattle.model.specs.Answers.{told_by, as_least}
use Rattle.model.specs.Layouts.{weight}
use Rattle.model.specs.SmallOrders.{least_checks, least_of, least_bytes}
use Rattle.laws.specs.Layouts.Refusals.{passed_on, when_accepted, handed_back}
use Rattle.laws.specs.Small.Search.{Best}
use Rattle.small_search.specs.Branches.{found_in, least_found}
use Rattle.small_calls.proofs.Accepted.{accepted, room_passed, searched}
use Rattle.small_calls.proofs.least.least_crossings.Goals as goal

pub returns-in_err-check_least : goal.returns-in_err-check_least
unfolding as_least told_by least_of least_bytes least_checks
returns-in_err-check_least c =
    let back : c.from_residual.result ≡ Err c.in_err-check_least.field-0.0 = search rules in
    rw back (record {
      value = handed_back _ _ _ c.check_least.ensures c.in_err-check_least.was;
      buffer_after = handed_back _ _ (λ r. c.args.buffer.now) c.check_least.ensures c.in_err-check_least.was;
    })

pub least_of-found-requires : goal.least_of-found-requires
least_of-found-requires c = searched _ _ (accepted _ _ (passed_on c.check_least.ensures c.in_ok-check_least.was))

pub put_order-requires : goal.put_order-requires
put_order-requires c =
    let a = accepted _ _ (passed_on c.check_least.ensures c.in_ok-check_least.was) in (a.small, room_passed _ _ a.rest)

pub returns-clause-value : goal.returns-clause-value
unfolding as_least told_by least_of least_checks found_in least_found weight
returns-clause-value c =
    ap (λ (b : Best). record { refusal = 0; crossings = b.count }) c.least_of-found.ensures
    ∙ sym (when_accepted _ _ _ (passed_on c.check_least.ensures c.in_ok-check_least.was))

pub returns-clause-buffer_after : goal.returns-clause-buffer_after
unfolding least_bytes least_checks found_in least_found weight
returns-clause-buffer_after c =
    c.put_order.ensures
    ∙ ap (λ (b : Best). b.order ++ drop c.args.l.n c.args.buffer.now) c.least_of-found.ensures
    ∙ sym (when_accepted _ _ _ (passed_on c.check_least.ensures c.in_ok-check_least.was))
