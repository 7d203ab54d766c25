use Rattle.std.specs.Prelude.{Err}
use Rattle.std.proofs.Common.{rules, ◌≡◌, List, ℕ, ◌++◌, drop, sym, ap, ◌∙◌}
use Rattle.model.specs.Answers.{refusal_number}
use Rattle.model.specs.SmallOrders.{order_at_checks, order_at_refusal, order_at_bytes}
use Rattle.laws.specs.Layouts.Refusals.{passed_on, number_told, when_accepted, handed_back}
use Rattle.small_calls.proofs.Accepted.{accepted, listed_passed, room_passed}
use Rattle.small_calls.proofs.listed.order_at.Goals as goal

pub returns-in_err-check_order : goal.returns-in_err-check_order
unfolding refusal_number order_at_refusal order_at_bytes order_at_checks
returns-in_err-check_order c =
    let back : c.from_residual.result ≡ Err c.in_err-check_order.field-0.0 = search rules in
    rw back (record {
      value = number_told c.check_order.ensures c.in_err-check_order.was;
      buffer_after = handed_back _ _ (λ r. c.args.buffer.now) c.check_order.ensures c.in_err-check_order.was;
    })

pub order_of-requires : goal.order_of-requires
order_of-requires c =
    let a = accepted _ _ (passed_on c.check_order.ensures c.in_ok-check_order.was) in (a.small, (listed_passed _ _ _ a.rest).0)

pub put_order-requires : goal.put_order-requires
put_order-requires c =
    let a = accepted _ _ (passed_on c.check_order.ensures c.in_ok-check_order.was) in (a.small, room_passed _ _ (listed_passed _ _ _ a.rest).1)

pub returns-clause-value : goal.returns-clause-value
unfolding refusal_number order_at_refusal order_at_checks
returns-clause-value c = sym (passed_on c.check_order.ensures c.in_ok-check_order.was)

pub returns-clause-buffer_after : goal.returns-clause-buffer_after
unfolding order_at_bytes order_at_checks
returns-clause-buffer_after c =
    c.put_order.ensures
    ∙ ap (λ (xs : List ℕ). xs ++ drop c.args.l.n c.args.buffer.now) c.order_of.ensures
    ∙ sym (when_accepted _ _ _ (passed_on c.check_order.ensures c.in_ok-check_order.was))
