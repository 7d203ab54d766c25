use Rattle.std.proofs.Common.{le_refl, arith, sym, ◌∙◌}
use Rattle.small_prefix.specs.Prefixes.{in_bits}
use Rattle.small_search.specs.Branches.{next_asked}
use Rattle.small_search.specs.Turns.{turns_start, turns_next, cut_right, leaf_right, inner_right, next_answered}
use Rattle.small_search.proofs.Branch.+list_rest.Goals as goal
use Rattle.small_search.proofs.Branch.+list_rest.Goals.{then-not-is_set, else-not-is_set}

-- left out
pub returns-then-best-self-clause-result_value : goal.returns-then-best-self-clause-result_value
returns-then-best-self-clause-result_value t c = cut_right c.requires.1.0 c.args.best c.if-best-self.true

-- an order that is complete
pub returns-then-left-eq0-clause-result_value : goal.returns-then-left-eq0-clause-result_value
returns-then-left-eq0-clause-result_value t c = leaf_right c.requires.1.0 c.args.best c.if-best-self.false c.if-left-eq0.true

pub loop-v-init : goal.loop-v-init
loop-v-init t c = turns_start

pub list_rest-found-requires : goal.list_rest-found-requires
list_rest-found-requires t c =
    let u = c.requires.1.0 in
    let out = sym (in_bits u.ready c.loop-v-test.true) ∙ sym c.is_set.ensures ∙ c.if-not-is_set.true in
    let asked = next_asked c.requires.0 u c.loop-v-test.true (omega arith) out c.put_behind-next.ensures in
    (omega arith, (asked.0, (asked.1, omega (arith, c.loop-v.invariant.low, c.requires.1.1))))

-- a turn: the search of what starts with v, or nothing where v is placed
pub loop-v-preserved : goal.loop-v-preserved
loop-v-preserved t c =
    let u = c.requires.1.0 in
    let inside = c.loop-v-test.true in
    let told = sym (in_bits u.ready inside) ∙ sym c.is_set.ensures in
    elim c.if-not-is_set.branch [
      | then-not-is_set w ↦
          let found =
          next_answered u c.loop-v.found c.requires.0 inside (omega arith) (told ∙ w.if-not-is_set.true) w.put_behind-next.ensures
          w.list_rest-found.ensures.result_value in
          rw w.found-is (turns_next c.loop-v.invariant inside found w.list_rest-found.ensures.low)
      | else-not-is_set w ↦
          let placed = told ∙ w.if-not-is_set.false in rw w.found-is (turns_next c.loop-v.invariant inside (rw placed) (le_refl _))
    ]

-- after the last vertex
pub returns-clause-result_value : goal.returns-clause-result_value
returns-clause-result_value t c = inner_right c.requires.1.0 c.args.best c.if-best-self.false (omega arith) c.loop-v.invariant c.loop-v-test.false
