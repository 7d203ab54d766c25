use Prim.Native.Nat.{suc}
use native.Mathlib.Omega.{arith}
use native.Mathlib.Numerals.{add-one}
use mathlib.Core.Path.{◌≡◌, sym, ◌∙◌}
use mathlib.Core.Bool.{false}
use lib.Dec.{eqb}
use borrow.Author.Tests.{lt-ltb, le-ltb, le-leb, lt-leb, eq-eqb, ne_eqb}
use Rattle.laws.specs.Orders.Moves.{moved_from}
use Rattle.places.proofs.moved_from.Goals as goal
use Rattle.places.proofs.moved_from.Goals.{Else-i-q-2}

-- not the place directly behind the other
not_behind : (c : Else-i-q-2) → let s = c.args in eqb s.i (suc s.q) ≡ false
not_behind c =
    let s = c.args in
    ne_eqb s.i (suc s.q) (λ e. c.if-i-q-2.false (e ∙ sym (add-one s.q)))

pub returns-then-i-q : goal.returns-then-i-q
unfolding moved_from
returns-then-i-q c =
    record { is = rw (lt-ltb _ _ c.if-q-p.true, le-leb _ _ c.if-i-q.true); small = omega arith }

pub returns-then-i-q-2 : goal.returns-then-i-q-2
unfolding moved_from
returns-then-i-q-2 c =
    let s = c.args in
    record {
      is = rw (lt-ltb _ _ c.if-q-p.true, lt-leb _ _ c.if-i-q.false, eq-eqb s.i (suc s.q) (omega arith));
      small = omega arith;
    }

pub returns-then-i-p : goal.returns-then-i-p
unfolding moved_from
returns-then-i-p c =
    record {
      is = rw (lt-ltb _ _ c.if-q-p.true, lt-leb _ _ c.if-i-q.false, not_behind c.before, le-leb _ _ c.if-i-p.true);
      small = omega arith;
    }

pub returns-else-i-p : goal.returns-else-i-p
unfolding moved_from
returns-else-i-p c =
    record {
      is = rw (lt-ltb _ _ c.if-q-p.true, lt-leb _ _ c.if-i-q.false, not_behind c.before, lt-leb _ _ c.if-i-p.false);
      small = omega arith;
    }

pub returns-then-i-p-2 : goal.returns-then-i-p-2
unfolding moved_from
returns-then-i-p-2 c =
    record { is = rw (le-ltb _ _ c.if-q-p.false, lt-ltb _ _ c.if-i-p-2.true); small = omega arith }

pub returns-then-i-q-3 : goal.returns-then-i-q-3
unfolding moved_from
returns-then-i-q-3 c =
    record {
      is = rw (le-ltb _ _ c.if-q-p.false, le-ltb _ _ c.if-i-p-2.false, lt-ltb _ _ c.if-i-q-3.true) (add-one _);
      small = omega arith;
    }

pub returns-then-i-q-4 : goal.returns-then-i-q-4
unfolding moved_from
returns-then-i-q-4 c =
    record {
      is = rw (le-ltb _ _ c.if-q-p.false, le-ltb _ _ c.if-i-p-2.false, le-ltb _ _ c.if-i-q-3.false, eq-eqb _ _ c.if-i-q-4.true);
      small = omega arith;
    }

pub returns-else-i-q-4 : goal.returns-else-i-q-4
unfolding moved_from
returns-else-i-q-4 c =
    record {
      is = rw (le-ltb _ _ c.if-q-p.false, le-ltb _ _ c.if-i-p-2.false, le-ltb _ _ c.if-i-q-3.false, ne_eqb _ _ c.if-i-q-4.false);
      small = omega arith;
    }
