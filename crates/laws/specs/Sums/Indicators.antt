-- Tests as the numbers 0 and 1, and the order of two numbers.
use Rattle.std.specs.Prelude.{ℕ, ◌*◌, ◌≤◌, ◌<◌, ◌≡◌, refl, Bool, true, false, not, ◌&&◌, ◌||◌, T, eqb, ltb}
use Rattle.std.proofs.Math.Decide.{dec_lt, ℕ_discrete}
use Rattle.std.proofs.Common.{arith, sym, ◌∙◌, eq-eqb, ne_eqb, lt-ltb, le-ltb}
use Rattle.std.proofs.Math.Path.{ap}
use Rattle.std.specs.Bool.{beq}
use Rattle.std.proofs.Math.Bool.{and-eq-true_iff}
use Rattle.std.proofs.lemmas.Bool.{not-true, not-false}
use Rattle.model.specs.Lists.{one}

-- which of two numbers is the lower
pub data Order (a b : ℕ) : Type 0 where
  less : a < b → Order a b
  same : a ≡ b → Order a b
  more : b < a → Order a b

pub order : (a b : ℕ) → Order a b
order a b = elim (dec_lt a b) [ yes l ↦ less l | no k ↦ elim (ℕ_discrete a b) [ yes e ↦ same e | no d ↦ more (omega arith) ] ]

-- the tests, once they are decided
module _ (a b : ℕ) where
  pub one_eq : a ≡ b → one (eqb a b) ≡ 1
  unfolding one
  one_eq e = ap one (eq-eqb a b e)

  pub one_ne : (a ≡ b → ⊥) → one (eqb a b) ≡ 0
  unfolding one
  one_ne d = ap one (ne_eqb a b d)

  pub one_lt : a < b → one (ltb a b) ≡ 1
  unfolding one
  one_lt l = ap one (lt-ltb a b l)

  pub one_ge : b ≤ a → one (ltb a b) ≡ 0
  unfolding one
  one_ge l = ap one (le-ltb a b l)

pub eqb_swap : (a b : ℕ) → eqb a b ≡ eqb b a
eqb_swap a b =
    elim (ℕ_discrete a b) [
      | yes e ↦ eq-eqb a b e ∙ sym (eq-eqb b a (sym e))
      | no d ↦ ne_eqb a b d ∙ sym (ne_eqb b a (λ e. d (sym e)))
    ]

pub one_sym : (a b : ℕ) → one (eqb a b) ≡ one (eqb b a)
one_sym a b = ap one (eqb_swap a b)

pub one_le : (b : Bool) → one b ≤ 1
unfolding one
one_le true = omega arith
one_le false = omega arith

pub one_true : (b : Bool) → one b ≡ 1 → b ≡ true
unfolding one
one_true true e = refl
one_true false e = absurd (omega arith)

-- a conjunction is a product
pub one_and : (a b : Bool) → one (a && b) ≡ one a * one b
unfolding one
one_and true b = omega arith
one_and false b = omega arith

pub one_not_or : (a b : Bool) → one (not (a || b)) ≡ one (not a) * one (not b)
unfolding one
one_not_or true b = omega arith
one_not_or false b = omega arith

-- a test passes or not
pub T_true : (b : Bool) → T b → b ≡ true
T_true true t = refl
T_true false t = absurd t

pub not_T_false : (b : Bool) → (T b → ⊥) → b ≡ false
not_T_false true f = absurd (f tt)
not_T_false false f = refl

pub bool_ext : (a b : Bool) → (T a → T b) → (T b → T a) → a ≡ b
bool_ext true b f g = sym (T_true b (f tt))
bool_ext false b f g = sym (not_T_false b g)

-- both of two tests pass
pub and_intro : (a b : Bool) → T a → T b → T (a && b)
and_intro true b s t = t
and_intro false b s t = s

pub and_left : (a b : Bool) → T (a && b) → T a
and_left true b t = tt
and_left false b t = t

pub and_right : (a b : Bool) → T (a && b) → T b
and_right true b t = t
and_right false b t = absurd t

pub both_left : (a b : Bool) → (a && b) ≡ true → a ≡ true
both_left a b e = ((and-eq-true_iff a b).0 e).0

pub both_right : (a b : Bool) → (a && b) ≡ true → b ≡ true
both_right a b e = ((and-eq-true_iff a b).0 e).1

-- two tests agree
pub beq_self : (a : Bool) → T (beq a a)
beq_self true = tt
beq_self false = tt

pub beq_eq : (a b : Bool) → T (beq a b) → a ≡ b
beq_eq true true t = refl
beq_eq true false t = absurd t
beq_eq false true t = absurd t
beq_eq false false t = refl

pub beq_comm : (a b : Bool) → beq a b ≡ beq b a
beq_comm true true = refl
beq_comm true false = refl
beq_comm false true = refl
beq_comm false false = refl

-- a test that a call found to hold, and one that it found not to, where code asks for the opposite
pub test_held : {r p : Bool} → r ≡ p → not r ≡ false → p ≡ true
test_held {r} {p} e f = sym e ∙ not-false r f

pub test_failed : {r p : Bool} → r ≡ p → not r ≡ true → p ≡ false
test_failed {r} {p} e t = sym e ∙ not-true r t
