-- Two weights of which none is above 1: the larger of them tells it.
use Rattle.std.specs.Prelude.{ℕ, ◌≤◌, ◌≡◌, ◌&&◌, T, leb, max}
use Rattle.std.proofs.Common.{le_trans, sym, subst, le-leb, leb-true, arith, ap, ◌∙◌}
use Rattle.std.proofs.Math.Decide.{dec_lt}
use Rattle.std.proofs.Math.Nat.{max-eq_left, max-eq_right}
use Rattle.laws.specs.Sums.Indicators.{T_true, bool_ext, and_intro, and_left, and_right}

module _ (a b : ℕ) where
  -- b is the larger
  pub second_tells : a ≤ b → leb b 1 ≡ (leb a 1 && leb b 1)
  second_tells h =
      bool_ext (leb b 1) (leb a 1 && leb b 1)
      (λ t. and_intro (leb a 1) (leb b 1) (subst T (sym (le-leb a 1 (le_trans h (leb-true b 1 (T_true (leb b 1) t))))) tt) t)
      (λ t. and_right (leb a 1) (leb b 1) t)

  pub first_tells : b ≤ a → leb a 1 ≡ (leb a 1 && leb b 1)
  first_tells h =
      bool_ext (leb a 1) (leb a 1 && leb b 1)
      (λ t. and_intro (leb a 1) (leb b 1) t (subst T (sym (le-leb b 1 (le_trans h (leb-true a 1 (T_true (leb a 1) t))))) tt))
      (λ t. and_left (leb a 1) (leb b 1) t)

  pub larger_tells : {r : ℕ} → r ≡ max a b → leb r 1 ≡ (leb a 1 && leb b 1)
  larger_tells {r} e =
      elim (dec_lt a b) [
        | yes l ↦ ap (λ (x : ℕ). leb x 1) (e ∙ max-eq_right (omega arith)) ∙ second_tells (omega arith)
        | no l ↦ ap (λ (x : ℕ). leb x 1) (e ∙ max-eq_left (omega arith)) ∙ first_tells (omega arith)
      ]
