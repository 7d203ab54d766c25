-- What a test of every entry says, which an iterator asks one after the other.
use Rattle.std.specs.Prelude.{ℕ, ◌+◌, ◌-◌, ◌≤◌, ◌<◌, ◌≡◌, ◌↔◌, Bool, true, List, length, get_or, T}
use Rattle.std.proofs.Common.{arith, sym, ap, subst, ◌∙◌}
use Rattle.model.specs.Lists.{upto, every}
use Rattle.model.specs.Layouts.{zero_from}
use Rattle.laws.specs.Sums.Indicators.{T_true, bool_ext}
use Rattle.laws.specs.Sums.Every.{every_upto, upto_every}
use Rattle.laws.specs.Layouts.Validity.{zero_from_lem, zero_from_at}

-- of every number below n
pub told_each : {r : Bool} (p : ℕ → Bool) (n : ℕ) → (r ≡ true ↔ ((i : ℕ) → i < n → p i ≡ true)) → r ≡ every p (upto n)
told_each {r} p n h =
    bool_ext r (every p (upto n))
    (λ t. upto_every p n (λ i l. subst T (sym (h.0 (T_true r t) i l)) tt))
    (λ t. subst T (sym (h.1 (λ i l. T_true (p i) (every_upto p n t i l)))) tt)

-- of 64 entries from n on, which are to be 0
pub told_zeros : {r : Bool} (n : ℕ) (xs : List ℕ) → length xs ≡ 64
    → (r ≡ true ↔ ((k : ℕ) → n + k < length xs → get_or xs (n + k) 0 ≡ 0)) → r ≡ zero_from n xs
told_zeros {r} n xs size h =
    bool_ext r (zero_from n xs)
    (λ t. zero_from_lem n xs (λ i b l. here i b (h.0 (T_true r t) (i - n) (omega arith))))
    (λ t. subst T (sym (h.1 (λ k l. zero_from_at n xs t (n + k) (omega arith) (omega arith)))) tt)
  where
    here : (i : ℕ) → n ≤ i → get_or xs (n + (i - n)) 0 ≡ 0 → get_or xs i 0 ≡ 0
    here i b e = let back : i ≡ n + (i - n) = omega arith in ap (λ (k : ℕ). get_or xs k 0) back ∙ e
