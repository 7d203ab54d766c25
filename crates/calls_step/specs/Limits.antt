-- Limits above 1000 are refused alike.
use Rattle.std.specs.Prelude.{ℕ, ◌<◌, ◌≡◌, refl, Bool, true, false, cond, leb}
use Rattle.std.proofs.Common.{arith, sym, ◌∙◌}
use Rattle.std.proofs.Math.Bool.{and-false}
use Rattle.std.proofs.lemmas.Bool.{lt-leb}
use Rattle.model.specs.declared.Layout.{Layout}
use Rattle.model.specs.Layouts.{valid}
use Rattle.model.specs.Checks.{refusal, by_refusal, checked, is_valid, limit_fits}
use Rattle.model.specs.Sifting.{rounds_up_to, settle_checks, settle_refused, settle_of}

-- with 17, or with 11 where the layout is not valid
above_refused : (l : Layout) (limit : ℕ) → 1000 < limit → settle_of l limit ≡ settle_refused l (cond (valid l) 17 11)
unfolding settle_of settle_checks checked by_refusal refusal is_valid limit_fits
above_refused l limit h = rw (lt-leb limit 1000 h, and-false (leb 1 limit)) (by_test (valid l))
  where
    by_test : (b : Bool) → by_refusal (cond b 17 11) (rounds_up_to limit l) (settle_refused l) ≡ settle_refused l (cond b 17 11)
    by_test true = refl
    by_test false = refl

pub limits_above : (l : Layout) {limit : ℕ} → 1000 < limit → settle_of l 1001 ≡ settle_of l limit
limits_above l {limit} h = above_refused l 1001 (omega arith) ∙ sym (above_refused l limit h)
