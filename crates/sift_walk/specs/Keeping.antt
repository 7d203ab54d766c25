-- What the walk keeps of the candidates so far: their least number, the first that has it, and how many have it (document 02, Note 5).
use Rattle.std.specs.Prelude.{ℕ, suc, ◌+◌, ◌≤◌, ◌<◌, ◌≡◌, Bool, cond, eqb, ltb}
use native.Mathlib.Omega.{arith}
use Rattle.std.proofs.Common.{ap, lt-ltb, le-ltb}
use Rattle.std.proofs.Math.Bool.{true, false}
use Rattle.model.specs.Lists.{one}
use Rattle.laws.specs.Sums.Indicators.{less, same, more, order, one_eq, one_ne, one_le}
use Rattle.laws.specs.Sifting.Keeping.{BestOf, best_taken, best_left}
use Rattle.sift_walk.specs.declared.Kept.{Kept}

-- more than any number: nothing is kept yet
abbrev pub nothing : ℕ
nothing = 18446744073709551615

-- of the first k candidates, where candidate i has the number f i
abbrev pub KeptOf : (ℕ → ℕ) → ℕ → Kept → Type 0
KeptOf f k kept = BestOf nothing f k kept.least kept.first kept.optima

-- one candidate more: a smaller number takes the place of what is kept, an equal one stands beside it
abbrev pub taking : ℕ → ℕ → Kept
taking c j = record { least = c; first = j; optima = 1 }

abbrev pub keeping : Kept → ℕ → Kept
keeping kept k = record { least = kept.least; first = kept.first; optima = k }

unfoldable pub kept_next : Kept → ℕ → ℕ → Kept
kept_next kept c j = cond (ltb c kept.least) (taking c j) (keeping kept (kept.optima + one (eqb c kept.least)))

module _ (kept : Kept) (c j : ℕ) where
  pub next_taken : c < kept.least → taking c j ≡ kept_next kept c j
  unfolding kept_next
  next_taken h = rw (lt-ltb c kept.least h)

  pub next_left : kept.least < c → kept ≡ kept_next kept c j
  unfolding kept_next
  next_left h = rw (le-ltb c kept.least (omega arith), one_ne c kept.least (λ e. omega arith)) (ap (keeping kept) (omega arith))

  pub next_beside : c ≡ kept.least → keeping kept (kept.optima + 1) ≡ kept_next kept c j
  unfolding kept_next
  next_beside e = rw (le-ltb c kept.least (omega arith), one_eq c kept.least e)

  pub next_few : kept.optima ≤ j → (kept_next kept c j).optima ≤ j + 1
  unfolding kept_next
  next_few h = by_tests (ltb c kept.least) (eqb c kept.least)
    where
      by_tests : (b t : Bool) → (cond b (taking c j) (keeping kept (kept.optima + one t))).optima ≤ j + 1
      by_tests true t = omega arith
      by_tests false t = omega (arith, one_le t)

  pub next_first : kept.first ≤ j → (kept_next kept c j).first ≤ j + 1
  unfolding kept_next
  next_first h = by_test (ltb c kept.least) (kept.optima + one (eqb c kept.least))
    where
      by_test : (b : Bool) (k : ℕ) → (cond b (taking c j) (keeping kept k)).first ≤ j + 1
      by_test true k = omega arith
      by_test false k = omega arith

pub kept_next_lem : {f : ℕ → ℕ} {k c : ℕ} {kept : Kept} → KeptOf f k kept → c ≡ f k → c < nothing → KeptOf f (suc k) (kept_next kept c k)
unfolding kept_next
kept_next_lem {c = c} {kept} s e h =
    elim (order c kept.least) [
      | less l ↦ rw (lt-ltb c kept.least l) (best_taken s e l)
      | same d ↦ rw (le-ltb c kept.least (omega arith)) (best_left s e h (omega arith))
      | more l ↦ rw (le-ltb c kept.least (omega arith)) (best_left s e h (omega arith))
    ]
