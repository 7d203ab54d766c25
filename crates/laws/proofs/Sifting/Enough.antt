-- What an accepted settling answers, by the crossings at its start.
use Prim.Native.Nat.{ℕ}
use Rattle.std.proofs.Common.{arith}
use Rattle.std.specs.Prelude.{◌≡◌}
use Rattle.model.specs.declared.Layout.{Layout}
use Rattle.model.specs.Sifting.{ring, rounds_up_to, settled, settle_of}
use Rattle.laws.specs.Sifting.Rounds.{Valid, lawful, settled_exact}
use Rattle.laws.specs.Sifting.Enough.{rounds_cost, unsettled_cost, limit_enough, rounds_few, LimitFacts, whole, answered}

module _ (l : Layout) (limit : ℕ) (e : (settle_of l limit).refusal ≡ 0) where
  pub settle_enough : LimitFacts l limit (settle_of l limit)
  unfolding rounds_up_to settled
  settle_enough =
      rw (answered l limit e)
      (record {
        enough = λ h. limit_enough ring Valid lawful limit l (whole l limit e) (omega arith);
        few = omega (arith, rounds_few ring Valid lawful limit l (whole l limit e));
        saved = omega (arith, rounds_cost ring Valid lawful limit l (whole l limit e), settled_exact limit l (whole l limit e));
        not_enough = λ f. omega (arith, unsettled_cost ring Valid lawful limit l (whole l limit e) f, settled_exact limit l (whole l limit e));
      })
