-- One exchange more of the walk.
use Prim.Native.Nat.{ℕ, suc, ◌+◌, ◌<◌}
use Rattle.std.proofs.Common.{◌∙◌, drop-cons, take-suc}
use Rattle.std.specs.Prelude.{◌≡◌}
use Rattle.std.proofs.Math.Path.{sym, ap}
use mathlib.Core.List.{List, [], ◌∷◌, ◌++◌, append_assoc}
use Rattle.std.proofs.Math.ListN.{length, take, drop}
use Rattle.laws.specs.Sums.Lists.{All, also, all_append, all_at, all_take, all_drop}
use Rattle.laws.specs.Sums.Pairs.{Symmetric}
use Rattle.laws.specs.Orders.Permutations.{at}
use Rattle.laws.specs.Crossings.Lists.{closed_crossings}
use Rattle.laws.specs.Crossings.Exchange.{lost, gained, exchanged, turned_once}
use Rattle.laws.specs.Sifting.Walk.{walked}

module _ {n : ℕ} {W : ℕ → ℕ → ℕ} (s : Symmetric n W) where
  -- one more exchange: u with the next of the others, v
  module _ {u : ℕ} {others : List ℕ} (h : u < n) (below : All (λ x. x < n) others) (k : ℕ) (l : k < length others) where
    abbrev v : ℕ
    v = at others k

    abbrev rest : List ℕ
    rest = drop (suc k) others ++ take k others

    before_exchange : walked W u others k ≡ closed_crossings W (u ∷ v ∷ rest)
    unfolding walked
    before_exchange = ap (λ (xs : List ℕ). closed_crossings W (u ∷ (xs ++ take k others))) (drop-cons others k 0 l)

    after_exchange : walked W u others (suc k) ≡ closed_crossings W (v ∷ u ∷ rest)
    unfolding walked
    after_exchange =
        ap (λ (xs : List ℕ). closed_crossings W (u ∷ xs))
        (ap (λ (xs : List ℕ). drop (suc k) others ++ xs) (take-suc others k 0 l) ∙ sym (append_assoc (drop (suc k) others) (take k others) (v ∷ [])))
        ∙ turned_once s (all_at 0 below k l) (also h (all_append (all_drop (suc k) below) (all_take k below)))

    pub walked_next : walked W u others (suc k) + lost W u v rest ≡ walked W u others k + gained W u v rest
    walked_next = rw (before_exchange, after_exchange) (exchanged W u v rest)
