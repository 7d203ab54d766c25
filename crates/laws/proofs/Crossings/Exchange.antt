-- Two neighbours exchanged anywhere in a list.
use Rattle.std.specs.Prelude.{ℕ, ◌+◌, ◌<◌, ◌≡◌}
use mathlib.Core.List.{List, [], ◌∷◌, ◌++◌}
use Rattle.laws.specs.Sums.Lists.{All, also}
use Rattle.laws.specs.Sums.Pairs.{Symmetric}
use Rattle.laws.specs.Crossings.Lists.{closed_crossings}
use Rattle.laws.specs.Crossings.Exchange.{lost, gained, exchanged, turned_once, turned_lists}

-- ---- anywhere in a list: where it starts makes no difference

module _ {n : ℕ} {W : ℕ → ℕ → ℕ} (s : Symmetric n W) where
  module _ {u v : ℕ} (hu : u < n) (hv : v < n) where
    -- inside a list, the others being those behind the two and then those before them
    pub exchanged_inside : {xs ys : List ℕ} → All (λ x. x < n) xs → All (λ x. x < n) ys
        → closed_crossings W (xs ++ (v ∷ u ∷ ys)) + lost W u v (ys ++ xs) ≡ closed_crossings W (xs ++ (u ∷ v ∷ ys)) + gained W u v (ys ++ xs)
    exchanged_inside {xs} {ys} a b =
        rw (turned_lists s a (also hv (also hu b)), turned_lists s a (also hu (also hv b))) (exchanged W u v (ys ++ xs))

    -- and where the list starts between the two: the last entry u is exchanged with the first, v
    pub exchanged_round : {xs : List ℕ} → All (λ x. x < n) xs
        → closed_crossings W (u ∷ (xs ++ (v ∷ []))) + lost W u v xs ≡ closed_crossings W (v ∷ (xs ++ (u ∷ []))) + gained W u v xs
    exchanged_round {xs} a = rw (turned_once s hv (also hu a), turned_once s hu (also hv a)) (exchanged W u v xs)
