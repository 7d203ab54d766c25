-- Placed vertices as bytes: for the ends of any list of them.
use Rattle.std.specs.Prelude.{ℕ, ◌%◌, ◌<◌, ◌≡◌, List, ◌∷◌, map, length, get_or, refl}
use Rattle.std.proofs.Common.{mod-eq_of_lt, sym, ap₂}
use Rattle.std.proofs.Math.ListN.{length-map, get_or-map}
use Rattle.model.specs.Lists.{All, none, also}

-- bytes as vertices
unfoldable pub as_vertices : List ℕ → List ℕ
as_vertices xs = map (λ p. p % 64) xs

pub as_length : (xs : List ℕ) → length (as_vertices xs) ≡ length xs
unfolding as_vertices
as_length xs = length-map xs (λ p. p % 64)

pub as_vertex : (xs : List ℕ) (i : ℕ) → get_or xs i 0 % 64 ≡ get_or (as_vertices xs) i 0
unfolding as_vertices
as_vertex xs i = sym (get_or-map (λ p. p % 64) xs i 0)

-- what is below 64 stays
pub as_itself : {xs : List ℕ} → All (λ x. x < 64) xs → as_vertices xs ≡ xs
unfolding as_vertices
as_itself none = refl
as_itself (also l ls) = ap₂ (λ (x : ℕ) (xs : List ℕ). x ∷ xs) (mod-eq_of_lt l) (as_itself ls)
