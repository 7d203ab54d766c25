-- Edges as bytes, two for each.
use Rattle.std.specs.Prelude.{ℕ, zero, suc, ◌+◌, ◌*◌, ◌<◌, ◌≡◌, refl, length, get_or}
use Rattle.std.proofs.Common.{not-suc-le-zero, le_of_suc-le-suc, arith, ap₂, ◌∙◌}
use mathlib.Core.List.{List, [], ◌∷◌, ◌++◌, flat_map}
use Rattle.model.specs.declared.Edge.{Edge}
use Rattle.model.specs.WrittenCharts.{edge_bytes}
use Rattle.laws.specs.Sums.Lists.{flat_map_append}

pub edge_bytes_append : (es fs : List Edge) → edge_bytes (es ++ fs) ≡ edge_bytes es ++ edge_bytes fs
unfolding edge_bytes
edge_bytes_append es fs = flat_map_append (λ e. e.low ∷ e.high ∷ []) es fs

pub edge_bytes_length : (es : List Edge) → length (edge_bytes es) ≡ 2 * length es
unfolding edge_bytes flat_map
edge_bytes_length [] = refl
edge_bytes_length (e ∷ es) = omega (arith, edge_bytes_length es)

-- the edge at a place, from the two bytes there
unfoldable pub edge_at : List ℕ → ℕ → Edge
edge_at bytes i = record { low = get_or bytes (2 * i) 0; high = get_or bytes (2 * i + 1) 0 }

pub edge_bytes_at : (d : Edge) (es : List Edge) (rest : List ℕ) (i : ℕ) → i < length es → edge_at (edge_bytes es ++ rest) i ≡ get_or es i d
unfolding edge_bytes flat_map edge_at
edge_bytes_at d [] rest i h = absurd (not-suc-le-zero h)
edge_bytes_at d (e ∷ es) rest zero h = refl
edge_bytes_at d (e ∷ es) rest (suc i) h = ap₂ at low high ∙ edge_bytes_at d es rest i (le_of_suc-le-suc h)
  where
    at : ℕ → ℕ → Edge
    at j k = record { low = get_or (edge_bytes (e ∷ es) ++ rest) j 0; high = get_or (edge_bytes (e ∷ es) ++ rest) k 0 }

    low : 2 * suc i ≡ suc (suc (2 * i))
    low = omega arith

    high : 2 * suc i + 1 ≡ suc (suc (2 * i + 1))
    high = omega arith
