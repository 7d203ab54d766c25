-- Lemma 1 of document 004 as it is printed: its sums go over the whole neighbour sets of u and v, each of which may hold the other. Then it is false;
-- document 01 names the layout that shows it. Without the two in each other's sets it holds (Exchange).
use Rattle.std.specs.Prelude.{ℕ, ◌+◌, ◌≡◌, refl, Bool, ltb}
use Rattle.std.proofs.Common.{arith}
use Rattle.std.proofs.Math.Bool.{xor}
use mathlib.Core.List.{List, [], ◌∷◌, flat_map}
use Rattle.model.specs.Lists.{one, upto, any, keep, sum_over, sum_pairs, no_repeats, place}
use Rattle.model.specs.Crossings.{bit, linked, edges, between, alternate, crosses, crossing_pairs}
use Rattle.model.specs.Sifting.{clockwise_from}

-- N(v)
unfoldable pub neighbours : ℕ → List ℕ → ℕ → List ℕ
neighbours n adj v = keep (linked adj v) (upto n)

-- a ≺ b: clockwise from s, a comes before b
unfoldable pub comes_before : List ℕ → ℕ → ℕ → ℕ → Bool
comes_before o s a b = ltb (place (s ∷ clockwise_from s o) a) (place (s ∷ clockwise_from s o) b)

-- Σ over x ∈ N(u) of |{y ∈ N(v) : y ≺ u, from x}|, in the layout before the exchange
unfoldable pub lost_as_printed : ℕ → List ℕ → List ℕ → ℕ → ℕ → ℕ
lost_as_printed n o adj u v = sum_over (λ x. sum_over (λ y. one (comes_before o x y u)) (neighbours n adj v)) (neighbours n adj u)

-- Σ over y ∈ N(v) of |{x ∈ N(u) : x ≺ v, from y}|, in the layout after it
unfoldable pub gained_as_printed : ℕ → List ℕ → List ℕ → ℕ → ℕ → ℕ
gained_as_printed n o adj u v = sum_over (λ y. sum_over (λ x. one (comes_before o y x v)) (neighbours n adj u)) (neighbours n adj v)

-- "With order 0 1 2 and links 0-1, 0-2, swapping 0 and 1 would then show +1, though nothing can cross."
abbrev pub words : List ℕ
words = 6 ∷ 1 ∷ 1 ∷ []

pub printed_shows_one : (lost_as_printed 3 (0 ∷ 1 ∷ 2 ∷ []) words 0 1 ≡ 0) × (gained_as_printed 3 (1 ∷ 0 ∷ 2 ∷ []) words 0 1 ≡ 1)
unfolding lost_as_printed gained_as_printed neighbours comes_before clockwise_from sum_over keep upto linked bit place one
printed_shows_one = (refl, refl)

pub nothing_crosses : (crossing_pairs 3 (0 ∷ 1 ∷ 2 ∷ []) words ≡ 0) × (crossing_pairs 3 (1 ∷ 0 ∷ 2 ∷ []) words ≡ 0)
unfolding crossing_pairs edges crosses alternate between no_repeats any sum_pairs sum_over flat_map xor keep upto linked bit place one
nothing_crosses = (refl, refl)

-- so that the lemma as printed does not hold
pub printed_false : crossing_pairs 3 (1 ∷ 0 ∷ 2 ∷ []) words + lost_as_printed 3 (0 ∷ 1 ∷ 2 ∷ []) words 0 1
    ≡ crossing_pairs 3 (0 ∷ 1 ∷ 2 ∷ []) words + gained_as_printed 3 (1 ∷ 0 ∷ 2 ∷ []) words 0 1 → ⊥
printed_false e = omega (arith, printed_shows_one.0, printed_shows_one.1, nothing_crosses.0, nothing_crosses.1)
