-- How many crossings a layout of n vertices can have (proofs/Crossings/Bound.antt: none has more, and complete graphs have as many). How many edges it can have.
use Rattle.std.specs.Prelude.{ℕ, suc, ◌+◌, ◌*◌, ◌-◌, ◌≤◌, ◌<◌, ◌≡◌, List, length, ltb}
use Rattle.std.proofs.Common.{le_trans, mul-le-mul_left, mul-one, add-sub_of_le, le-add_right, arith, sym, ◌∙◌}
use Rattle.model.specs.Lists.{one}
use Rattle.model.specs.Crossings.{linked, edges, unit_weight}
use Rattle.laws.specs.Sums.Indicators.{less, same, more, order, one_ge, one_le}
use Rattle.laws.specs.Sums.Ranges.{sum, sum_const, sum_cut, sum_mono}
use Rattle.laws.specs.Sums.Lists.{sum_over_places}
use Rattle.laws.specs.Sums.Pairs.{pair_sum, pair_sum_ext}
use Rattle.laws.specs.Crossings.Edges.{edge, sum_over_edges}

-- more terms make no less
pub sum_more : (n m : ℕ) (f : ℕ → ℕ) → n ≤ m → sum n f ≤ sum m f
sum_more n m f h =
    rw (← (add-sub_of_le h), sum_cut n (m - n) f) (le-add_right (sum n f) (sum (m - n) (λ i. f (n + i))))

-- a term that counts only where i is below j
pub guarded : (i j x y : ℕ) → (i < j → x ≤ y) → one (ltb i j) * x ≤ one (ltb i j) * y
guarded i j x y h =
    elim (order i j) [
      | less l ↦ mul-le-mul_left (one (ltb i j)) (h l)
      | same e ↦ rw (one_ge i j (omega arith)) (omega arith)
      | more l ↦ rw (one_ge i j (omega arith)) (omega arith)
    ]

pub pair_sum_mono : (n m : ℕ) (F G : ℕ → ℕ → ℕ) → n ≤ m → ((i j : ℕ) → i < j → j < n → F i j ≤ G i j) → pair_sum n F ≤ pair_sum m G
unfolding pair_sum
pair_sum_mono n m F G nm h =
    le_trans
    (sum_mono n (λ i. sum n (λ j. one (ltb i j) * F i j)) (λ i. sum m (λ j. one (ltb i j) * G i j))
    (λ i a.
    le_trans (sum_mono n (λ j. one (ltb i j) * F i j) (λ j. one (ltb i j) * G i j) (λ j b. guarded i j (F i j) (G i j) (λ l. h i j l b)))
    (sum_more n m (λ j. one (ltb i j) * G i j) nm)))
    (sum_more n m (λ i. sum m (λ j. one (ltb i j) * G i j)) nm)

-- places i < j < k < l below n, counted
unfoldable pub quadruples : ℕ → ℕ
quadruples n = pair_sum n (λ j k. j * (n - suc k))

-- "Most possible: 635,376, for 64 devices with all links."
abbrev pub most_crossings : ℕ
most_crossings = 635376

-- and where each of these weighs 255
abbrev pub most_weighted : ℕ
most_weighted = 41315324400

pub quadruples_mono : (n m : ℕ) → n ≤ m → quadruples n ≤ quadruples m
unfolding quadruples
quadruples_mono n m h =
    pair_sum_mono n m (λ j k. j * (n - suc k)) (λ j k. j * (m - suc k)) h (λ j k l b. mul-le-mul_left j (omega arith))

-- ---- the most edges

edges_number : (n : ℕ) (adj : List ℕ) → length (edges n adj) ≡ pair_sum n (unit_weight adj)
edges_number n adj =
    sym (sum_over_places (λ e. 1) (edge 0 0) (edges n adj) ∙ sum_const (length (edges n adj)) 1 ∙ mul-one (length (edges n adj)))
    ∙ sum_over_edges n adj (λ e. 1)
    ∙ pair_sum_ext n (λ a b. unit_weight adj a b * 1) (unit_weight adj) (λ a b l m. mul-one (unit_weight adj a b))

-- each two of 64 vertices
abbrev pub most_edges : ℕ
most_edges = 2016

pub edges_few : (n : ℕ) (adj : List ℕ) → n ≤ 64 → length (edges n adj) ≤ most_edges
unfolding pair_sum sum one
edges_few n adj h = rw (edges_number n adj) (pair_sum_mono n 64 (unit_weight adj) (λ a b. 1) h (λ a b l m. one_le (linked adj a b)))
