-- How long an accepted chart can be: the record `Short`, proved in proofs/Charts/Lengths.antt.
use Rattle.std.specs.Prelude.{ℕ, suc, ◌+◌, ◌*◌, ◌≤◌, ◌≡◌, refl, true, length, eqb}
use Rattle.std.proofs.Common.{sym, ap₂, ◌∙◌}
use native.Mathlib.Omega.{arith}
use Rattle.std.proofs.Math.Path.{ap}
use Rattle.std.proofs.lemmas.Bool.{false≢true}
use mathlib.Core.List.{List, [], ◌∷◌}
use Rattle.std.proofs.lemmas.List.{length-map}
use Rattle.model.specs.declared.Edge.{Edge}
use Rattle.model.specs.Lists.{one, every, no_repeats, sum_over}
use Rattle.model.specs.Charts.{fields_of, tags_of, same_list, same_edge}
use Rattle.model.specs.Charts.{edge_within, chart_tags}
use Rattle.laws.specs.Sums.Indicators.{both_right}
use Rattle.laws.specs.Sums.Ranges.{sum}
use Rattle.laws.specs.Sums.Lists.{All, none, also}
use Rattle.laws.specs.Sums.Every.{all_every}
use Rattle.laws.specs.Sums.Pairs.{pair_sum, pair_sum_ext, pair_sum_add, pair_sum_zero}
use Rattle.laws.specs.Crossings.Edges.{edge}
use Rattle.laws.specs.Crossings.Bound.{pair_sum_mono, most_edges}
use Rattle.laws.specs.Charts.Reading.{same_edge_swap}
use Rattle.laws.specs.Charts.Sequence.{written, written_few}
use Rattle.laws.specs.Charts.EdgeLists.{pair_sum_if_there}

-- ---- edges that are listed once each

-- each is one of the pairs
pairs_listed : (n : ℕ) {es : List Edge} → All (λ e. edge_within n e ≡ true) es → length es ≡ pair_sum n (λ a b. written (edge a b) es)
unfolding written sum_over one
pairs_listed n none = sym (pair_sum_zero n (λ a b. 0) (λ a b l m. refl))
pairs_listed n (also {x = e} {xs = es} p ps) =
    suc_one (length es)
    ∙ ap₂ (λ (x y : ℕ). x + y) (sym there) (pairs_listed n ps)
    ∙ sym (pair_sum_add n (λ a b. one (same_edge (edge a b) e)) (λ a b. written (edge a b) es))
  where
    suc_one : (k : ℕ) → suc k ≡ 1 + k
    suc_one k = omega arith

    there : pair_sum n (λ a b. one (same_edge (edge a b) e)) ≡ 1
    there =
        pair_sum_ext n (λ a b. one (same_edge (edge a b) e)) (λ a b. 1 * one (same_edge e (edge a b)))
        (λ a b l m. rw (same_edge_swap (edge a b) e) (omega arith))
        ∙ pair_sum_if_there n e (λ a b. 1)
        ∙ rw p refl

pub listed_few : {n : ℕ} (es : List Edge) → n ≤ 64 → every (edge_within n) es ≡ true → no_repeats same_edge es ≡ true → length es ≤ most_edges
unfolding pair_sum sum one
listed_few {n} es h within once =
    rw (pairs_listed n (all_every (edge_within n) es within))
    (pair_sum_mono n 64 (λ a b. written (edge a b) es) (λ a b. 1) h (λ a b l m. written_few es once (edge a b)))

-- ---- the fields

same_length : (xs ys : List ℕ) → same_list xs ys ≡ true → length xs ≡ length ys
unfolding same_list
same_length [] [] t = refl
same_length [] (y ∷ ys) t = absurd (false≢true t)
same_length (x ∷ xs) [] t = absurd (false≢true t)
same_length (x ∷ xs) (y ∷ ys) t = ap suc (same_length xs ys (both_right (eqb x y) (same_list xs ys) t))

-- as many as their tags
pub fields_number : (s tags : List ℕ) → same_list (tags_of s) tags ≡ true → length (fields_of s).fields ≡ length tags
fields_number s tags t = sym (length-map (fields_of s).fields (λ f. f.tag)) ∙ same_length (tags_of s) tags t

-- ---- the chart

-- the longest accepted chart: 6,125 bytes with field 57, 4,106 without it
pub record Short (s : List ℕ) : Type 0 where
  pub most : length s ≤ 6125
  pub plain : same_list (tags_of s) chart_tags ≡ true → length s ≤ 4106
