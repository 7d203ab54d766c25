-- How long an accepted chart can be: the record `Short`, of every chart that is read.
use Rattle.std.specs.Prelude.{ℕ, ◌+◌, ◌*◌, ◌%◌, ◌≤◌, ◌≡◌, refl, Bool, true, false, ◌||◌, length, eqb, leb}
use Rattle.std.proofs.Common.{le_of_eq, sym, ◌∙◌, eqb-true, leb-true, le-leb}
use native.Mathlib.Omega.{arith}
use Rattle.std.proofs.Math.Path.{ap}
use mathlib.Core.List.{List, []}
use Rattle.model.specs.Layouts.{each_once}
use Rattle.model.specs.Charts.{fields_of, tags_of, body_of, chart_size, edges_in, chart_order, has_weights, chart_weights, same_list}
use Rattle.model.specs.Charts.{chart_tags, weighted_tags, size_checks, end_checks, repeat_checks, place_checks, weight_checks, chart_checks, read_of}
use Rattle.laws.specs.Sums.Indicators.{both_left, both_right}
use Rattle.laws.specs.Sums.Ranges.{sum}
use Rattle.laws.specs.Sums.Lists.{All, none, also, sum_over_places}
use Rattle.laws.specs.Crossings.Bound.{most_edges}
use Rattle.laws.specs.Layouts.Refusals.{all_pass}
use Rattle.laws.specs.Charts.Fields.{field_length, fields_length}
use Rattle.laws.specs.Charts.Wrapped.{edges_number}
use Rattle.laws.specs.Charts.Reading.{read_number, chart_numbered}
use Rattle.laws.specs.Charts.Lengths.{listed_few, fields_number, Short}

module _ (s : List ℕ) (whole : (fields_of s).complete ≡ true) where
  abbrev long : ℕ → ℕ
  long i = length (body_of s i)

  -- so many fields
  of_fields : {k : ℕ} → length (fields_of s).fields ≡ k → length s ≡ sum k (λ i. 3 + long i)
  unfolding body_of
  of_fields e =
      fields_length s whole
      ∙ sum_over_places field_length (record { tag = 0; body = [] }) (fields_of s).fields
      ∙ ap (λ (k : ℕ). sum k (λ i. 3 + long i)) e

  three : same_list (tags_of s) chart_tags ≡ true → length s ≡ 9 + long 0 + long 1 + long 2
  unfolding sum
  three t = of_fields (fields_number s chart_tags t) ∙ omega arith

  four : same_list (tags_of s) weighted_tags ≡ true → length s ≡ 12 + long 0 + long 1 + long 2 + long 3
  unfolding sum
  four t = of_fields (fields_number s weighted_tags t) ∙ omega arith

-- ---- the chart

-- what the questions say of the bodies
record Bodies (s : List ℕ) : Type 0 where
  size : length (body_of s 0) ≡ 1
  links : length (body_of s 1) ≤ 2 * most_edges
  order : length (body_of s 2) ≤ 64
  weights : has_weights s ≡ true → length (body_of s 3) ≤ most_edges

module _ (s : List ℕ) (whole : (fields_of s).complete ≡ true) (b : Bodies s) where
  short_plain : same_list (tags_of s) chart_tags ≡ true → length s ≤ 4106
  short_plain t = omega (arith, three s whole t, b.size, b.links, b.order)

  short_weighted : same_list (tags_of s) weighted_tags ≡ true → length s ≤ 6125
  unfolding has_weights
  short_weighted t =
      let last = b.weights (le-leb 4 (length (fields_of s).fields) (le_of_eq (sym (fields_number s weighted_tags t)))) in
      omega (arith, four s whole t, b.size, b.links, b.order, last)

  short : (same_list (tags_of s) chart_tags || same_list (tags_of s) weighted_tags) ≡ true → Short s
  short tags = record { most = by_tags (same_list (tags_of s) chart_tags) refl tags; plain = short_plain }
    where
      by_tags : (c : Bool) → same_list (tags_of s) chart_tags ≡ c → (c || same_list (tags_of s) weighted_tags) ≡ true → length s ≤ 6125
      by_tags true e t = omega (arith, short_plain e)
      by_tags false e t = short_weighted t

pub accepted_length : (s : List ℕ) → (read_of s).refusal ≡ 0 → Short s
unfolding chart_checks size_checks end_checks repeat_checks place_checks weight_checks chart_order chart_size chart_weights
accepted_length s e = from (all_pass (chart_numbered s) (sym (read_number s) ∙ e))
  where
    from : All (λ c. c.passes ≡ true) (chart_checks s) → Short s
    from (also _ (also whole (also tags (also size (also even (also ends (also once (also places (also many (also _ none)))))))))) =
        let one_byte = eqb (length (body_of s 0)) 1 in
        let small = leb-true (chart_size s) 64 (both_right one_byte (leb (chart_size s) 64) size) in
        let edges = listed_few (edges_in (body_of s 1)) small ends once in
        let halves = edges_number (body_of s 1) in
        let all_places = eqb (length (body_of s 2)) (chart_size s) in
        let long = eqb-true (length (body_of s 2)) (chart_size s) (both_left all_places (each_once (chart_size s) (body_of s 2)) places) in
        short s whole
        (record {
          size = eqb-true (length (body_of s 0)) 1 (both_left one_byte (leb (chart_size s) 64) size);
          links = omega (arith, edges, halves, eqb-true (length (body_of s 1) % 2) 0 even);
          order = omega (arith, long, small);
          weights = λ h. omega (arith, edges, eqb-true (length (body_of s 3)) (length (edges_in (body_of s 1))) (rw h at many));
        })
        tags
