-- None of the bounds of specs/Limits.antt can be lowered by one, and the carried count is none.
use Rattle.std.specs.Prelude.{ℕ, ◌+◌, ◌≤◌, refl}
use Rattle.std.proofs.Common.{arith, sym, ◌∙◌, true≢false}
use Rattle.std.proofs.Math.Bool.{xor}
use mathlib.Core.List.{flat_map}
use Rattle.model.specs.declared.Layout.{Layout}
use Rattle.model.specs.Answers.{Converged}
use Rattle.model.specs.Lists.{one, upto, every, any, keep, first_with, sum_pairs, sum_over, no_repeats, occurrences, place}
use Rattle.model.specs.Crossings.{bit, linked, between, alternate, crosses, adjacent, weighted_edges, crossing_weight, crossings}
use Rattle.model.specs.Layouts.{row_of, is_weight, even_weights, weighs_edges, blank_from, weights_fit, table_weight, carried}
use Rattle.model.specs.Layouts.{vertex_order, weight, crossings_of, each_once, zero_from, symmetric, loopless, bits_below, valid, changed, reordered}
use Rattle.model.specs.Checks.{refusal, by_refusal, checked, is_valid, limit_fits}
use Rattle.model.specs.Edits.{both_ways, insert_after, moved_after}
use Rattle.model.specs.Search.{least, count_with, reached, moved_in, last_still, sift_best, sift_moves, best_candidates, sifts_through, saved_in, round_by}
use Rattle.model.specs.Search.{sifts_of_all, round_at, rounds_within}
use Rattle.model.specs.Sifting.{clockwise_from, candidate_layouts, optima_in, settled, rounds_up_to, settle_checks, settle_of}
use Rattle.model.specs.Charts.{same_edge, joins, word_in, with_weights, table_in}
use Rattle.model.specs.Starred.{first, ◌to◌, weighted_layout_of, layout_of}
use Rattle.history.specs.Excluded.{first_ring}
use Rattle.history.specs.Limits.{Enough, AtMost, first_miscounted, OneCrossing}

pub first_limits : OneCrossing first_ring × OneCrossing first_miscounted
unfolding first_miscounted first_ring row_of is_weight even_weights weighs_edges blank_from weights_fit table_weight carried with_weights table_in both_ways
    weighted_layout_of layout_of first ◌to◌ one upto every any keep first_with sum_pairs sum_over no_repeats occurrences place bit linked between alternate crosses
    adjacent weighted_edges crossing_weight crossings vertex_order weight crossings_of each_once zero_from symmetric loopless bits_below valid changed reordered
    refusal by_refusal checked is_valid limit_fits insert_after moved_after same_edge joins word_in flat_map xor least count_with reached moved_in last_still sift_best
    sift_moves best_candidates sifts_through saved_in round_by sifts_of_all round_at rounds_within clockwise_from candidate_layouts optima_in settled rounds_up_to
    settle_checks settle_of
first_limits = (
  record {
    crossing = refl;
    limit_one = record { accepts = refl; saves = refl; runs = refl; says = refl };
    limit_two = record { accepts = refl; saves = refl; runs = refl; says = refl };
  },
  record {
    crossing = refl;
    limit_one = record { accepts = refl; saves = refl; runs = refl; says = refl };
    limit_two = record { accepts = refl; saves = refl; runs = refl; says = refl };
  },
)

module _ {l : Layout} (f : OneCrossing l) where
  -- no limit of at most 1 is enough here
  spent_at_one : (least : Layout → ℕ) → least l ≤ 1 → Enough least → ⊥
  spent_at_one least h claim = true≢false (sym (claim l 1 f.limit_one.accepts h) ∙ f.limit_one.says)

  -- and more than one round is run with limit 2
  two_at_two : (most : Layout → Converged → ℕ) → most l (settle_of l 2) ≤ 1 → AtMost most → ⊥
  two_at_two most h claim = omega (arith, claim l 2 f.limit_two.accepts, f.limit_two.runs)

pub crossings_not_enough : Enough crossings_of → ⊥
crossings_not_enough = let f = first_limits.0 in spent_at_one f crossings_of (omega (arith, f.crossing))

pub count_not_enough : Enough (λ l. l.count + 1) → ⊥
unfolding first_miscounted
count_not_enough = spent_at_one first_limits.1 (λ l. l.count + 1) (omega arith)

pub crossings_too_few : AtMost (λ l a. crossings_of l) → ⊥
crossings_too_few = let f = first_limits.0 in two_at_two f (λ l a. crossings_of l) (omega (arith, f.crossing))

pub saving_too_few : AtMost (λ l a. a.reduction) → ⊥
saving_too_few = let f = first_limits.0 in two_at_two f (λ l a. a.reduction) (omega (arith, f.limit_two.saves))

pub count_too_few : AtMost (λ l a. l.count + 1) → ⊥
unfolding first_miscounted
count_too_few = two_at_two first_limits.1 (λ l a. l.count + 1) (omega arith)
