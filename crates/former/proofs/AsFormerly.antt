-- Lay and the former rule (document 02, Note 2): the record `AsFormerly`, of every layout and every start.
use Rattle.std.specs.Prelude.{ℕ, ◌<◌, ◌≡◌, refl, T}
use Rattle.std.proofs.Common.{arith, sym, ◌∙◌}
use Rattle.std.proofs.Math.Path.{ap}
use Rattle.model.specs.declared.Layout.{Layout}
use Rattle.model.specs.Layouts.{vertex_order, weight, crossings_of, valid, carried, changed, reordered}
use Rattle.model.specs.GreedyAppend.{Placing, former_place_all, lay_checks, lay_answer, lay_refused, lay_of, former_lay_of}
use Rattle.laws.specs.Layouts.Validity.{sound, valid_symmetric}
use Rattle.laws.specs.Layouts.Refusals.{vertex_passed, checked_both}
use Rattle.laws.specs.Layouts.Reordering.{reordered_order, reordered_crossings}
use Rattle.laws.specs.Layouts.Weights.{weight_within_words}
use Rattle.laws.specs.Append.Calls.{Laid, laid_permutation, laid_tally, laid_out}
use Rattle.laws.proofs.Append.Calls.{former_laid_all, lay_permutation, lay_crossings}
use Rattle.former.proofs.Runs.{rest_at_back, all_formerly}
use Rattle.former.specs.AsFormerly.{AsFormerly}

module _ (l : Layout) (s : ℕ) where
  -- all vertices placed by the former rule
  abbrev formerly_laid : Placing
  formerly_laid = former_place_all l.n l.adjacency (weight l) s

  module _ (t : T (valid l)) (h : s < l.n) where
    formerly : Laid l.n (weight l) l.n formerly_laid
    formerly = former_laid_all (weight l) (valid_symmetric l t) l.adjacency s h

    same_placing : laid_out l s ≡ rest_at_back l.n l.adjacency s formerly_laid
    same_placing = all_formerly l.n l.adjacency s (weight_within_words l t) (sound l t).words (valid_symmetric l t) h (laid_permutation formerly)

    same_tally : (laid_out l s).tally ≡ formerly_laid.tally
    same_tally = ap (λ (d : Placing). d.tally) same_placing

    same_crossings : crossings_of (reordered l (laid_out l s).placed) ≡ crossings_of (reordered l formerly_laid.placed)
    same_crossings =
        sym (lay_crossings l s t h) ∙ same_tally ∙ laid_tally formerly (valid_symmetric l t)
        ∙ sym (reordered_crossings l formerly_laid.placed (laid_permutation formerly).size)

    accepted : AsFormerly l s (lay_answer l (laid_out l s)) (lay_answer l formerly_laid)
    unfolding reordered changed crossings_of vertex_order weight
    accepted =
        record {
          refusal = refl;
          tally = same_tally;
          crossings = same_crossings;
          count = ap (carried l.count (crossings_of l)) same_crossings;
          order = λ e.
              rw (
                reordered_order l (laid_out l s).placed (lay_permutation l s t h).size,
                reordered_order l formerly_laid.placed (laid_permutation formerly).size,
              )
              (ap (λ (d : Placing). d.placed) same_placing);
        }

-- for every layout and every start, of refused calls too
pub lay_as_formerly : (l : Layout) (s : ℕ) → AsFormerly l s (lay_of l s) (former_lay_of l s)
unfolding lay_of former_lay_of lay_checks
lay_as_formerly l s =
    checked_both (lay_checks l s) (lay_answer l (laid_out l s)) (lay_refused l) (AsFormerly l s) (lay_answer l (formerly_laid l s))
    (λ e. (let p = vertex_passed l s e in accepted l s p.0 p.1))
    (λ r. record { refusal = refl; tally = refl; crossings = refl; count = refl; order = λ e. absurd (omega arith) })
