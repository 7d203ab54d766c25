-- What demand 3 of document 01 says: the record `Demand3`. That it holds of every start and every list of calls is one theorem, `demand_3` in
-- proofs/Demand3.antt. The words it is written in (the steps, sifts and rounds of a list, best place, local minimum) are definitions of `model`, Histories.
use Rattle.std.specs.Prelude.{ℕ, ◌+◌, ◌*◌, ◌≤◌, ◌<◌, ◌≡◌, false, length, T}
use mathlib.Core.List.{List, map}
use Rattle.model.specs.declared.Layout.{Layout}
use Rattle.model.specs.declared.Call.{Call}
use Rattle.model.specs.declared.Call.TheVariants as call
use Rattle.model.specs.Lists.{upto, sum_over, All}
use Rattle.model.specs.Layouts.{vertex_order, crossings_of, each_once, valid}
use Rattle.model.specs.Edits.{move_of}
use Rattle.model.specs.Search.{Sift, Round}
use Rattle.model.specs.Sifting.{optima_at, sifts_of_round}
use Rattle.model.specs.Runs.{Follow, but_last}
use Rattle.model.specs.Histories.{Step, after_step, steps, played, outcome, answer_of, accepted}
use Rattle.model.specs.Histories.{sift_called, rounds_of_step, sifts_of_step, rounds_in, sifts_in, sifting, rounds_due}
use Rattle.model.specs.Histories.{says_converged, optima_told, places_with, BestPlace, LocalMinimum}

-- ---- what is said of a step and of a round

-- a step answers what the definition of its call gives from the layout before it; refused, it gives that layout back, and no number but its refusal
-- code
pub record Defined (s : Step) : Type 0 where
  pub answers : s.answer ≡ answer_of s.before s.call
  pub unchanged : accepted s ≡ false → s.answer ≡ outcome s.answer.refusal s.before 0 0 0 0

-- an accepted settling with this limit that did not say converged ran as many rounds as its limit, and each moved a vertex
abbrev pub LimitReached : Step → ℕ → Type 0
LimitReached s limit =
    s.call ≡ call.Converge limit → s.answer.third ≡ 0
    → (s.answer.second ≡ limit) × All (λ (r : Round Layout). 0 < r.moved) (rounds_of_step s)

-- an accepted settling with this limit says converged if the limit is larger than the crossings of the layout before it, counted pair by pair; and, whatever
-- the limit, it ran at most one round more than these crossings
pub record EnoughRounds (s : Step) (limit : ℕ) : Type 0 where
  pub enough : crossings_of s.before < limit → T (says_converged s.call s.answer)
  pub few : s.answer.second ≤ crossings_of s.before + 1

-- a lay that starts with this vertex answers a tally that is the crossings of the layout it returns, counted pair by pair
abbrev pub TallyRight : Step → ℕ → Type 0
TallyRight s first = s.call ≡ call.GreedyAppend first → s.answer.first ≡ crossings_of (after_step s)

-- the number of best places that a sift counts is right for the layout before it: behind no other vertex the sifted one has fewer crossings than the sift
-- reached, behind as many of them as the number says it has just as many, and with two vertices or more there is one
pub record OptimaRight (x : Sift Layout) : Type 0 where
  pub none_fewer : (v : ℕ) → v < x.before.n → (x.vertex ≡ v → ⊥) → crossings_of x.after ≤ crossings_of (move_of x.before x.vertex v).layout
  pub just_as_many : optima_at x ≡ places_with x.before x.vertex (crossings_of x.after)
  pub some : 2 ≤ x.before.n → 1 ≤ optima_at x
  pub not_all : optima_at x < x.before.n

-- nothing is left out of an accepted step: a sift contributes one sift, a round one round, a settling as many as it answers, and each round n sifts;
-- the sifts lead from the layout before to the layout after, and the number of best places that is told is the sum of theirs
pub record Complete (s : Step) : Type 0 where
  pub number_of_rounds : length (rounds_of_step s) ≡ rounds_due s.call s.answer
  pub number_of_sifts : length (sifts_of_step s) ≡ length (sift_called s.before s.call) + length (rounds_of_step s) * s.before.n
  pub sifts_lead : T (sifting s.call) → Follow (λ (x : Sift Layout). x.before) (λ x. x.after) s.before (sifts_of_step s) (after_step s)
  pub optima_summed : optima_told s.call s.answer ≡ sum_over optima_at (sifts_of_step s)

-- a round sifts each vertex once, in rising number, from the layout before it to the layout after it
pub record WholeRound (r : Round Layout) : Type 0 where
  pub each_vertex : map (λ (x : Sift Layout). x.vertex) (sifts_of_round r) ≡ upto r.before.n
  pub leads : Follow (λ (x : Sift Layout). x.before) (λ x. x.after) r.before (sifts_of_round r) r.after

-- ---- demand 3

pub record Demand3 (start : Layout) (calls : List Call) : Type 0 where
  -- "each does and answers what document 01 defines", refused calls among them, from the layout that the step before returned
  pub called : map (λ (s : Step). s.call) (steps start calls) ≡ calls
  pub defined : All Defined (steps start calls)
  pub one_after_another : Follow (λ (s : Step). s.before) after_step start (steps start calls) (played start calls)
  -- "at the end the carried count is the crossings counted pair by pair and the order holds each device once"
  pub valid_at_the_end : T (valid (played start calls))
  pub each_vertex_once : T (each_once (played start calls).n (vertex_order (played start calls)))
  pub count_is_crossings : (played start calls).count ≡ crossings_of (played start calls)
  -- "the tally of every accepted lay equals the crossings of the ring it returns, the unlinked devices of Note 2 included" (document 02, Note 6)
  pub tallies_right : All (λ s. T (accepted s) → (first : ℕ) → TallyRight s first) (steps start calls)
  -- "every accepted sift left its device at a best place", those that rounds and settlings ran too
  pub best_places : All (λ (x : Sift Layout). (x.vertex < x.after.n) × BestPlace x.after x.vertex) (sifts_in (steps start calls))
  -- "how many of its n − 1 candidate places have the least crossings" (document 02, Note 3): the number of each sift
  pub optima_right : All OptimaRight (sifts_in (steps start calls))
  -- "no round raised the count", those that settlings ran too
  pub no_round_raised : All (λ (r : Round Layout). crossings_of r.after ≤ crossings_of r.before) (rounds_in (steps start calls))
  -- ""settled" means that no move of one device behind another helps"
  pub converged_is_minimum : All (λ s. T (says_converged s.call s.answer) → LocalMinimum (after_step s)) (steps start calls)
  -- "A run that reaches its limit after a round that moved something isn't settled": not converged, it was the limit that ended it; and it went on
  -- only after a round that moved something
  pub limit_reached : All (λ s. T (accepted s) → (limit : ℕ) → LimitReached s limit) (steps start calls)
  pub went_on_after_a_move : All (λ s. All (λ (r : Round Layout). 0 < r.moved) (but_last (rounds_of_step s))) (steps start calls)
  -- "any accepted settling whose limit is larger than the ring's crossings at its start ends settled, so at most one round more than the crossings is run"
  -- (document 02, Note 9)
  pub enough_rounds : All (λ s. T (accepted s) → (limit : ℕ) → s.call ≡ call.Converge limit → EnoughRounds s limit) (steps start calls)
  -- nothing is left out
  pub complete : All (λ s. T (accepted s) → Complete s) (steps start calls)
  pub whole_rounds : All WholeRound (rounds_in (steps start calls))
