-- Lists of calls (document 01, "The calls of a ring", demand 3): every call as a value, what it answers, the steps of a list, and the sifts and
-- rounds that were run in it.
use Rattle.std.specs.Prelude.{ℕ, ◌≤◌, ◌<◌, ◌≡◌, Bool, true, false, not, ◌&&◌, eqb}
use mathlib.Core.List.{List, flat_map}
use Rattle.model.specs.declared.Layout.{Layout}
use Rattle.model.specs.Answers.{Added}
use Rattle.model.specs.Answers.{Changed}
use Rattle.model.specs.Answers.{Appended}
use Rattle.model.specs.Answers.{Sifted}
use Rattle.model.specs.Answers.{Rounded}
use Rattle.model.specs.Answers.{Converged}
use Rattle.model.specs.declared.Outcome.{Outcome}
use Rattle.model.specs.declared.Call.{Call}
use Rattle.model.specs.declared.Call.TheVariants as call
use Rattle.model.specs.Lists.{one, upto, sum_over}
use Rattle.model.specs.Layouts.{empty_layout, crossings_of}
use Rattle.model.specs.Edits.{add_of, link_of, unlink_of, move_of}
use Rattle.model.specs.GreedyAppend.{lay_of}
use Rattle.model.specs.Search.{Sift, Round, Sweep, no_sift, one_sift, one_round, some_rounds, rounds_run, sift_run}
use Rattle.model.specs.Runs.{Calls, StepOf, steps_from, played_from, accepted_at, rounds_at, sifts_at}
use Rattle.model.specs.Sifting.{ring, sift_of, round_of, settle_of}
use Rattle.model.specs.Charts.{read_of}
use Rattle.model.specs.Graph6.{import_of}

-- ---- calls and what they answer

-- the refusal code, the layout, and up to four further numbers
abbrev pub outcome : ℕ → Layout → ℕ → ℕ → ℕ → ℕ → Outcome
outcome refusal l a b c d = record { refusal = refusal; layout = l; first = a; second = b; third = c; fourth = d }

-- the answers as outcomes, "settled" told by 1
abbrev pub of_added : Added → Outcome
of_added a = outcome a.refusal a.layout a.vertex 0 0 0

abbrev pub of_changed : Changed → Outcome
of_changed a = outcome a.refusal a.layout 0 0 0 0

abbrev pub of_appended : Appended → Outcome
of_appended a = outcome a.refusal a.layout a.tally 0 0 0

abbrev pub of_sifted : Sifted → Outcome
of_sifted a = outcome a.refusal a.layout a.reduction a.optima 0 0

abbrev pub of_rounded : Rounded → Outcome
of_rounded a = outcome a.refusal a.layout a.reduction a.moved a.optima 0

abbrev pub of_converged : Converged → Outcome
of_converged a = outcome a.refusal a.layout a.reduction a.rounds (one a.converged) a.optima

-- what a call answers on a layout: the definition of each
unfoldable pub answer_of : Layout → Call → Outcome
answer_of l call.AddVertex = of_added (add_of l)
answer_of l (call.AddEdge a b w) = of_changed (link_of l a b w)
answer_of l (call.RemoveEdge a b) = of_changed (unlink_of l a b)
answer_of l (call.MoveAfter a b) = of_changed (move_of l a b)
answer_of l (call.GreedyAppend s) = of_appended (lay_of l s)
answer_of l (call.Sift u) = of_sifted (sift_of l u)
answer_of l call.SiftingRound = of_rounded (round_of l)
answer_of l (call.Converge limit) = of_converged (settle_of l limit)

-- ---- a list of calls

-- "For every list of calls from the empty or a freshly read ring"; "A freshly read ring is one that reading an accepted chart returned."; "An imported
-- ring may start a list of calls as a freshly read one does." (document 02, Note 4)
pub data Start : Layout → Type 0 where
  empty : Start empty_layout
  read : (s : List ℕ) → (read_of s).refusal ≡ 0 → Start (read_of s).layout
  imported : (s : List ℕ) → (import_of s).refusal ≡ 0 → Start (import_of s).layout

-- what a call sifts
unfoldable pub sweep_of : Call → Sweep
sweep_of (call.Sift u) = one_sift u
sweep_of call.SiftingRound = one_round
sweep_of (call.Converge limit) = some_rounds limit
sweep_of call.AddVertex = no_sift
sweep_of (call.AddEdge a b w) = no_sift
sweep_of (call.RemoveEdge a b) = no_sift
sweep_of (call.MoveAfter a b) = no_sift
sweep_of (call.GreedyAppend s) = no_sift

abbrev pub ring_calls : Calls Layout Call Outcome
ring_calls = record { search = ring; answers = answer_of; code = λ a. a.refusal; after = λ a. a.layout; sweep = sweep_of }

-- a step: the layout before the call, the call, and its whole answer, with the layout after it
abbrev pub Step : Type 0
Step = StepOf Layout Call Outcome

abbrev pub after_step : Step → Layout
after_step s = s.answer.layout

-- the steps of the calls played one after the other from a layout, and the layout after them
abbrev pub steps : Layout → List Call → List Step
steps = steps_from ring_calls

abbrev pub played : Layout → List Call → Layout
played = played_from ring_calls

-- was the call accepted?
abbrev pub accepted : Step → Bool
accepted = accepted_at ring_calls

-- ---- the sifts and rounds that a list ran

-- the rounds that a call runs where it is accepted, and the sifts besides those of its rounds: the one called
abbrev pub rounds_of_call : Layout → Call → List (Round Layout)
rounds_of_call l c = rounds_run ring l (sweep_of c)

abbrev pub sift_called : Layout → Call → List (Sift Layout)
sift_called l c = sift_run ring l (sweep_of c)

abbrev pub rounds_of_step : Step → List (Round Layout)
rounds_of_step = rounds_at ring_calls

abbrev pub sifts_of_step : Step → List (Sift Layout)
sifts_of_step = sifts_at ring_calls

-- "What demand 3 says of sifts and rounds holds too for the sifts that an accepted round or settling runs, and for the rounds that an accepted
-- settling runs."
unfoldable pub rounds_in : List Step → List (Round Layout)
rounds_in ss = flat_map rounds_of_step ss

unfoldable pub sifts_in : List Step → List (Sift Layout)
sifts_in ss = flat_map sifts_of_step ss

-- ---- what the answers say of them

-- does the call sift: a sift, a round or a settling?
unfoldable pub sifting : Call → Bool
sifting c = elim (sweep_of c) [ no_sift ↦ false | one_sift u ↦ true | one_round ↦ true | some_rounds limit ↦ true ]

-- how many rounds an accepted call should have run: a round one, a settling as many as it answers
unfoldable pub rounds_due : Call → Outcome → ℕ
rounds_due c a = elim (sweep_of c) [ no_sift ↦ 0 | one_sift u ↦ 0 | one_round ↦ 1 | some_rounds limit ↦ a.second ]

-- the number of best candidate places that the answer tells, the sum of them for a round and a settling
unfoldable pub optima_told : Call → Outcome → ℕ
optima_told c a = elim (sweep_of c) [ no_sift ↦ 0 | one_sift u ↦ a.second | one_round ↦ a.third | some_rounds limit ↦ a.fourth ]

-- does the answer say converged ("settled")?
unfoldable pub says_converged : Call → Outcome → Bool
says_converged c a = elim (sweep_of c) [ no_sift ↦ false | one_sift u ↦ false | one_round ↦ false | some_rounds limit ↦ eqb a.third 1 ]

-- ---- best places

-- u stands at a best place: it can be moved behind each other vertex, and none of these moves gives fewer crossings. "The crossings of a device's
-- place behind another are those of the ring that moving it behind that other gives."
abbrev pub BestPlace : Layout → ℕ → Type 0
BestPlace l u =
    (v : ℕ) → v < l.n → (u ≡ v → ⊥) → ((move_of l u v).refusal ≡ 0) × (crossings_of l ≤ crossings_of (move_of l u v).layout)

-- behind how many of the other vertices u can be moved so that the layout then has k crossings
unfoldable pub places_with : Layout → ℕ → ℕ → ℕ
places_with l u k = sum_over (λ v. one (not (eqb u v) && eqb (crossings_of (move_of l u v).layout) k)) (upto l.n)

-- "no move of one device behind another helps"
abbrev pub LocalMinimum : Layout → Type 0
LocalMinimum l = (u : ℕ) → u < l.n → BestPlace l u
