-- Which limit is enough for a settling (document 02, Note 9): the bounds, for every layout and whatever count it carries; and what they say of a row of
-- ringlist. That none of the bounds can be lowered by one, and that the carried count is none, is proved in proofs/Limits.antt.
use Rattle.std.specs.Prelude.{ℕ, ◌+◌, ◌≤◌, ◌<◌, ◌≡◌, Bool, true, false}
use Rattle.std.proofs.Common.{arith, ap}
use mathlib.Core.List.{List}
use Rattle.model.specs.declared.Layout.{Layout}
use Rattle.model.specs.Answers.{Converged}
use Rattle.model.specs.Layouts.{crossings_of}
use Rattle.model.specs.Search.{least}
use Rattle.model.specs.Sifting.{settled, rounds_up_to, settle_of}
use Rattle.model.specs.Charts.{read_of}
use Rattle.laws.specs.Charts.Reading.{read_valid}
use Rattle.laws.specs.Sifting.Calls.{settle_accepted}
use Rattle.laws.specs.Sifting.Enough.{settle_exact}
use Rattle.laws.proofs.Sifting.Enough.{settle_enough}
use Rattle.history.specs.Excluded.{first_ring}

-- ---- the bounds

-- "any accepted settling" with at least this limit "ends settled"
abbrev pub Enough : (Layout → ℕ) → Type 0
Enough least = (l : Layout) (limit : ℕ) → (settle_of l limit).refusal ≡ 0 → least l ≤ limit → (settle_of l limit).converged ≡ true

-- an accepted settling runs at most so many rounds, by the layout at its start and what it answers
abbrev pub AtMost : (Layout → Converged → ℕ) → Type 0
AtMost most = (l : Layout) (limit : ℕ) → (settle_of l limit).refusal ≡ 0 → (settle_of l limit).rounds ≤ most l (settle_of l limit)

-- a limit "larger than the ring's crossings at its start", the pairwise sum
pub crossings_enough : Enough (λ l. crossings_of l + 1)
crossings_enough l limit e h = (settle_enough l limit e).enough (omega arith)

-- "at most one round more than the crossings is run"
pub crossings_and_one : AtMost (λ l a. crossings_of l + 1)
crossings_and_one l limit e = (settle_enough l limit e).few

-- and at most one more than the saving
pub saving_and_one : AtMost (λ l a. a.reduction + 1)
saving_and_one l limit e = (settle_enough l limit e).saved

-- ---- what shows that none of them can be lowered by one, and that the carried count gives none

-- the first worked ring (links 0-2 and 1-3, order 0 1 2 3) with a carried count that is one too low
unfoldable pub first_miscounted : Layout
first_miscounted =
    record { n = first_ring.n; order = first_ring.order; adjacency = first_ring.adjacency; weights = first_ring.weights; count = 0 }

-- what settling a layout answers, but for the layout that it gives and the number of best places
pub record Answers (l : Layout) (limit saving rounds : ℕ) (b : Bool) : Type 0 where
  pub accepts : (settle_of l limit).refusal ≡ 0
  pub saves : (settle_of l limit).reduction ≡ saving
  pub runs : (settle_of l limit).rounds ≡ rounds
  pub says : (settle_of l limit).converged ≡ b

-- one crossing, which the first round takes away: limit 1 is spent by then, and it takes a second round to tell that nothing is left to move
pub record OneCrossing (l : Layout) : Type 0 where
  pub crossing : crossings_of l ≡ 1
  pub limit_one : Answers l 1 1 1 false
  pub limit_two : Answers l 2 1 2 true

-- ---- a row of ringlist, which settles with limit 50

-- what the lines before, after, rounds and settled say of one another
pub record RowRounds (before : Layout) (a : Converged) : Type 0 where
  -- fewer than 50 crossings before: settled
  pub few_settle : crossings_of before < 50 → a.converged ≡ true
  -- there are at most as many rounds as crossings that were taken away, and one more
  pub rounds_saved : a.rounds + crossings_of a.layout ≤ crossings_of before + 1
  -- not settled: at least 50 were taken away
  pub unsettled_saved : a.converged ≡ false → 50 + crossings_of a.layout ≤ crossings_of before

pub row_rounds : (chart : List ℕ) → (read_of chart).refusal ≡ 0 → RowRounds (read_of chart).layout (settle_of (read_of chart).layout 50)
unfolding rounds_up_to settled
row_rounds chart e =
    let l = (read_of chart).layout in
    let accepted = ap (λ (c : Converged). c.refusal) (settle_accepted l 50 (read_valid chart e).0 (omega arith) (omega arith)) in
    let f = settle_enough l 50 accepted in
    record {
      few_settle = λ h. f.enough (omega arith);
      rounds_saved = omega (arith, f.saved, settle_exact l 50 accepted);
      unsettled_saved = λ u. omega (arith, f.not_enough u, settle_exact l 50 accepted);
    }
