-- What a call answers (document 01): the refusal number, 0 where it is accepted, the layout, and the further numbers; and what each result of the code says.
use Rattle.std.specs.Prelude.{ℕ, Bool, false, Result, Ok, Err}
use Rattle.model.specs.declared.Layout.{Layout}
use Rattle.model.specs.declared.Counted.{Counted}
use Rattle.model.specs.declared.LayoutWritten.{LayoutWritten}
use Rattle.model.specs.declared.EdgesCounted.{EdgesCounted}
use Rattle.model.specs.declared.LeastFound.{LeastFound}
use Rattle.model.specs.declared.SiftSummary.{SiftSummary}
use Rattle.model.specs.declared.RoundSummary.{RoundSummary}
use Rattle.model.specs.declared.ConvergeSummary.{ConvergeSummary}
use Rattle.model.specs.declared.refusal.Refusal.{Refusal}
use Rattle.model.specs.declared.refusal.Refusal.TheVariants as because

-- ---- "The first "no" gives its number; the ring returns unchanged, every other number is 0, "settled" isn't said"

-- link, unlink, move
pub record Changed : Type 0 where
  pub refusal : ℕ
  pub layout : Layout

-- add: its number
pub record Added : Type 0 where
  pub refusal : ℕ
  pub layout : Layout
  pub vertex : ℕ

-- lay: the tally
pub record Appended : Type 0 where
  pub refusal : ℕ
  pub layout : Layout
  pub tally : ℕ

-- sift: the saving, and how many candidate places have the least crossings
pub record Sifted : Type 0 where
  pub refusal : ℕ
  pub layout : Layout
  pub reduction : ℕ
  pub optima : ℕ

-- round: the summed saving, how many devices moved, and the summed optima
pub record Rounded : Type 0 where
  pub refusal : ℕ
  pub layout : Layout
  pub reduction : ℕ
  pub moved : ℕ
  pub optima : ℕ

-- settle: the saving, the rounds run, "settled", and the summed optima
pub record Converged : Type 0 where
  pub refusal : ℕ
  pub layout : Layout
  pub reduction : ℕ
  pub rounds : ℕ
  pub converged : Bool
  pub optima : ℕ

-- a chart or a graph in graph6 read: the empty layout where it is refused
pub record LayoutRead : Type 0 where
  pub refusal : ℕ
  pub layout : Layout

-- ---- the refusals, each with its number

unfoldable pub number : Refusal → ℕ
number because.TooLong = 1
number because.Undivided = 2
number because.WrongTags = 3
number because.NoSize = 4
number because.OddLinks = 5
number because.NoEdge = 6
number because.RepeatedEdge = 7
number because.NoOrder = 8
number because.NotValid = 11
number because.NoVertex = 12
number because.SameVertex = 13
number because.Joined = 14
number because.NotJoined = 15
number because.Full = 16
number because.WrongLimit = 17
number because.ShortOrder = 18
number because.ShortBuffer = 19
number because.NoGraphSize = 20
number because.WrongBits = 21
number because.PaddingSet = 22
number because.ShortTable = 23
number because.WeightCount = 24
number because.ZeroWeight = 25
number because.Weighted = 26
number because.NotSmall = 27
number because.NoSuchOrder = 28

-- ---- what a result says

module _ {T : Type 0} where
  -- "An accepted call has refusal number 0"
  unfoldable pub refusal_number : Result T Refusal → ℕ
  refusal_number (Ok x) = 0
  refusal_number (Err r) = number r

  -- the answer of an accepted call, or of a refused one by its number
  unfoldable pub told_by : {A : Type 0} → Result T Refusal → (T → A) → (ℕ → A) → A
  told_by (Ok x) accepted refused = accepted x
  told_by (Err r) accepted refused = refused (number r)

-- a call on the layout l
module _ (l : Layout) where
  unfoldable pub as_changed : Result Layout Refusal → Changed
  as_changed a = told_by a (λ next. record { refusal = 0; layout = next }) (λ r. record { refusal = r; layout = l })

  unfoldable pub as_added : Result (Layout × ℕ) Refusal → Added
  as_added a = told_by a (λ x. record { refusal = 0; layout = x.0; vertex = x.1 }) (λ r. record { refusal = r; layout = l; vertex = 0 })

  unfoldable pub as_appended : Result (Layout × ℕ) Refusal → Appended
  as_appended a = told_by a (λ x. record { refusal = 0; layout = x.0; tally = x.1 }) (λ r. record { refusal = r; layout = l; tally = 0 })

  unfoldable pub as_sifted : Result (Layout × SiftSummary) Refusal → Sifted
  as_sifted a =
      told_by a
      (λ x. record { refusal = 0; layout = x.0; reduction = x.1.reduction; optima = x.1.optima })
      (λ r. record { refusal = r; layout = l; reduction = 0; optima = 0 })

  unfoldable pub as_rounded : Result (Layout × RoundSummary) Refusal → Rounded
  as_rounded a =
      told_by a
      (λ x. record { refusal = 0; layout = x.0; reduction = x.1.reduction; moved = x.1.moved; optima = x.1.optima })
      (λ r. record { refusal = r; layout = l; reduction = 0; moved = 0; optima = 0 })

  unfoldable pub as_converged : Result (Layout × ConvergeSummary) Refusal → Converged
  as_converged a =
      told_by a
      (λ x. record {
        refusal = 0;
        layout = x.0;
        reduction = x.1.reduction;
        rounds = x.1.rounds;
        converged = x.1.converged;
        optima = x.1.optima;
      })
      (λ r. record { refusal = r; layout = l; reduction = 0; rounds = 0; converged = false; optima = 0 })

-- calls that only read: the carried count, how many bytes were written, how many edges there are, the least crossings
unfoldable pub as_counted : Result ℕ Refusal → Counted
as_counted a = told_by a (λ n. record { refusal = 0; count = n }) (λ r. record { refusal = r; count = 0 })

unfoldable pub as_written : Result ℕ Refusal → LayoutWritten
as_written a = told_by a (λ n. record { refusal = 0; length = n }) (λ r. record { refusal = r; length = 0 })

unfoldable pub as_edges : Result ℕ Refusal → EdgesCounted
as_edges a = told_by a (λ n. record { refusal = 0; edges = n }) (λ r. record { refusal = r; edges = 0 })

unfoldable pub as_least : Result ℕ Refusal → LeastFound
as_least a = told_by a (λ n. record { refusal = 0; crossings = n }) (λ r. record { refusal = r; crossings = 0 })
