-- Lists of calls written as numbers, and what playing one gives: the layout at the end and a table of the answers.
use Rattle.std.specs.Prelude.{Option, Some, None, ℕ, zero, suc, ◌*◌, ◌/◌, ◌%◌, cond, length, get_or, drop, eqb, leb}
use mathlib.Core.List.{List, [], ◌∷◌, ◌++◌, flat_map}
use Rattle.model.specs.declared.Layout.{Layout}
use Rattle.model.specs.declared.Outcome.{Outcome}
use Rattle.model.specs.Answers.{LayoutRead}
use Rattle.model.specs.declared.Played.{Played}
use Rattle.model.specs.declared.Call.{Call}
use Rattle.model.specs.declared.Call.TheVariants as call
use Rattle.model.specs.declared.Origin.{Origin}
use Rattle.model.specs.declared.Origin.TheVariants as origin
use Rattle.model.specs.Layouts.{empty_layout}
use Rattle.model.specs.Checks.{Check, refusal, checked}
use Rattle.model.specs.Charts.{read_of}
use Rattle.model.specs.Graph6.{import_of}
use Rattle.model.specs.Histories.{Step, steps, played}

-- ---- calls as numbers

-- how many numbers a call takes in a list: which one, what it names, and the weight of a link
abbrev pub call_width : ℕ
call_width = 4

-- a number that stands for no call ends the list; of a weight one byte is taken
unfoldable pub call_of : ℕ → ℕ → ℕ → ℕ → Option Call
call_of op a b w =
    cond (eqb op 16) (Some call.AddVertex)
    (cond (eqb op 17) (Some (call.AddEdge a b (w % 256)))
    (cond (eqb op 18) (Some (call.RemoveEdge a b))
    (cond (eqb op 19) (Some (call.MoveAfter a b))
    (cond (eqb op 20) (Some (call.GreedyAppend a))
    (cond (eqb op 21) (Some (call.Sift a))
    (cond (eqb op 22) (Some call.SiftingRound)
    (cond (eqb op 23) (Some (call.Converge a)) None)))))))

-- the call that the first numbers are
unfoldable pub first_call : List ℕ → Option Call
first_call s = call_of (get_or s 0 0) (get_or s 1 0) (get_or s 2 0) (get_or s 3 0)

-- a call and those behind it, or none
unfoldable pub followed : Option Call → List Call → List Call
followed (Some c) rest = c ∷ rest
followed None rest = []

-- at most k calls
unfoldable pub calls_in : ℕ → List ℕ → List Call
calls_in zero s = []
calls_in (suc k) s = followed (first_call s) (calls_in k (drop call_width s))

-- numbers behind the last whole call are not looked at
unfoldable pub calls_of : List ℕ → List Call
calls_of s = calls_in (length s / call_width) s

-- ---- the table of the answers

-- how many numbers a call's answer takes in the table
abbrev pub answer_width : ℕ
answer_width = 5

-- the refusal code, and the further numbers
unfoldable pub answer_numbers : Outcome → List ℕ
answer_numbers a = a.refusal ∷ a.first ∷ a.second ∷ a.third ∷ a.fourth ∷ []

unfoldable pub answers_of : Layout → List Call → List ℕ
answers_of l cs = flat_map (λ (s : Step). answer_numbers s.answer) (steps l cs)

-- ---- playing

-- the start: the empty layout, or what the bytes give, read as a chart or imported as a graph in graph6
unfoldable pub start_of : Origin → List ℕ → LayoutRead
start_of origin.Empty bytes = record { refusal = 0; layout = empty_layout }
start_of origin.Chart bytes = read_of bytes
start_of origin.Graph6 bytes = import_of bytes

-- an origin as a number, for hosts: 1 is a chart, 2 a graph in graph6, and any other number the empty layout
unfoldable pub origin_of : ℕ → Origin
origin_of k = cond (eqb k 1) origin.Chart (cond (eqb k 2) origin.Graph6 origin.Empty)

module _ (from : Origin) (bytes numbers : List ℕ) (size : ℕ) where
  -- is there a start, and does the table of the given size hold an answer for each call? The second has the number of a short buffer.
  unfoldable pub play_checks : List Check
  play_checks =
      record { passes = eqb (start_of from bytes).refusal 0; code = (start_of from bytes).refusal }
      ∷ record { passes = leb (answer_width * length (calls_of numbers)) size; code = 18 }
      ∷ []

  -- the calls that are played: all, or none where playing is refused
  unfoldable pub played_calls : List Call
  played_calls = checked play_checks (calls_of numbers) (λ r. [])

  -- what comes back; refused, the layout is the start, the empty one where there is none
  unfoldable pub play_of : Played
  play_of =
      record {
        refusal = refusal play_checks;
        layout = played (start_of from bytes).layout played_calls;
        calls = length played_calls;
      }

-- the table after the call: the answers, and the rest as it was
unfoldable pub table_of : Origin → List ℕ → List ℕ → List ℕ → List ℕ
table_of from bytes numbers table =
    let calls = played_calls from bytes numbers (length table) in
    answers_of (start_of from bytes).layout calls ++ drop (answer_width * length calls) table
