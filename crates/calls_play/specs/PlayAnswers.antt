-- What playing a list of calls answers, case by case.
use Rattle.std.specs.Prelude.{ℕ, ◌*◌, ◌/◌, ◌≤◌, ◌<◌, ◌≡◌, drop}
use Rattle.std.proofs.Common.{arith, sym, ◌∙◌, subst}
use Rattle.std.proofs.Math.Decide.{ℕ_discrete}
use Rattle.std.proofs.Math.Path.{ap, ap₂}
use mathlib.Core.List.{List, [], ◌++◌, flat_map}
use Rattle.std.proofs.Math.ListN.{length}
use borrow.Author.Tests.{le-leb, lt-leb, eq-eqb, ne_eqb}
use Rattle.model.specs.declared.Layout.{Layout}
use Rattle.model.specs.Answers.{LayoutRead}
use Rattle.model.specs.declared.Played.{Played}
use Rattle.model.specs.declared.Origin.{Origin}
use Rattle.model.specs.declared.Origin.TheVariants as origin
use Rattle.model.specs.declared.Call.{Call}
use Rattle.model.specs.Checks.{refusal}
use Rattle.model.specs.Charts.{read_of}
use Rattle.model.specs.Graph6.{import_of}
use Rattle.model.specs.Runs.{steps_from, played_from}
use Rattle.model.specs.Histories.{Start, empty, read, imported, played}
use Rattle.model.specs.Playing.{calls_of, answer_width, answers_of, start_of, play_checks, played_calls, play_of, table_of}
use Rattle.laws.specs.Layouts.Refusals.{when_accepted, when_refused}
use Rattle.laws.specs.Charts.Passes.{refused_read}
use Rattle.laws.specs.Graph6.Imports.{import_refused}
use Rattle.laws.specs.Charts.Reading.{read_refused}
use Rattle.history.specs.Demand3.{Demand3}
use Rattle.history.proofs.Demand3.{demand_3}

-- what comes back and the table are those of the definition
pub record Answered (from : Origin) (bytes numbers table : List ℕ) (r : Played) (after : List ℕ) : Type 0 where
  pub returned : r ≡ play_of from bytes numbers (length table)
  pub table_is : after ≡ table_of from bytes numbers table

abbrev pub not_played : ℕ → Layout → Played
not_played r l = record { refusal = r; layout = l; calls = 0 }

module _ (from : Origin) (bytes numbers table : List ℕ) where
  -- what comes back and the table, by the calls that are played
  abbrev ends : ℕ → List Call → Played
  ends r cs = record { refusal = r; layout = played (start_of from bytes).layout cs; calls = length cs }

  abbrev table_with : List Call → List ℕ
  table_with cs = answers_of (start_of from bytes).layout cs ++ drop (answer_width * length cs) table

  by_calls : {r : ℕ} {cs : List Call} → r ≡ refusal (play_checks from bytes numbers (length table)) → cs ≡ played_calls from bytes numbers (length table)
      → Answered from bytes numbers table (ends r cs) (table_with cs)
  unfolding play_of table_of
  by_calls e k = record { returned = ap₂ ends e k; table_is = ap table_with k }

  refused : {r : ℕ} → r ≡ refusal (play_checks from bytes numbers (length table)) → (r ≡ 0 → ⊥)
      → Answered from bytes numbers table (not_played r (start_of from bytes).layout) table
  unfolding played_calls played_from answers_of steps_from flat_map
  refused e d = by_calls e (sym (when_refused (play_checks from bytes numbers (length table)) (calls_of numbers) (λ r. []) e d))

  no_start : ((start_of from bytes).refusal ≡ 0 → ⊥) → (start_of from bytes).refusal ≡ refusal (play_checks from bytes numbers (length table))
  unfolding play_checks refusal
  no_start d = rw (ne_eqb (start_of from bytes).refusal 0 d)

  too_short : (start_of from bytes).refusal ≡ 0 → length table / answer_width < length (calls_of numbers)
      → 18 ≡ refusal (play_checks from bytes numbers (length table))
  unfolding play_checks refusal
  too_short z h = rw (eq-eqb (start_of from bytes).refusal 0 z, lt-leb (answer_width * length (calls_of numbers)) (length table) (omega arith))

  passed : (start_of from bytes).refusal ≡ 0 → answer_width * length (calls_of numbers) ≤ length table → refusal (play_checks from bytes numbers (length table)) ≡ 0
  unfolding play_checks refusal
  passed z h = rw (eq-eqb (start_of from bytes).refusal 0 z, le-leb (answer_width * length (calls_of numbers)) (length table) h)

  module _ {start : LayoutRead} (e : start ≡ start_of from bytes) where
    -- no start
    pub play_unstarted : (start.refusal ≡ 0 → ⊥) → Answered from bytes numbers table (not_played start.refusal start.layout) table
    play_unstarted d = let n = rw e at d in rw e (refused (no_start n) n)

    -- a table that is too short
    pub play_short : start.refusal ≡ 0 → length table / answer_width < length (calls_of numbers)
        → Answered from bytes numbers table (not_played 18 start.layout) table
    play_short z h = rw e (refused (too_short (rw e at z) h) (λ k. omega arith))

    pub play_done : start.refusal ≡ 0 → {count : ℕ} → count ≡ length (calls_of numbers) → answer_width * count ≤ length table → {end : Layout} {after : List ℕ}
        → end ≡ played start.layout (calls_of numbers)
        → after ≡ answers_of start.layout (calls_of numbers) ++ drop (answer_width * count) table
        → Answered from bytes numbers table (record { refusal = 0; layout = end; calls = count }) after
    unfolding played_calls
    play_done z {count} k h p w =
        let fine = passed (rw e at z) (omega arith) in
        let same = by_calls (sym fine) (sym (when_accepted (play_checks from bytes numbers (length table)) (calls_of numbers) (λ r. []) fine)) in
        record {
          returned = ap₂ (λ (l : Layout) (n : ℕ). record { refusal = 0; layout = l; calls = n }) (rw e at p) k ∙ same.returned;
          table_is = rw (e, k) at w ∙ same.table_is;
        }

-- ---- the claim of demand 3 for the calls that are played

start_is : (from : Origin) (bytes : List ℕ) → Start (start_of from bytes).layout
unfolding start_of refused_read
start_is origin.Empty bytes = empty
start_is origin.Chart bytes =
    elim (ℕ_discrete (read_of bytes).refusal 0) [
      | yes e ↦ read bytes e
      | no d ↦ subst (λ (r : LayoutRead). Start r.layout) (sym (read_refused bytes d)) empty
    ]
start_is origin.Graph6 bytes =
    elim (ℕ_discrete (import_of bytes).refusal 0) [
      | yes e ↦ imported bytes e
      | no d ↦ subst (λ (r : LayoutRead). Start r.layout) (sym (import_refused bytes d)) empty
    ]

pub play_claim : (from : Origin) (bytes numbers : List ℕ) (size : ℕ) → Demand3 (start_of from bytes).layout (played_calls from bytes numbers size)
play_claim from bytes numbers size = demand_3 (start_is from bytes) (played_calls from bytes numbers size)
