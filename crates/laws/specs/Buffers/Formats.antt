-- A lent buffer filled in any format: where the call is accepted, and what it answers and leaves in the buffer. A layout written out is an instance.
use Rattle.std.specs.Prelude.{ℕ, ◌≤◌, ◌<◌, ◌≡◌, Bool, length, drop, T, leb}
use Rattle.std.proofs.Math.Path.{refl, sym, ap}
use Rattle.std.proofs.Common.{◌∙◌, lit<}
use Rattle.std.proofs.Math.Bool.{cond}
use mathlib.Core.List.{List, [], ◌∷◌, ◌++◌}
use Rattle.std.proofs.Math.ListN.{take}
use Rattle.std.proofs.Math.Seq.{take-append_seam}
use borrow.Author.Tests.{leb-true, le-leb}
use Rattle.model.specs.declared.Layout.{Layout}
use Rattle.model.specs.declared.LayoutWritten.{LayoutWritten}
use Rattle.model.specs.Layouts.{valid}
use Rattle.model.specs.Checks.{Check, refusal, is_valid, room_for}
use Rattle.model.specs.Writing.{Format, fill_checks, fill_answer, filled, write_answer, write_of, written_bytes}
use Rattle.model.specs.WrittenCharts.{chart_format}
use Rattle.model.specs.Graph6.{export_checks, graph6_format}
use Rattle.model.specs.EdgeCrossings.{table_format}
use Rattle.laws.specs.Sums.Indicators.{T_true}
use Rattle.laws.specs.Sums.Lists.{none, also}
use Rattle.laws.specs.Layouts.Refusals.{Numbered, passed, one_more, failed_before, passed_before, valid_passed, when_accepted, checked_number}

-- each check of a format has a number
pub record Coded (f : Format) : Type 0 where
  pub own : (l : Layout) → Numbered (f.checks l)
  pub room : 0 < f.short

pub chart_coded : Coded chart_format
chart_coded = record { own = λ l. none; room = lit< tt }

pub graph6_coded : Coded graph6_format
unfolding export_checks
graph6_coded = record { own = λ l. also (lit< tt) none; room = lit< tt }

pub table_coded : Coded table_format
table_coded = record { own = λ l. none; room = lit< tt }

-- accepted: the layout is valid, the format's own checks pass, and there is room
pub record Fits (f : Format) (l : Layout) (buffer : List ℕ) : Type 0 where
  pub is_valid_lem : T (valid l)
  pub own : refusal (f.checks l) ≡ 0
  pub room : length (f.entries l) ≤ length buffer

module _ {f : Format} (coded : Coded f) (l : Layout) (buffer : List ℕ) where
  abbrev room : Check
  room = room_for f.short (f.entries l) buffer

  -- the checks of a valid layout: the room tells once the format's own pass, and until then these
  pub room_tells : refusal (f.checks l) ≡ 0 → refusal (f.checks l ++ (room ∷ [])) ≡ cond (leb (length (f.entries l)) (length buffer)) 0 f.short
  unfolding room_for
  room_tells z = one_more room (coded.own l) z

  pub own_tells : (refusal (f.checks l) ≡ 0 → ⊥) → refusal (f.checks l ++ (room ∷ [])) ≡ refusal (f.checks l)
  own_tells d = failed_before (f.checks l) room d

  pub fill_accepted : refusal (fill_checks f l buffer) ≡ 0 → Fits f l buffer
  unfolding room_for refusal
  fill_accepted e =
      let first = valid_passed l (f.checks l ++ (room ∷ [])) e in
      let own = passed_before (f.checks l) room first.1 in
      let last = passed room [] coded.room (sym (room_tells own) ∙ first.1) in
      record { is_valid_lem = first.0; own = own; room = leb-true (length (f.entries l)) (length buffer) last.passes }

  -- the other way round
  pub fill_accepts : Fits f l buffer → refusal (fill_checks f l buffer) ≡ 0
  unfolding refusal is_valid
  fill_accepts h =
      ap (λ (b : Bool). cond b (refusal (f.checks l ++ (room ∷ []))) 11) (T_true (valid l) h.is_valid_lem)
      ∙ room_tells h.own
      ∙ ap (λ (b : Bool). cond b 0 f.short) (le-leb (length (f.entries l)) (length buffer) h.room)

module _ (f : Format) (l : Layout) (buffer : List ℕ) (e : refusal (fill_checks f l buffer) ≡ 0) where
  pub fill_answered : {A : Type 0} (answer : ℕ → ℕ → A) → fill_answer f l buffer answer ≡ answer 0 (length (f.entries l))
  fill_answered answer = when_accepted (fill_checks f l buffer) (answer 0 (length (f.entries l))) (λ r. answer r 0) e

  pub filled_whole : filled f l buffer ≡ f.entries l ++ drop (length (f.entries l)) buffer
  filled_whole = when_accepted (fill_checks f l buffer) (f.entries l ++ drop (length (f.entries l)) buffer) (λ r. buffer) e

  -- as many entries of the buffer as there are to write are what is written
  pub filled_front : take (length (f.entries l)) (filled f l buffer) ≡ f.entries l
  filled_front = ap (take (length (f.entries l))) filled_whole ∙ take-append_seam (f.entries l) (drop (length (f.entries l)) buffer)

-- ---- a layout written out

module _ {f : Format} (coded : Coded f) (l : Layout) (buffer : List ℕ) where
  -- the answer's number is that of the checks
  number : (write_of f l buffer).refusal ≡ refusal (fill_checks f l buffer)
  unfolding write_of
  number = checked_number (fill_checks f l buffer) _ _ (λ (w : LayoutWritten). w.refusal) refl (λ r. refl)

  pub write_accepted : (write_of f l buffer).refusal ≡ 0 → Fits f l buffer
  write_accepted e = fill_accepted coded l buffer (sym number ∙ e)

  both : refusal (fill_checks f l buffer) ≡ 0
      → (write_of f l buffer ≡ record { refusal = 0; length = length (f.entries l) })
      × (written_bytes f l buffer ≡ f.entries l ++ drop (length (f.entries l)) buffer)
  unfolding write_of written_bytes
  both e = (fill_answered f l buffer e write_answer, filled_whole f l buffer e)

  -- as many bytes of the buffer as the call answers are what is written
  pub written_front : (write_of f l buffer).refusal ≡ 0 → take (write_of f l buffer).length (written_bytes f l buffer) ≡ f.entries l
  unfolding written_bytes
  written_front e =
      let done = sym number ∙ e in
      ap (λ (w : LayoutWritten). take w.length (written_bytes f l buffer)) (both done).0 ∙ filled_front f l buffer done

  pub write_accepts : Fits f l buffer
      → (write_of f l buffer ≡ record { refusal = 0; length = length (f.entries l) })
      × (written_bytes f l buffer ≡ f.entries l ++ drop (length (f.entries l)) buffer)
  write_accepts h = both (fill_accepts coded l buffer h)
