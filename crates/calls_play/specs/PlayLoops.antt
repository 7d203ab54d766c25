-- Calls played one after the other, and their answers in the table.
use Rattle.std.specs.Prelude.{Some, None, ℕ, ◌+◌, ◌*◌, ◌≤◌, ◌<◌, ◌≡◌, refl, length, take, drop}
use Rattle.std.proofs.Common.{arith, ap₂, ◌∙◌, subst, take_all}
use Rattle.std.proofs.Math.Path.{sym, ap}
use mathlib.Core.List.{List, [], ◌∷◌, ◌++◌, flat_map, append_assoc}
use Rattle.model.specs.declared.Layout.{Layout}
use Rattle.model.specs.declared.Outcome.{Outcome}
use Rattle.model.specs.declared.Call.{Call}
use Rattle.model.specs.Runs.{steps_from, played_from}
use Rattle.model.specs.Histories.{answer_of, played}
use Rattle.model.specs.Playing.{calls_of, answer_width, answer_numbers, answers_of}
use Rattle.laws.specs.Buffers.Writing.{written, Written, written_none, written_nothing, written_step, written_whole}
use Rattle.calls_encoding.specs.Answers.{with_answer, is_answered}
use Rattle.calls_encoding.specs.CallLists.{call_at, call_there, there_next, there_end, next_call, there_size}

-- ---- calls behind calls

played_append : (l : Layout) (xs ys : List Call) → played l (xs ++ ys) ≡ played (played l xs) ys
unfolding played_from
played_append l [] ys = refl
played_append l (x ∷ xs) ys = played_append (answer_of l x).layout xs ys

answers_append : (l : Layout) (xs ys : List Call) → answers_of l (xs ++ ys) ≡ answers_of l xs ++ answers_of (played l xs) ys
unfolding answers_of steps_from played_from flat_map
answers_append l [] ys = refl
answers_append l (x ∷ xs) ys =
    ap (λ (t : List ℕ). answer_numbers (answer_of l x) ++ t) (answers_append (answer_of l x).layout xs ys)
    ∙ sym (append_assoc (answer_numbers (answer_of l x)) (answers_of (answer_of l x).layout xs) (answers_of (played (answer_of l x).layout xs) ys))

answers_length : (l : Layout) (cs : List Call) → length (answers_of l cs) ≡ answer_width * length cs
unfolding answers_of steps_from flat_map answer_numbers
answers_length l [] = refl
answers_length l (c ∷ cs) = let rest = answers_length (answer_of l c).layout cs in omega arith

-- ---- the call at a place

module _ (s : List ℕ) (i : ℕ) (l : Layout) (table : List ℕ) where
  -- played, and its answer written
  pub there_played : {c : Call} → call_at s i ≡ Some c → {a : Outcome} → a ≡ answer_of l c
      → answer_width * i + answer_width ≤ length table → {after : List ℕ} → after ≡ with_answer a table (answer_width * i)
      → (a.layout ≡ played l (call_there s i)) × (after ≡ written table (answer_width * i) (answers_of l (call_there s i)))
  unfolding played_from answers_of steps_from flat_map answer_numbers
  there_played {c} e {a} q room w =
      let one = there_next s i e in (
        ap (λ (x : Outcome). x.layout) q ∙ ap (played l) (sym one),
        w
            ∙ is_answered a table (answer_width * i) room
            ∙ ap (λ (x : Outcome). written table (answer_width * i) (answer_numbers x)) q
            ∙ ap (λ (cs : List Call). written table (answer_width * i) (answers_of l cs)) (sym one),
      )

  -- none there
  pub there_ended : call_at s i ≡ None
      → (l ≡ played l (call_there s i)) × (table ≡ written table (answer_width * i) (answers_of l (call_there s i)))
  unfolding played_from answers_of steps_from flat_map
  there_ended e =
      let none = there_end s i e in (
        ap (played l) (sym none),
        sym (written_nothing table (answer_width * i)) ∙ ap (λ (cs : List Call). written table (answer_width * i) (answers_of l cs)) (sym none),
      )

-- ---- the loop

-- the first i of the calls that the numbers are have been played, and their answers stand at the front of the table
pub record PlayedUpTo (start : Layout) (numbers table : List ℕ) (i : ℕ) (now : Layout) (after : List ℕ) : Type 0 where
  pub inside : i ≤ length (calls_of numbers)
  pub reached : now ≡ played start (take i (calls_of numbers))
  pub answered : Written table 0 (answers_of start (take i (calls_of numbers))) after (answer_width * i)

pub played_start : (start : Layout) (numbers table : List ℕ) → PlayedUpTo start numbers table 0 start table
unfolding played_from answers_of steps_from flat_map
played_start start numbers table = record { inside = omega arith; reached = refl; answered = written_none table 0 }

module _ {start : Layout} {numbers table : List ℕ} {i : ℕ} {now : Layout} {after : List ℕ} (p : PlayedUpTo start numbers table i now after) where
  pub played_next : {next : Layout} {then : List ℕ} → i < length (calls_of numbers) → answer_width * i ≤ length table
      → next ≡ played now (call_there numbers i)
      → then ≡ written after (answer_width * i) (answers_of now (call_there numbers i))
      → PlayedUpTo start numbers table (i + 1) next then
  played_next {next} {then} h fits e w =
      let earlier = take i (calls_of numbers) in
      let one = call_there numbers i in
      let more = next_call numbers i h in
      let place : answer_width * (i + 1) ≡ answer_width * i + length (answers_of now one) = omega (arith, answers_length now one, there_size numbers h) in
      record {
        inside = omega arith;
        reached = e ∙ ap (λ (l : Layout). played l one) p.reached ∙ sym (played_append start earlier one) ∙ ap (played start) (sym more);
        answered =
            subst (λ (t : List ℕ). Written table 0 t then (answer_width * (i + 1)))
            (ap (λ (l : Layout). answers_of start earlier ++ answers_of l one) p.reached
            ∙ sym (answers_append start earlier one)
            ∙ ap (answers_of start) (sym more))
            (written_step p.answered (answers_of now one) fits w place);
      }

  pub played_all : {count : ℕ} → count ≡ length (calls_of numbers) → count ≤ i
      → (now ≡ played start (calls_of numbers)) × (after ≡ answers_of start (calls_of numbers) ++ drop (answer_width * count) table)
  played_all {count} k h =
      let all = take_all i (calls_of numbers) (omega arith) in
      let whole = written_whole p.answered in
      let place : length (answers_of start (take i (calls_of numbers))) ≡ answer_width * count = omega (arith, whole.1, p.inside) in (
        p.reached ∙ ap (played start) all,
        whole.0 ∙ ap₂ (λ (t : List ℕ) (j : ℕ). t ++ drop j table) (ap (answers_of start) all) place,
      )
