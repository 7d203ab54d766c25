-- Lists of calls over any kind of layout: the steps of a list, and the sifts and rounds that were run in it. The calls of a ring are one kind (`ring_calls`
-- in Histories).
use Rattle.std.specs.Prelude.{ℕ, Bool, cond, eqb}
use mathlib.Core.List.{List, [], ◌∷◌, ◌++◌, flat_map}
use Rattle.model.specs.Search.{Search, Sift, Round, Sweep, rounds_run, sift_run, sifts_of_all}

-- a kind of call: what is searched, what a call answers on a state, the refusal code and the state in an answer, and what a call sifts
pub record Calls (S C A : Type 0) : Type 0 where
  pub search : Search S
  pub answers : S → C → A
  pub code : A → ℕ
  pub after : A → S
  pub sweep : C → Sweep

-- a step: the state before the call, the call, and its whole answer, with the state after it
pub record StepOf (S C A : Type 0) : Type 0 where
  pub before : S
  pub call : C
  pub answer : A

-- things that lead from one state to another, each beginning where the one before it ended
pub data Follow {A S : Type 0} (start end : A → S) : S → List A → S → Type 0 where
  ended : {s : S} → Follow start end s [] s
  next : {x : A} {xs : List A} {t : S} → Follow start end (end x) xs t → Follow start end (start x) (x ∷ xs) t

-- each entry but the last
unfoldable pub but_last : {A : Type 0} → List A → List A
but_last [] = []
but_last (x ∷ []) = []
but_last (x ∷ y ∷ ys) = x ∷ but_last (y ∷ ys)

module _ {S C A : Type 0} (k : Calls S C A) where
  abbrev pub step_at : S → C → StepOf S C A
  step_at s c = record { before = s; call = c; answer = k.answers s c }

  -- the steps of the calls played one after the other from s; "Nothing else writes the ring between two calls of the list."
  unfoldable pub steps_from : S → List C → List (StepOf S C A)
  steps_from s [] = []
  steps_from s (c ∷ cs) = step_at s c ∷ steps_from (k.after (k.answers s c)) cs

  -- the state after them
  unfoldable pub played_from : S → List C → S
  played_from s [] = s
  played_from s (c ∷ cs) = played_from (k.after (k.answers s c)) cs

  -- was the call accepted?
  unfoldable pub accepted_at : StepOf S C A → Bool
  accepted_at x = eqb (k.code x.answer) 0

  -- the rounds that an accepted call ran, and its sifts: the one called, and those of its rounds
  unfoldable pub rounds_at : StepOf S C A → List (Round S)
  rounds_at x = cond (accepted_at x) (rounds_run k.search x.before (k.sweep x.call)) []

  unfoldable pub sifts_at : StepOf S C A → List (Sift S)
  sifts_at x =
      cond (accepted_at x) (sift_run k.search x.before (k.sweep x.call)) []
      ++ flat_map (λ (r : Round S). sifts_of_all k.search r.before) (rounds_at x)
