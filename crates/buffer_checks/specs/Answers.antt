-- What a call that fills a lent buffer answers, and leaves in it, by its checks; whatever the format. A layout written out is an instance.
use Rattle.std.specs.Prelude.{Result, Ok, Err, ℕ, zero, suc, ◌≤◌, ◌≡◌, Bool, List, [], ◌∷◌, ◌++◌, length, drop, eqb, leb}
use Rattle.std.proofs.Common.{arith, sym, ap, ◌∙◌, subst, ne_eqb}
use Rattle.std.proofs.Math.Path.{refl}
use Rattle.std.proofs.Math.Bool.{true, false, cond}
use Rattle.std.proofs.Math.Dec.{T}
use Rattle.model.specs.declared.Layout.{Layout}
use Rattle.model.specs.declared.refusal.Refusal.{Refusal}
use Rattle.model.specs.Answers.{number, refusal_number, told_by, as_written}
use Rattle.model.specs.Layouts.{valid}
use Rattle.model.specs.Checks.{Check, refusal, is_valid, room_for}
use Rattle.model.specs.Writing.{Format, fill_checks, fill_answer, filled, write_answer, write_of, written_bytes}
use Rattle.laws.specs.Layouts.Refusals.{when_refused, number_positive, number_told, passed_on}
use Rattle.laws.specs.Buffers.Formats.{Coded, Fits, room_tells, own_tells, fill_accepted, fill_answered, filled_whole}

-- the checks, from what the call asks
abbrev pub asks : ℕ → Bool → ℕ → ℕ → ℕ → List Check
asks short passed own long size =
    record { passes = passed; code = 11 } ∷ record { passes = eqb own 0; code = own } ∷ record { passes = leb long size; code = short } ∷ []

-- what the call has asked: of a valid layout own is the code of the format's own checks, and long how many entries it takes; code is that of the first
-- check that fails, or 0
pub record Asked (f : Format) (l : Layout) (buffer : List ℕ) (own long code : ℕ) : Type 0 where
  pub coded : Coded f
  pub own_is : T (valid l) → own ≡ refusal (f.checks l)
  pub measured : T (valid l) → long ≡ length (f.entries l)
  pub told : code ≡ refusal (asks f.short (valid l) own long (length buffer))

module _ {f : Format} {l : Layout} {buffer : List ℕ} {own long code : ℕ} (a : Asked f l buffer own long code) where
  -- of a valid layout
  behind_eleven : T (valid l)
      → cond (eqb own 0) (cond (leb long (length buffer)) 0 f.short) own
      ≡ refusal (f.checks l ++ (room_for f.short (f.entries l) buffer ∷ []))
  behind_eleven t = rw (a.measured t) (by_code own (a.own_is t))
    where
      by_code : (k : ℕ) → k ≡ refusal (f.checks l)
          → cond (eqb k 0) (cond (leb (length (f.entries l)) (length buffer)) 0 f.short) k
          ≡ refusal (f.checks l ++ (room_for f.short (f.entries l) buffer ∷ []))
      by_code zero e = sym (room_tells a.coded l buffer (sym e))
      by_code (suc k) e = rw (ne_eqb (suc k) 0 (λ z. omega arith)) (e ∙ sym (own_tells a.coded l buffer (λ z. omega arith)))

  -- the code is that of the checks
  code_is : code ≡ refusal (fill_checks f l buffer)
  unfolding is_valid refusal
  code_is = a.told ∙ by_test (valid l) refl
    where
      by_test : (b : Bool) → valid l ≡ b
          → refusal (asks f.short b own long (length buffer))
          ≡ cond b (refusal (f.checks l ++ (room_for f.short (f.entries l) buffer ∷ []))) 11
      by_test true e = behind_eleven (subst T (sym e) tt)
      by_test false e = refl

  pub fill_refused : {A : Type 0} (answer : ℕ → ℕ → A) → (code ≡ 0 → ⊥)
      → (answer code 0 ≡ fill_answer f l buffer answer) × (buffer ≡ filled f l buffer)
  fill_refused answer d = (
    sym (when_refused (fill_checks f l buffer) _ (λ r. answer r 0) code_is d),
    sym (when_refused (fill_checks f l buffer) _ (λ r. buffer) code_is d),
  )

  module _ (z : code ≡ 0) where
    -- all checks pass
    fits : Fits f l buffer
    fits = fill_accepted a.coded l buffer (sym code_is ∙ z)

    pub is_valid_lem : T (valid l)
    is_valid_lem = fits.is_valid_lem

    -- there is room for what was measured
    pub room : long ≤ length buffer
    room = rw (a.measured is_valid_lem) fits.room

    pub fill_done : {A : Type 0} (answer : ℕ → ℕ → A) {after : List ℕ} → after ≡ f.entries l ++ drop (length (f.entries l)) buffer
        → (answer 0 long ≡ fill_answer f l buffer answer) × (after ≡ filled f l buffer)
    fill_done answer e =
        let passed = sym code_is ∙ z in (
          ap (answer 0) (a.measured is_valid_lem) ∙ sym (fill_answered f l buffer passed answer),
          e ∙ sym (filled_whole f l buffer passed),
        )

-- ---- a layout written out

module _ {f : Format} {l : Layout} {buffer : List ℕ} {own long code : ℕ} (a : Asked f l buffer own long code) where
  pub refused : (code ≡ 0 → ⊥) → (record { refusal = code; length = 0 } ≡ write_of f l buffer) × (buffer ≡ written_bytes f l buffer)
  unfolding write_of written_bytes
  refused d = fill_refused a write_answer d

  pub written : code ≡ 0 → {after : List ℕ} → after ≡ f.entries l ++ drop (length (f.entries l)) buffer
      → (record { refusal = 0; length = long } ≡ write_of f l buffer) × (after ≡ written_bytes f l buffer)
  unfolding write_of written_bytes
  written z e = fill_done a z write_answer e

-- ---- the code is that of a result, which is handed on or handed back

module _ {f : Format} {l : Layout} {buffer : List ℕ} {own long : ℕ} {answer : Result (Unit {0}) Refusal}
    (a : Asked f l buffer own long (refusal_number answer)) where
  pub passed : {x : Unit {0}} → answer ≡ Ok x → refusal_number answer ≡ 0
  passed told = passed_on refl told

  module _ {e : Refusal} (told : answer ≡ Err e) where
    is : number e ≡ refusal_number answer
    is = number_told refl told

    fails : refusal_number answer ≡ 0 → ⊥
    fails z = number_positive e (is ∙ z)

    pub fill_back : {A : Type 0} (give : ℕ → ℕ → A) → (give (number e) 0 ≡ fill_answer f l buffer give) × (buffer ≡ filled f l buffer)
    fill_back give = let t = fill_refused a give fails in (ap (λ (k : ℕ). give k 0) is ∙ t.0, t.1)

    -- of a layout written out
    pub handed_back : (as_written (Err e) ≡ write_of f l buffer) × (buffer ≡ written_bytes f l buffer)
    unfolding as_written told_by
    handed_back = let t = refused a fails in (ap (λ (k : ℕ). write_answer k 0) is ∙ t.0, t.1)
