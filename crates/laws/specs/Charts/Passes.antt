-- A reader's passes, one after the other: what an answer says of the questions of its pass, and what the reader gives by them.
use Prim.Native.Nat.{ℕ, zero, suc, ◌<◌}
use Rattle.std.proofs.Common.{not-suc-le-zero, ◌∙◌, true≢false}
use Rattle.std.specs.Prelude.{Result, Ok, Err, ◌≡◌, Bool, true, false, cond}
use Rattle.std.proofs.Math.Path.{refl, sym, ap}
use Rattle.std.proofs.lemmas.Bool.{false≢true}
use mathlib.Core.List.{List, [], ◌∷◌, ◌++◌}
use Rattle.model.specs.Answers.{LayoutRead, number}
use Rattle.model.specs.declared.refusal.Refusal.{Refusal}
use Rattle.model.specs.declared.Layout.{Layout}
use Rattle.model.specs.Layouts.{empty_layout, table_weight}
use Rattle.model.specs.Checks.{Check, refusal, by_refusal, checked}
use Rattle.model.specs.Charts.{Answer, accept, refuse, asked, size_found, answer, read_as}
use Rattle.laws.specs.Sums.Lists.{All, none, also}
use Rattle.laws.specs.Tables.Counts.{counted}
use Rattle.laws.specs.Layouts.Sizes.{Sized, empty_sized}
use Rattle.laws.specs.Layouts.Refusals.{Numbered, checked_either, checked_number, when_accepted, when_refused}

-- ---- questions, one group after the other

pub checked_append : {A : Type 0} {xs : List Check} → Numbered xs → (ys : List Check) (a : A) (f : ℕ → A)
    → checked (xs ++ ys) a f ≡ by_refusal (refusal xs) (checked ys a f) f
unfolding checked refusal by_refusal
checked_append none ys a f = refl
checked_append {A} (also {x} {xs} p ps) ys a f = by_test x.passes (checked_append ps ys a f)
  where
    same_number : (k : ℕ) → 0 < k → (y : A) → by_refusal k a f ≡ by_refusal k y f
    same_number zero l y = absurd (not-suc-le-zero l)
    same_number (suc k) l y = refl

    by_test : (b : Bool) → checked (xs ++ ys) a f ≡ by_refusal (refusal xs) (checked ys a f) f
        → by_refusal (cond b (refusal (xs ++ ys)) x.code) a f ≡ by_refusal (cond b (refusal xs) x.code) (checked ys a f) f
    by_test true e = e
    by_test false e = same_number x.code p (checked ys a f)

-- what an answer says of the questions of its pass
module _ (cs : List Check) (values : List ℕ) {a : Answer} where
  pub answer_accepted : a ≡ answer cs values → a.accepted ≡ true → (refusal cs ≡ 0) × (a.values ≡ values)
  unfolding answer checked by_refusal accept refuse
  answer_accepted e t = by_number (refusal cs) e
    where
      by_number : (k : ℕ) → a ≡ by_refusal k (accept values) refuse → (k ≡ 0) × (a.values ≡ values)
      by_number zero z = (refl, ap (λ (x : Answer). x.values) z)
      by_number (suc k) z = absurd (false≢true (sym (ap (λ (x : Answer). x.accepted) z) ∙ t))

  pub answer_refused : {A : Type 0} → a ≡ answer cs values → a.accepted ≡ false → (x : A) (f : ℕ → A) → by_refusal (refusal cs) x f ≡ f a.code
  unfolding answer checked by_refusal accept refuse
  answer_refused {A} e t x f = by_number (refusal cs) e
    where
      by_number : (k : ℕ) → a ≡ by_refusal k (accept values) refuse → by_refusal k x f ≡ f a.code
      by_number zero z = absurd (true≢false (sym (ap (λ (y : Answer). y.accepted) z) ∙ t))
      by_number (suc k) z = ap f (sym (ap (λ (y : Answer). y.code) z))

-- ---- a pass, and what follows it

unfoldable pub refused_read : ℕ → LayoutRead
refused_read r = record { refusal = r; layout = empty_layout }

abbrev pub accepted_read : Layout → LayoutRead
accepted_read l = record { refusal = 0; layout = l }

-- with the crossings that the counter counts
abbrev pub counted_layout : ℕ → List ℕ → List ℕ → List ℕ → Layout
counted_layout n order adj ws = record { n = n; order = order; adjacency = adj; weights = ws; count = counted n order (table_weight ws) }

-- what a reader gives, by the number of the first question that fails
module _ (checks : List Check) (l : Layout) where
  pub read_as_number : (read_as checks l).refusal ≡ refusal checks
  unfolding refused_read
  read_as_number = checked_number checks (accepted_read l) refused_read (λ (r : LayoutRead). r.refusal) refl (λ r. refl)

  pub read_as_accepted : (read_as checks l).refusal ≡ 0 → read_as checks l ≡ accepted_read l
  unfolding refused_read
  read_as_accepted e = when_accepted checks (accepted_read l) refused_read (sym read_as_number ∙ e)

  pub read_as_refused : ((read_as checks l).refusal ≡ 0 → ⊥) → read_as checks l ≡ refused_read (read_as checks l).refusal
  unfolding refused_read
  read_as_refused d = when_refused checks (accepted_read l) refused_read read_as_number d

  -- the arrays have their places
  pub read_as_sized : Sized l → Sized (read_as checks l).layout
  unfolding refused_read
  read_as_sized s = checked_either checks (accepted_read l) refused_read (λ (r : LayoutRead). Sized r.layout) (λ e. s) (λ k. empty_sized)

-- the questions of a pass, the others, and what is answered where all pass
module _ {xs : List Check} (m : Numbered xs) (values : List ℕ) (ys : List Check) (x : LayoutRead) {a : Answer} where
  pub pass_accepted : a ≡ answer xs values → a.accepted ≡ true → checked ys x refused_read ≡ checked (xs ++ ys) x refused_read
  unfolding by_refusal
  pass_accepted e t =
      sym
      (checked_append m ys x refused_read
      ∙ ap (λ (k : ℕ). by_refusal k (checked ys x refused_read) refused_read) (answer_accepted xs values e t).0)

  pub pass_refused : a ≡ answer xs values → a.accepted ≡ false → refused_read a.code ≡ checked (xs ++ ys) x refused_read
  pass_refused e t = sym (checked_append m ys x refused_read ∙ answer_refused xs values e t (checked ys x refused_read) refused_read)

-- of a pass that finds nothing but its answer
module _ {r : Result (Unit {0}) Refusal} where
  pub asked_passed : {x : Unit {0}} → r ≡ Ok x → (asked r).accepted ≡ true
  unfolding asked accept
  asked_passed told = ap (λ (y : Result (Unit {0}) Refusal). (asked y).accepted) told

  module _ {xs : List Check} (m : Numbered xs) (ys : List Check) (x : LayoutRead) where
    pub asked_on : {y : Unit {0}} → r ≡ Ok y → asked r ≡ answer xs [] → checked ys x refused_read ≡ checked (xs ++ ys) x refused_read
    asked_on told said = pass_accepted m [] ys x said (asked_passed told)

    pub asked_back : {e : Refusal} → r ≡ Err e → asked r ≡ answer xs [] → refused_read (number e) ≡ checked (xs ++ ys) x refused_read
    unfolding asked refuse
    asked_back told said = pass_refused m [] ys x (ap asked (sym told) ∙ said) refl

-- the last of the questions passes
pub last_passes : {c : Check} → All (λ c. c.passes ≡ true) (c ∷ []) → c.passes ≡ true
last_passes (also p none) = p
