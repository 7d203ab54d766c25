-- The first check that fails, and what an accepted call has passed.
use Prim.Native.Nat.{ℕ, zero, suc, ◌≤◌, ◌<◌}
use Rattle.std.proofs.Common.{arith, ◌∙◌, subst, eqb→eq, lt→ltb, ltb-true}
use Rattle.std.proofs.Math.Decide.{ℕ_discrete}
use Rattle.std.specs.Prelude.{Result, Ok, Err, ◌≡◌, Bool, true, false, not, eqb}
use Rattle.std.proofs.Math.Path.{refl, sym, ap}
use Rattle.std.proofs.Math.Bool.{cond}
use mathlib.Core.List.{List, [], ◌∷◌, ◌++◌}
use Rattle.std.proofs.Math.Dec.{T, not_T}
use Rattle.std.proofs.lemmas.Bool.{eqb-false, not-true}
use Rattle.model.specs.declared.Layout.{Layout}
use Rattle.model.specs.declared.refusal.Refusal.{Refusal}
use Rattle.model.specs.declared.refusal.Refusal.TheVariants as because
use Rattle.model.specs.Answers.{Changed, number, refusal_number, told_by, as_changed}
use Rattle.model.specs.Crossings.{linked}
use Rattle.model.specs.Layouts.{is_weight, valid}
use Rattle.model.specs.Checks.{Check, refusal, by_refusal, checked, is_valid, is_vertex, differ, is_unlinked, is_linked, weighs}
use Rattle.model.specs.Edits.{changed_to, change_refused, changed_or, move_checks, link_checks, unlink_checks}
use Rattle.laws.specs.Sums.Indicators.{T_true}
use Rattle.laws.specs.Sums.Lists.{All, none, also}
use Rattle.laws.specs.Tables.Fits.{IsWeight, is_weight_lem}
use Rattle.laws.specs.Layouts.Validity.{sound}

-- ---- lists of checks

pub record Passed (c : Check) (cs : List Check) : Type 0 where
  pub passes : c.passes ≡ true
  pub rest : refusal cs ≡ 0

pub passed : (c : Check) (cs : List Check) → 0 < c.code → refusal (c ∷ cs) ≡ 0 → Passed c cs
unfolding refusal
passed c cs h e = by_test c.passes refl e
  where
    by_test : (b : Bool) → c.passes ≡ b → cond b (refusal cs) c.code ≡ 0 → Passed c cs
    by_test true p z = record { passes = p; rest = z }
    by_test false p z = absurd (omega arith)

-- each has a number
abbrev pub Numbered : List Check → Type 0
Numbered cs = All (λ c. 0 < c.code) cs

-- where no number comes out, each passes
pub all_pass : {cs : List Check} → Numbered cs → refusal cs ≡ 0 → All (λ c. c.passes ≡ true) cs
all_pass none e = none
all_pass (also {x = c} {xs = cs} p ps) e = let first = passed c cs p e in also first.passes (all_pass ps first.rest)

-- and where each passes, none does
pub all_passed : {cs : List Check} → All (λ c. T c.passes) cs → refusal cs ≡ 0
unfolding refusal
all_passed none = refl
all_passed (also {x = c} {xs = cs} t ts) = ap (λ (b : Bool). cond b (refusal cs) c.code) (T_true c.passes t) ∙ all_passed ts

-- one check more, behind checks that pass, and behind one that fails
pub one_more : {cs : List Check} (c : Check) → Numbered cs → refusal cs ≡ 0 → refusal (cs ++ (c ∷ [])) ≡ cond c.passes 0 c.code
unfolding refusal
one_more c none z = refl
one_more c (also {x = d} {xs = cs} p ps) z =
    let first = passed d cs p z in
    ap (λ (b : Bool). cond b (refusal (cs ++ (c ∷ []))) d.code) first.passes ∙ one_more c ps first.rest

pub failed_before : (cs : List Check) (c : Check) → (refusal cs ≡ 0 → ⊥) → refusal (cs ++ (c ∷ [])) ≡ refusal cs
unfolding refusal
failed_before [] c n = absurd (n refl)
failed_before (d ∷ cs) c n = by_test d.passes n (failed_before cs c)
  where
    by_test : (b : Bool) → (cond b (refusal cs) d.code ≡ 0 → ⊥) → ((refusal cs ≡ 0 → ⊥) → refusal (cs ++ (c ∷ [])) ≡ refusal cs)
        → cond b (refusal (cs ++ (c ∷ []))) d.code ≡ cond b (refusal cs) d.code
    by_test true m r = r m
    by_test false m r = refl

-- behind checks that pass, one check more is asked alone
pub one_more_rest : (cs : List Check) (c : Check) → refusal cs ≡ 0 → Numbered cs → refusal (cs ++ (c ∷ [])) ≡ refusal (c ∷ [])
unfolding refusal
one_more_rest cs c z p = one_more c p z

-- a check that passes behind others tells nothing
pub behind_passes : (cs : List Check) (c : Check) → c.passes ≡ true → refusal (cs ++ (c ∷ [])) ≡ refusal cs
unfolding refusal
behind_passes [] c p = rw p
behind_passes (d ∷ cs) c p = ap (λ (r : ℕ). cond d.passes r d.code) (behind_passes cs c p)

-- where no check fails, none of the first ones does
pub passed_before : (cs : List Check) (c : Check) → refusal (cs ++ (c ∷ [])) ≡ 0 → refusal cs ≡ 0
passed_before cs c e = elim (ℕ_discrete (refusal cs) 0) [ yes z ↦ z | no n ↦ sym (failed_before cs c n) ∙ e ]

-- ---- what a call answers

pub by_number : {A : Type 0} (r : ℕ) (accepted : A) (refused : ℕ → A) → (r ≡ 0 → ⊥) → by_refusal r accepted refused ≡ refused r
unfolding by_refusal
by_number zero accepted refused n = absurd (n refl)
by_number (suc r) accepted refused n = refl

module _ {A : Type 0} (cs : List Check) (accepted : A) (refused : ℕ → A) where
  pub when_accepted : refusal cs ≡ 0 → checked cs accepted refused ≡ accepted
  unfolding checked by_refusal
  when_accepted e = ap (λ (r : ℕ). by_refusal r accepted refused) e

  pub when_refused : {r : ℕ} → r ≡ refusal cs → (r ≡ 0 → ⊥) → checked cs accepted refused ≡ refused r
  unfolding checked by_refusal
  when_refused {r} e n = ap (λ (k : ℕ). by_refusal k accepted refused) (sym e) ∙ by_number r accepted refused n

  -- the number that comes back is that of the checks
  pub checked_number : (number : A → ℕ) → number accepted ≡ 0 → ((r : ℕ) → number (refused r) ≡ r)
      → number (checked cs accepted refused) ≡ refusal cs
  unfolding checked by_refusal
  checked_number number z s = from (refusal cs)
    where
      from : (r : ℕ) → number (by_refusal r accepted refused) ≡ r
      from zero = z
      from (suc r) = s (suc r)

  -- what holds of the answer of an accepted call and of each refusal holds of the answer
  pub checked_either : (P : A → Type 0) → (refusal cs ≡ 0 → P accepted) → ((r : ℕ) → P (refused r)) → P (checked cs accepted refused)
  unfolding checked by_refusal
  checked_either P a r = from (refusal cs) refl
    where
      from : (k : ℕ) → refusal cs ≡ k → P (by_refusal k accepted refused)
      from zero e = a e
      from (suc k) e = r (suc k)

  -- another call with the same checks and refusals: what holds of the two where both are accepted, and of each refusal, holds of their answers
  pub checked_both : (P : A → A → Type 0) (other : A) → (refusal cs ≡ 0 → P accepted other) → ((r : ℕ) → P (refused (suc r)) (refused (suc r)))
      → P (checked cs accepted refused) (checked cs other refused)
  unfolding checked by_refusal
  checked_both P other a r = from (refusal cs) refl
    where
      from : (k : ℕ) → refusal cs ≡ k → P (by_refusal k accepted refused) (by_refusal k other refused)
      from zero e = a e
      from (suc k) e = r k

-- ---- what a result says

-- no refusal has the number of an accepted call
pub number_positive : (r : Refusal) → number r ≡ 0 → ⊥
unfolding number
number_positive because.TooLong e = omega arith
number_positive because.Undivided e = omega arith
number_positive because.WrongTags e = omega arith
number_positive because.NoSize e = omega arith
number_positive because.OddLinks e = omega arith
number_positive because.NoEdge e = omega arith
number_positive because.RepeatedEdge e = omega arith
number_positive because.NoOrder e = omega arith
number_positive because.NotValid e = omega arith
number_positive because.NoVertex e = omega arith
number_positive because.SameVertex e = omega arith
number_positive because.Joined e = omega arith
number_positive because.NotJoined e = omega arith
number_positive because.Full e = omega arith
number_positive because.WrongLimit e = omega arith
number_positive because.ShortOrder e = omega arith
number_positive because.ShortBuffer e = omega arith
number_positive because.NoGraphSize e = omega arith
number_positive because.WrongBits e = omega arith
number_positive because.PaddingSet e = omega arith
number_positive because.ShortTable e = omega arith
number_positive because.WeightCount e = omega arith
number_positive because.ZeroWeight e = omega arith
number_positive because.Weighted e = omega arith
number_positive because.NotSmall e = omega arith
number_positive because.NoSuchOrder e = omega arith

-- and no two have one number: the numbers tell the refusals apart
numbered : ℕ → Refusal
numbered n =
    cond (eqb n 1) because.TooLong
    (cond (eqb n 2) because.Undivided
    (cond (eqb n 3) because.WrongTags
    (cond (eqb n 4) because.NoSize
    (cond (eqb n 5) because.OddLinks
    (cond (eqb n 6) because.NoEdge
    (cond (eqb n 7) because.RepeatedEdge
    (cond (eqb n 8) because.NoOrder
    (cond (eqb n 11) because.NotValid
    (cond (eqb n 12) because.NoVertex
    (cond (eqb n 13) because.SameVertex
    (cond (eqb n 14) because.Joined
    (cond (eqb n 15) because.NotJoined
    (cond (eqb n 16) because.Full
    (cond (eqb n 17) because.WrongLimit
    (cond (eqb n 18) because.ShortOrder
    (cond (eqb n 19) because.ShortBuffer
    (cond (eqb n 20) because.NoGraphSize
    (cond (eqb n 21) because.WrongBits
    (cond (eqb n 22) because.PaddingSet
    (cond (eqb n 23) because.ShortTable
    (cond (eqb n 24) because.WeightCount
    (cond (eqb n 25) because.ZeroWeight
    (cond (eqb n 26) because.Weighted
    (cond (eqb n 27) because.NotSmall because.NoSuchOrder))))))))))))))))))))))))

pub number_tells : {r s : Refusal} → number r ≡ number s → r ≡ s
unfolding number numbered
number_tells {r} {s} e = sym (back r) ∙ ap numbered e ∙ back s
  where
    back : (r : Refusal) → numbered (number r) ≡ r
    back because.TooLong = refl
    back because.Undivided = refl
    back because.WrongTags = refl
    back because.NoSize = refl
    back because.OddLinks = refl
    back because.NoEdge = refl
    back because.RepeatedEdge = refl
    back because.NoOrder = refl
    back because.NotValid = refl
    back because.NoVertex = refl
    back because.SameVertex = refl
    back because.Joined = refl
    back because.NotJoined = refl
    back because.Full = refl
    back because.WrongLimit = refl
    back because.ShortOrder = refl
    back because.ShortBuffer = refl
    back because.NoGraphSize = refl
    back because.WrongBits = refl
    back because.PaddingSet = refl
    back because.ShortTable = refl
    back because.WeightCount = refl
    back because.ZeroWeight = refl
    back because.Weighted = refl
    back because.NotSmall = refl
    back because.NoSuchOrder = refl

-- what is answered with a refusal whose number is that of the checks
pub refused_by : {A : Type 0} (cs : List Check) (accepted : A) (refused : ℕ → A) (e : Refusal) → number e ≡ refusal cs
    → refused (number e) ≡ checked cs accepted refused
refused_by cs accepted refused e told = sym (when_refused cs accepted refused told (number_positive e))

module _ {T : Type 0} {answer : Result T Refusal} where
  -- where a result passes on, no check failed; where it refuses, that is the number of the check
  module _ {k : ℕ} (said : refusal_number answer ≡ k) where
    pub passed_on : {x : T} → answer ≡ Ok x → k ≡ 0
    unfolding refusal_number
    passed_on told = sym said ∙ ap refusal_number told

    pub number_told : {e : Refusal} → answer ≡ Err e → number e ≡ k
    unfolding refusal_number
    number_told told = ap refusal_number (sym told) ∙ said

  pub handed_back : {A : Type 0} (cs : List Check) (accepted : A) (refused : ℕ → A) → refusal_number answer ≡ refusal cs
      → {e : Refusal} → answer ≡ Err e → refused (number e) ≡ checked cs accepted refused
  handed_back cs accepted refused said {e} told = refused_by cs accepted refused e (number_told said told)

  -- the first check has failed, whatever others follow
  pub first_failed : (c : Check) (cs : List Check) → refusal_number answer ≡ refusal (c ∷ []) → {e : Refusal} → answer ≡ Err e
      → number e ≡ refusal (c ∷ cs)
  unfolding refusal
  first_failed c cs said {e} told = by_test c.passes (number_told said told)
    where
      by_test : (b : Bool) → number e ≡ cond b 0 c.code → number e ≡ cond b (refusal cs) c.code
      by_test true z = absurd (number_positive e z)
      by_test false z = z

-- ---- calls on a layout

pub valid_passed : (l : Layout) (cs : List Check) → refusal (is_valid l ∷ cs) ≡ 0 → T (valid l) × (refusal cs ≡ 0)
unfolding is_valid
valid_passed l cs e = let first = passed (is_valid l) cs (omega arith) e in (subst T (sym first.passes) tt, first.rest)

pub vertex_passed : (l : Layout) (v : ℕ) → refusal (is_valid l ∷ is_vertex l v ∷ []) ≡ 0 → T (valid l) × (v < l.n)
unfolding is_vertex
vertex_passed l v e =
    let first = valid_passed l (is_vertex l v ∷ []) e in
    (first.0, ltb-true v l.n (passed (is_vertex l v) [] (omega arith) first.1).passes)

-- ---- calls with two named vertices

-- the checks that link, unlink and move share have passed
pub record Pair (l : Layout) (a b : ℕ) : Type 0 where
  pub is_valid_lem : T (valid l)
  pub first : a < l.n
  pub second : b < l.n
  pub different : a ≡ b → ⊥

codes_positive : (l : Layout) (a b : ℕ) → Numbered (move_checks l a b)
unfolding move_checks is_valid is_vertex differ
codes_positive l a b =
    also {x = is_valid l} (omega arith) (also {x = is_vertex l a} (omega arith)
    (also {x = is_vertex l b} (omega arith) (also {x = differ a b} (omega arith) none)))

pub pair_passed : (l : Layout) (a b : ℕ) → refusal (move_checks l a b) ≡ 0 → Pair l a b
unfolding move_checks is_vertex differ
pair_passed l a b e =
    let p₁ = valid_passed l (is_vertex l a ∷ is_vertex l b ∷ differ a b ∷ []) e in
    let p₂ = passed (is_vertex l a) (is_vertex l b ∷ differ a b ∷ []) (omega arith) p₁.1 in
    let p₃ = passed (is_vertex l b) (differ a b ∷ []) (omega arith) p₂.rest in
    let p₄ = passed (differ a b) [] (omega arith) p₃.rest in
    record {
      is_valid_lem = p₁.0;
      first = ltb-true a l.n p₂.passes;
      second = ltb-true b l.n p₃.passes;
      different = eqb-false a b (not-true (eqb a b) p₄.passes);
    }

pub passed_pair : (l : Layout) (a b : ℕ) → Pair l a b → refusal (move_checks l a b) ≡ 0
unfolding move_checks is_valid is_vertex differ
passed_pair l a b p =
    all_passed
    (also p.is_valid_lem
    (also (lt→ltb a l.n p.first) (also (lt→ltb b l.n p.second) (also (not_T (eqb a b) (λ e. p.different (eqb→eq a b e))) none))))

-- the last checks of link and the last of unlink behind those
module _ (l : Layout) (a b : ℕ) where
  abbrev join_checks : List Check
  join_checks = move_checks l a b ++ (is_unlinked l a b ∷ [])

  join_positive : Numbered join_checks
  unfolding move_checks is_valid is_vertex differ is_unlinked
  join_positive =
      also {x = is_valid l} (omega arith) (also {x = is_vertex l a} (omega arith)
      (also {x = is_vertex l b} (omega arith) (also {x = differ a b} (omega arith) (also {x = is_unlinked l a b} (omega arith) none))))

  -- 14 and 25 where the shared checks pass, by what the two tests say
  pub link_last : (w : ℕ) {joined light : Bool} → refusal (move_checks l a b) ≡ 0 → not (linked l.adjacency a b) ≡ joined → is_weight w ≡ light
      → refusal (link_checks l a b w) ≡ cond joined (cond light 0 25) 14
  unfolding link_checks move_checks is_unlinked weighs
  link_last w {joined} {light} e f g = by_test joined f
    where
      last : refusal join_checks ≡ cond (not (linked l.adjacency a b)) 0 14
      last = one_more (is_unlinked l a b) (codes_positive l a b) e

      by_test : (j : Bool) → not (linked l.adjacency a b) ≡ j → refusal (join_checks ++ (weighs w ∷ [])) ≡ cond j (cond light 0 25) 14
      by_test true h =
          one_more (weighs w) join_positive (last ∙ ap (λ (x : Bool). cond x 0 14) h) ∙ ap (λ (x : Bool). cond x 0 25) g
      by_test false h =
          let there : refusal join_checks ≡ 14 = last ∙ ap (λ (x : Bool). cond x 0 14) h in
          failed_before join_checks (weighs w) (λ z. omega arith) ∙ there

  pub link_before : (w : ℕ) {r : ℕ} → r ≡ refusal (move_checks l a b) → (r ≡ 0 → ⊥) → r ≡ refusal (link_checks l a b w)
  unfolding link_checks move_checks
  link_before w e n =
      let joined = failed_before (move_checks l a b) (is_unlinked l a b) (λ z. n (e ∙ z)) in
      e ∙ sym joined ∙ sym (failed_before join_checks (weighs w) (λ z. n (e ∙ sym joined ∙ z)))

  pub unlink_last : refusal (move_checks l a b) ≡ 0 → refusal (unlink_checks l a b) ≡ cond (linked l.adjacency a b) 0 15
  unfolding unlink_checks move_checks is_linked
  unlink_last e = one_more (is_linked l a b) (codes_positive l a b) e

  pub unlink_before : {r : ℕ} → r ≡ refusal (move_checks l a b) → (r ≡ 0 → ⊥) → r ≡ refusal (unlink_checks l a b)
  unfolding unlink_checks move_checks
  unlink_before e n = e ∙ sym (failed_before (move_checks l a b) (is_linked l a b) (λ z. n (e ∙ z)))

  -- an accepted link or unlink has passed the shared checks, and a link has a weight
  pub link_pair : (w : ℕ) → refusal (link_checks l a b w) ≡ 0 → Pair l a b
  unfolding link_checks move_checks
  link_pair w e = pair_passed l a b (passed_before (move_checks l a b) (is_unlinked l a b) (passed_before join_checks (weighs w) e))

  pub link_weight : (w : ℕ) → refusal (link_checks l a b w) ≡ 0 → IsWeight w
  unfolding link_checks move_checks weighs
  link_weight w e =
      let joined = passed_before join_checks (weighs w) e in
      is_weight_lem (subst T (sym (passed (weighs w) [] (omega arith) (sym (one_more_rest join_checks (weighs w) joined join_positive) ∙ e)).passes) tt)

  pub unlink_pair : refusal (unlink_checks l a b) ≡ 0 → Pair l a b
  unfolding unlink_checks move_checks
  unlink_pair e = pair_passed l a b (passed_before (move_checks l a b) (is_linked l a b) e)

-- the named vertices are places of the arrays
pub within_capacity : {l : Layout} {a b : ℕ} → Pair l a b → (a < 64) × (b < 64)
within_capacity {l} {a} {b} p =
    let small : l.n ≤ 64 = (sound l p.is_valid_lem).small in
    (omega (arith, p.first), omega (arith, p.second))

-- ---- answers that hold a layout and a refusal code

-- an accepted call, and a refused one
module _ (l : Layout) (cs : List Check) (next : Layout) where
  pub changed_number : (changed_or l cs next).refusal ≡ refusal cs
  unfolding changed_or
  changed_number = checked_number cs (changed_to next) (change_refused l) (λ (c : Changed). c.refusal) refl (λ r. refl)

  pub changed_refused : {r : ℕ} → r ≡ refusal cs → (r ≡ 0 → ⊥) → change_refused l r ≡ changed_or l cs next
  unfolding changed_or
  changed_refused e n = sym (when_refused cs (changed_to next) (change_refused l) e n)

  pub changed_accepted : {m : Layout} → refusal cs ≡ 0 → m ≡ next → changed_to m ≡ changed_or l cs next
  unfolding changed_or
  changed_accepted z e = ap changed_to e ∙ sym (when_accepted cs (changed_to next) (change_refused l) z)

  -- what holds of the layout before and, where no check fails, of the next holds of the layout that is answered
  pub changed_either : (P : Layout → Type 0) → (refusal cs ≡ 0 → P next) → P l → P (changed_or l cs next).layout
  unfolding changed_or
  changed_either P a r = checked_either cs (changed_to next) (change_refused l) (λ (c : Changed). P c.layout) a (λ k. r)
