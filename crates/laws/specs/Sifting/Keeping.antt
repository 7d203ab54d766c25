-- What is kept of candidates gone through one after the other: the least number of those so far, the first that has it, and how many have it (document 02,
-- Note 5). Candidate i has the number f i, and top is more than any of them.
use Prim.Native.Nat.{ℕ, zero, suc, ◌+◌, ◌≤◌, ◌<◌, suc-le-suc}
use Rattle.std.proofs.Common.{le_refl, le_trans, le_antisymm, le_of_eq, le_of_suc-le-suc, not-suc-le-zero, add-one, arith, ap, ◌∙◌, below_more, eq-eqb, ne_eqb}
use Rattle.std.proofs.Math.Nat.{le-min}
use Rattle.std.specs.Prelude.{◌≡◌, refl, Bool, true, false, List, [], ◌∷◌, length, get_or, eqb}
use Rattle.std.proofs.Math.Path.{sym, ap₂}
use Rattle.model.specs.Lists.{one, first_with}
use Rattle.model.specs.Search.{least, count_with}
use Rattle.laws.specs.Sums.Indicators.{less, same, more, order, one_eq, one_ne}
use Rattle.laws.specs.Sums.Ranges.{sum, sum_ext, sum_zero}
use Rattle.laws.specs.Sums.Lists.{all_at, sum_over_places}
use Rattle.laws.specs.Sifting.LocalSearch.{least_each}

-- of the first k candidates
pub record BestOf (top : ℕ) (f : ℕ → ℕ) (k fewest first number : ℕ) : Type 0 where
  -- their least number
  pub below : (i : ℕ) → i < k → fewest ≤ f i
  -- the first that has it
  pub has : 0 < k → (first < k) × (f first ≡ fewest)
  pub earlier : (i : ℕ) → i < first → fewest < f i
  -- how many have it
  pub counted : number ≡ sum k (λ i. one (eqb (f i) fewest))
  pub none_yet : k ≡ 0 → fewest ≡ top

module _ {top : ℕ} {f : ℕ → ℕ} where
  pub best_start : BestOf top f 0 top 0 0
  unfolding sum
  best_start =
      record {
        below = λ i l. absurd (not-suc-le-zero l);
        has = λ l. absurd (not-suc-le-zero l);
        earlier = λ i l. absurd (not-suc-le-zero l);
        counted = refl;
        none_yet = λ e. refl;
      }

  -- one candidate more, whose number is c: a smaller one takes the place of what is kept, an equal one stands beside it
  module _ {k c fewest first number : ℕ} (s : BestOf top f k fewest first number) (e : c ≡ f k) where
    pub best_taken : c < fewest → BestOf top f (suc k) c k 1
    unfolding sum
    best_taken l =
        record {
          below = rw (add-one k) at (below_more (λ i. c ≤ f i) k (λ i b. omega (arith, s.below i b)) (le_of_eq e));
          has = λ b. (le_refl (suc k), sym e);
          earlier = λ i b. omega (arith, s.below i b);
          counted =
              sym (ap₂ ◌+◌ (sum_zero k (λ i. one (eqb (f i) c)) (λ i b. one_ne (f i) c (λ d. omega (arith, s.below i b)))) (one_eq (f k) c (sym e)));
          none_yet = λ z. absurd (omega arith);
        }

    pub best_left : c < top → fewest ≤ c → BestOf top f (suc k) fewest first (number + one (eqb c fewest))
    unfolding sum
    best_left h l =
        let some : 0 < k = elim (order 0 k) [ less b ↦ b | same z ↦ absurd (omega (arith, s.none_yet (sym z))) | more b ↦ absurd (not-suc-le-zero b) ] in
        record {
          below = rw (add-one k) at (below_more (λ i. fewest ≤ f i) k s.below (le_trans l (le_of_eq e)));
          has = λ b. (omega (arith, (s.has some).0), (s.has some).1);
          earlier = s.earlier;
          counted = ap₂ ◌+◌ s.counted (ap (λ (x : ℕ). one (eqb x fewest)) e);
          none_yet = λ z. absurd (omega arith);
        }

-- the same candidates, their numbers said otherwise
pub best_as : {top : ℕ} {f g : ℕ → ℕ} {k fewest first number : ℕ} → ((i : ℕ) → f i ≡ g i) → BestOf top f k fewest first number
    → BestOf top g k fewest first number
best_as {f = f} {g} {k} {fewest} {first} e s =
    record {
      below = λ i l. rw (← e i) (s.below i l);
      has = λ l. ((s.has l).0, sym (e first) ∙ (s.has l).1);
      earlier = λ i l. rw (← e i) (s.earlier i l);
      counted = s.counted ∙ sum_ext k (λ i. one (eqb (f i) fewest)) (λ i. one (eqb (g i) fewest)) (λ i l. rw (e i));
      none_yet = s.none_yet;
    }

-- numbered otherwise: each number with a added is the other one with b added
same_shift : (a b x y p q : ℕ) → x + a ≡ b + y → p + a ≡ b + q → one (eqb x p) ≡ one (eqb y q)
same_shift a b x y p q e d =
    elim (order x p) [
      | less l ↦ one_ne x p (λ k. omega arith) ∙ sym (one_ne y q (λ k. omega arith))
      | same k ↦ one_eq x p k ∙ sym (one_eq y q (omega arith))
      | more l ↦ one_ne x p (λ k. omega arith) ∙ sym (one_ne y q (λ k. omega arith))
    ]

pub best_shifted : {top : ℕ} {f g : ℕ → ℕ} (a b : ℕ) {k fewest first number : ℕ} → ((i : ℕ) → i < k → f i + a ≡ b + g i) → 0 < k
    → BestOf top f k fewest first number → BestOf top g k (g first) first number
best_shifted {f = f} {g} a b {k} {fewest} {first} e some s =
    let there = s.has some in
    let here : fewest + a ≡ b + g first = ap (λ (x : ℕ). x + a) (sym there.1) ∙ e first there.0 in
    record {
      below = λ i l. omega (arith, here, e i l, s.below i l);
      has = λ l. (there.0, refl);
      earlier = λ i l. omega (arith, here, e i (omega (arith, there.0)), s.earlier i l);
      counted =
          s.counted
          ∙ sum_ext k (λ i. one (eqb (f i) fewest)) (λ i. one (eqb (g i) (g first))) (λ i l. same_shift a b (f i) (g i) fewest (g first) (e i l) here);
      none_yet = λ z. absurd (omega arith);
    }

-- of no candidates
pub best_none : {top : ℕ} {f : ℕ → ℕ} {k fewest first number : ℕ} → 0 ≡ k → BestOf top f k fewest first number → number ≡ 0
unfolding sum
best_none {f = f} {fewest = fewest} z s = s.counted ∙ ap (λ (m : ℕ). sum m (λ i. one (eqb (f i) fewest))) (sym z)

-- ---- of all candidates

-- the first entry that passes, by its place
first_at : {A : Type 0} (p : A → Bool) (d e : A) (xs : List A) (k : ℕ) → k < length xs → ((i : ℕ) → i < k → p (get_or xs i e) ≡ false)
    → p (get_or xs k e) ≡ true → first_with p d xs ≡ get_or xs k e
unfolding first_with
first_at p d e [] k h before here = absurd (not-suc-le-zero h)
first_at p d e (x ∷ xs) zero h before here = rw here
first_at p d e (x ∷ xs) (suc k) h before here =
    rw (before 0 (omega arith)) (first_at p d e xs k (le_of_suc-le-suc h) (λ i l. before (suc i) (suc-le-suc l)) here)

-- a number that no entry is below
pub least_over : {A : Type 0} (f : A → ℕ) (d k : ℕ) (e : A) (xs : List A) → k ≤ d → ((i : ℕ) → i < length xs → k ≤ f (get_or xs i e)) → k ≤ least f d xs
unfolding least
least_over f d k e [] h l = h
least_over f d k e (x ∷ xs) h l = le-min (l 0 (omega arith)) (least_over f d k e xs h (λ i b. l (suc i) (suc-le-suc b)))

-- cs are the candidates; d stands for those beyond the last
module _ {A : Type 0} (f : A → ℕ) (cs : List A) (d : A) {top fewest first number : ℕ}
    (s : BestOf top (λ i. f (get_or cs i d)) (length cs) fewest first number) where
  pub number_kept : number ≡ count_with f fewest cs
  unfolding count_with
  number_kept = s.counted ∙ sym (sum_over_places (λ c. one (eqb (f c) fewest)) d cs)

  module _ (some : 0 < length cs) where
    pub first_kept : (o : A) → first_with (λ c. eqb (f c) fewest) o cs ≡ get_or cs first d
    first_kept o =
        first_at (λ c. eqb (f c) fewest) o d cs first (s.has some).0
        (λ i l. ne_eqb (f (get_or cs i d)) fewest (λ e. omega (arith, s.earlier i l)))
        (eq-eqb (f (get_or cs first d)) fewest (s.has some).1)

    pub least_kept : {before : ℕ} → fewest ≤ before → fewest ≡ least f before cs
    least_kept {before} h =
        le_antisymm (least_over f before fewest d cs h s.below)
        (le_trans (all_at d (least_each f before cs) first (s.has some).0) (le_of_eq (s.has some).1))
