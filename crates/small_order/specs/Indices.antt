-- The vertex that an index names among the unplaced ones, and the order that it leads to.
use Prim.Native.Nat.{ℕ, zero, suc, ◌+◌, ◌*◌, ◌-◌, ◌/◌, ◌%◌, ◌≤◌, ◌<◌}
use Rattle.std.proofs.Common.{le_refl, mod-lt, div-lt_iff_lt-mul, add-one, sym, ap₂, ◌∙◌, length-append}
use native.Mathlib.Omega.{arith}
use Rattle.std.specs.Prelude.{◌≡◌, refl, Bool, length, take, eqb}
use Rattle.std.proofs.Math.Path.{ap, subst}
use Rattle.std.proofs.Math.Bool.{true, false, not, cond}
use mathlib.Core.List.{List, [], ◌∷◌, ◌++◌}
use Rattle.std.proofs.Math.ListN.{get_or, get_or-append, get_or-eq_default}
use Rattle.std.proofs.Math.Seq.{get_or-append_seam}
use Rattle.model.specs.Lists.{one, upto, keep, member, occurrences}
use Rattle.model.specs.Crossings.{bit}
use Rattle.model.specs.GreedyAppend.{unplaced}
use Rattle.model.specs.SmallOrders.{all_orders, factorial, number_of_orders, order_at}
use Rattle.laws.specs.Sums.Indicators.{less, same, more, order}
use Rattle.laws.specs.Sums.Ranges.{sum}
use Rattle.laws.specs.Sums.Lists.{All, none, also, all_at, all_upto, keep_append, length_keep, sum_over_upto}
use Rattle.laws.specs.Crossings.Bound.{sum_more}
use Rattle.laws.specs.Append.Order.{placed_count, all_unplaced}
use Rattle.laws.specs.Append.Held.{placed_test}
use Rattle.laws.specs.Small.Index.{rest_at, order_at_lem, factorial_some}
use Rattle.small_prefix.specs.declared.Prefix.{Prefix}
use Rattle.small_prefix.specs.Prefixes.{entries, next_of, Ready, entries_next, ready_next}

-- the bit of v is not set
unfoldable pub free : ℕ → ℕ → Bool
free bits v = not (eqb (bit bits v) 1)

-- ---- the entry of those kept, below n

module _ (p : ℕ → Bool) where
  kept_grow : {v n : ℕ} → v < n → p v ≡ true → length (keep p (upto v)) < length (keep p (upto n))
  unfolding sum one
  kept_grow {v} {n} h e =
      omega (
        arith,
        length_keep p (upto v) ∙ sum_over_upto (λ x. one (p x)) v,
        length_keep p (upto n) ∙ sum_over_upto (λ x. one (p x)) n,
        sum_more (suc v) n (λ x. one (p x)) h,
        ap one e,
      )

  pub kept_at : (n : ℕ) {v : ℕ} → v < n → p v ≡ true → get_or (keep p (upto n)) (length (keep p (upto v))) 0 ≡ v
  unfolding upto keep
  kept_at zero h e = absurd (omega arith)
  kept_at (suc n) {v} h e =
      ap (λ (xs : List ℕ). get_or xs (length (keep p (upto v))) 0) (keep_append p (upto n) (n ∷ []))
      ∙ elim (order v n) [
        | less l ↦ get_or-append (keep p (upto n)) (keep p (n ∷ [])) 0 (length (keep p (upto v))) (kept_grow l e) ∙ kept_at n l e
        | same k ↦
            subst (λ (w : ℕ). get_or (keep p (upto n) ++ keep p (n ∷ [])) (length (keep p (upto w))) 0 ≡ w) (sym k)
            (ap (λ (b : Bool). get_or (keep p (upto n) ++ cond b (n ∷ []) []) (length (keep p (upto n))) 0) (ap p (sym k) ∙ e)
            ∙ get_or-append_seam (keep p (upto n)) n [] 0)
        | more l ↦ absurd (omega arith)
      ]

-- one vertex more
more_kept : (bits v : ℕ) (b : Bool) → free bits v ≡ b → length (keep (free bits) (upto (suc v))) ≡ length (keep (free bits) (upto v)) + one b
unfolding upto keep one
more_kept bits v b e =
    ap length (keep_append (free bits) (upto v) (v ∷ []))
    ∙ length-append (keep (free bits) (upto v)) (keep (free bits) (v ∷ []))
    ∙ ap (λ (m : ℕ). length (keep (free bits) (upto v)) + m) (by_test b e)
  where
    by_test : (b : Bool) → free bits v ≡ b → length (cond (free bits v) (v ∷ []) []) ≡ one b
    by_test true e = rw e
    by_test false e = rw e

-- the loop over the vertices
pub record SeenUpTo (n bits k seen v : ℕ) : Type 0 where
  pub inside : v ≤ n
  pub counted : seen ≡ length (keep (free bits) (upto v))
  pub few : seen ≤ k
  pub low : seen ≤ v

module _ {n bits k : ℕ} where
  pub seen_start : SeenUpTo n bits k 0 0
  unfolding keep upto
  seen_start = record { inside = omega arith; counted = refl; few = omega arith; low = omega arith }

  pub seen_taken : {seen v : ℕ} → SeenUpTo n bits k seen v → v < n → free bits v ≡ false → SeenUpTo n bits k seen (v + 1)
  unfolding one
  seen_taken {seen} {v} s h e =
      rw (add-one v)
      (record { inside = h; counted = omega (arith, s.counted, more_kept bits v false e); few = s.few; low = omega (arith, s.low) })

  pub seen_passed : {seen v : ℕ} → SeenUpTo n bits k seen v → v < n → free bits v ≡ true → (seen ≡ k → ⊥) → SeenUpTo n bits k (seen + 1) (v + 1)
  unfolding one
  seen_passed {seen} {v} s h e d =
      rw (add-one v)
      (record {
        inside = h;
        counted = omega (arith, s.counted, more_kept bits v true e);
        few = omega (arith, s.few, d);
        low = omega (arith, s.low);
      })

  pub seen_found : {seen v : ℕ} → SeenUpTo n bits k seen v → v < n → free bits v ≡ true → seen ≡ k → v ≡ get_or (keep (free bits) (upto n)) k 0
  seen_found {seen} {v} s h e d =
      sym (ap (λ (m : ℕ). get_or (keep (free bits) (upto n)) m 0) (sym d ∙ s.counted) ∙ kept_at (free bits) n h e)

  pub seen_none : {seen v : ℕ} → SeenUpTo n bits k seen v → n ≤ v → 0 ≡ get_or (keep (free bits) (upto n)) k 0
  seen_none {seen} {v} s h = sym (get_or-eq_default (keep (free bits) (upto n)) 0 (omega (arith, s.few, ends)))
    where
      last : v ≡ n
      last = omega (arith, s.inside)

      ends : seen ≡ length (keep (free bits) (upto n))
      ends = s.counted ∙ ap (λ (m : ℕ). length (keep (free bits) (upto m))) last

-- ---- the list by its indices

-- the numbers of orders
pub none_factorial : {k : ℕ} → k ≡ 0 → 1 ≡ factorial k
unfolding factorial
none_factorial e = sym (ap factorial e)

pub factorial_step : (k : ℕ) → 0 < k → factorial k ≡ k * factorial (k - 1)
unfolding factorial
factorial_step zero h = absurd (omega arith)
factorial_step (suc k) h = ap (λ (j : ℕ). suc k * factorial j) less_one
  where
    less_one : k ≡ suc k - 1
    less_one = omega arith

factorial_up : (m k : ℕ) → k ≤ m → factorial k ≤ factorial m
unfolding factorial
factorial_up zero zero h = le_refl 1
factorial_up zero (suc k) h = absurd (omega arith)
factorial_up (suc m) k h =
    elim (order k (suc m)) [
      | less l ↦ omega (arith, factorial_up m k (omega arith))
      | same e ↦ subst (λ (j : ℕ). factorial k ≤ factorial j) e (le_refl (factorial k))
      | more l ↦ absurd (omega arith)
    ]

pub factorial_few : (k : ℕ) → k ≤ 7 → factorial k ≤ 5040
unfolding factorial
factorial_few k h = factorial_up 7 k h

-- a step of the definition
step_at_lem : (n k : ℕ) (xs : List ℕ) (i : ℕ) → 0 < k
    → rest_at n k xs i ≡ rest_at n (k - 1) (xs ++ (get_or (unplaced n xs) (i / factorial (k - 1)) 0 ∷ [])) (i % factorial (k - 1))
unfolding rest_at
step_at_lem n zero xs i h = absurd (omega arith)
step_at_lem n (suc k) xs i h =
    ap (λ (j : ℕ). rest_at n j (xs ++ (get_or (unplaced n xs) (i / factorial j) 0 ∷ [])) (i % factorial j)) less_one
  where
    less_one : k ≡ suc k - 1
    less_one = omega arith

keep_ext : {P : ℕ → Type 0} (p q : ℕ → Bool) {xs : List ℕ} → All P xs → ((x : ℕ) → P x → p x ≡ q x) → keep p xs ≡ keep q xs
unfolding keep
keep_ext p q none h = refl
keep_ext p q (also {x} {xs} a rest) h = ap₂ (λ (b : Bool) (ys : List ℕ). cond b (x ∷ ys) ys) (h x a) (keep_ext p q rest h)

module _ {n left : ℕ} {p : Prefix} (r : Ready n left p) where
  -- the vertices whose bits are not set are those not placed
  free_unplaced : keep (free p.bits) (upto n) ≡ unplaced n (entries p)
  unfolding free unplaced
  free_unplaced = keep_ext (λ v. not (eqb (bit p.bits v) 1)) (λ v. not (member v (entries p))) (all_upto n)
      (λ v h. ap not (placed_test (omega (arith, r.small)) r.begun.placed r.held v h))

  module _ (some : 0 < left) {index : ℕ} (small : index < factorial left) where
    -- the vertex that the index names
    abbrev chosen : ℕ
    chosen = get_or (unplaced n (entries p)) (index / factorial (left - 1)) 0

    is_unplaced : (chosen < n) × (occurrences chosen (entries p) ≡ 0)
    is_unplaced = all_at 0 (all_unplaced n (entries p)) (index / factorial (left - 1)) few
      where
        many : left ≡ length (unplaced n (entries p))
        many = omega (arith, placed_count r.begun.placed, r.begun.left)

        few : index / factorial (left - 1) < length (unplaced n (entries p))
        few =
            subst (λ (m : ℕ). index / factorial (left - 1) < m) many
            ((div-lt_iff_lt-mul (factorial_some (left - 1))).1 (subst (λ (m : ℕ). index < m) (factorial_step left some) small))

    -- a step of the definition
    rest_step : rest_at n left (entries p) index ≡ rest_at n (left - 1) (entries (next_of p chosen)) (index % factorial (left - 1))
    rest_step =
        step_at_lem n left (entries p) index some
        ∙ ap (λ (ys : List ℕ). rest_at n (left - 1) ys (index % factorial (left - 1))) (sym (entries_next r is_unplaced.0 some is_unplaced.1))

    -- as the code has it
    module _ {v each : ℕ} (number : each ≡ factorial (left - 1)) (found : v ≡ get_or (keep (free p.bits) (upto n)) (index / each) 0)
        {q : Prefix} (next : q ≡ next_of p v) where
      right : q ≡ next_of p chosen
      right = next ∙ ap (next_of p) (found ∙ ap₂ (λ (xs : List ℕ) (d : ℕ). get_or xs (index / d) 0) free_unplaced number)

      pub found_ready : Ready n (left - 1) q × (index % each < factorial (left - 1))
      found_ready = (
        subst (Ready n (left - 1)) (sym right) (ready_next r is_unplaced.0 some is_unplaced.1),
        rw number (mod-lt index (factorial_some (left - 1))),
      )

      pub found_answered : {xs : List ℕ} → xs ≡ rest_at n (left - 1) (entries q) (index % each) → xs ≡ rest_at n left (entries p) index
      found_answered e =
          e ∙ ap₂ (λ (s : Prefix) (d : ℕ). rest_at n (left - 1) (entries s) (index % d)) right number ∙ sym rest_step

-- ---- the whole

-- nothing left to place
pub rest_none : (n : ℕ) {left : ℕ} (xs : List ℕ) (index : ℕ) → left ≡ 0 → xs ≡ rest_at n left xs index
unfolding rest_at
rest_none n xs index e = sym (ap (λ (k : ℕ). rest_at n k xs index) e)

-- of no vertices there is one order
pub none_number : {n : ℕ} → n ≡ 0 → 1 ≡ number_of_orders n
unfolding number_of_orders
none_number e = none_factorial (omega arith)

pub none_order : {n index : ℕ} (xs : List ℕ) → n ≡ 0 → index < number_of_orders n → take n xs ≡ order_at n index
unfolding order_at all_orders number_of_orders factorial
none_order {n} {index} xs e l =
    subst (λ (k : ℕ). index < number_of_orders k → take k xs ≡ order_at k index) (sym e) (by_index index) l
  where
    by_index : (i : ℕ) → i < number_of_orders 0 → take 0 xs ≡ order_at 0 i
    by_index zero h = refl
    by_index (suc i) h = absurd (omega arith)

pub order_right : {n index : ℕ} → 0 < n → index < number_of_orders n → rest_at n (n - 1) (0 ∷ []) index ≡ order_at n index
unfolding number_of_orders
order_right {n} {index} = by_number n
  where
    by_number : (n : ℕ) → 0 < n → index < number_of_orders n → rest_at n (n - 1) (0 ∷ []) index ≡ order_at n index
    by_number zero h l = absurd (omega arith)
    by_number (suc n) h l =
        ap (λ (k : ℕ). rest_at (suc n) k (0 ∷ []) index) less_one
        ∙ sym (order_at_lem n index (subst (λ (k : ℕ). index < factorial k) less_one l))
      where
        less_one : suc n - 1 ≡ n
        less_one = omega arith
