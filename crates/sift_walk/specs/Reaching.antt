-- The reaches that a walk starts with: of each other vertex, twice the weight of u on those before it clockwise from u, and the weight between u and it.
use Rattle.std.specs.Prelude.{ℕ, zero, suc, ◌+◌, ◌*◌, ◌%◌, ◌≤◌, ◌<◌, ◌≡◌, refl, List, [], ◌∷◌, length, get_or, set, take, replicate}
use Rattle.std.proofs.Common.{lt_of_lt_of_le, le_of_suc-le-suc, mod-eq_of_lt, add-one, arith, sym, ap, ap₂, ◌∙◌, length-set, get_or-set_same, get_or-set_other, below_more}
use Rattle.std.proofs.Math.Decide.{ℕ_discrete}
use Rattle.std.proofs.Math.ListN.{get_or-replicate}
use Rattle.std.proofs.lemmas.List.{length-replicate}
use Rattle.model.specs.Lists.{sum_over}
use Rattle.laws.specs.Sums.Indicators.{less, same, more, order}
use Rattle.laws.specs.Sums.Lists.{sum_over_last}
use Rattle.laws.specs.Orders.Permutations.{at}
use Rattle.laws.specs.Tables.Rows.{table_weight}
use Rattle.laws.specs.Crossings.Reaches.{Reaches}
use Rattle.laws.specs.Sifting.Walk.{other_at_lem}
use Rattle.sift_walk.specs.Seats.{other_at, Seated, others_of, small, perm, below, others_length, other_right, distinct, taken_next}

pub record ReachesOf (n : ℕ) (places ws : List ℕ) (u : ℕ) (rs : List ℕ) : Type 0 where
  pub reached : Reaches (table_weight ws u) (others_of n places u) (λ y. get_or rs y 0)
  pub of_itself : get_or rs u 0 ≡ 0
  -- 15 bits
  pub low : (y : ℕ) → get_or rs y 0 < 32768

-- once the first j of the others have theirs
pub record RightUpTo (n : ℕ) (places ws : List ℕ) (u : ℕ) (rs : List ℕ) (met j : ℕ) : Type 0 where
  pub inside : j < n
  pub met_are : met ≡ sum_over (table_weight ws u) (take j (others_of n places u))
  pub numbers : (i : ℕ) → i < j
      → get_or rs (at (others_of n places u) i) 0
      ≡ 2 * sum_over (table_weight ws u) (take i (others_of n places u)) + table_weight ws u (at (others_of n places u) i)
  pub of_itself : get_or rs u 0 ≡ 0

module _ {n : ℕ} {places ws : List ℕ} {u p : ℕ} (seat : Seated n places ws u p) where
  abbrev others : List ℕ
  others = others_of n places u

  abbrev W : ℕ → ℕ → ℕ
  W = table_weight ws

  right_start : RightUpTo n places ws u (replicate 64 0) 0 0
  unfolding sum_over
  right_start =
      record {
        inside = omega (arith, below seat);
        met_are = refl;
        numbers = λ i l. absurd (omega arith);
        of_itself = get_or-replicate 64 u 0 0 (omega (arith, below seat, small seat));
      }

  module _ {rs : List ℕ} {met j v w : ℕ} (s : RightUpTo n places ws u rs met j) (l : j + 1 < n) (size : length rs ≡ 64)
      (there : v ≡ other_at n p places j) (e : w ≡ W u v) where
    here : v ≡ at others j
    here = there ∙ other_right seat j l

    room : v < length rs
    room = rw (here, size) (lt_of_lt_of_le (other_at_lem (perm seat) u (below seat) j (omega arith)).0 (small seat))

    right_next : RightUpTo n places ws u (set rs v (2 * met + w)) (met + w) (j + 1)
    right_next =
        record {
          inside = l;
          met_are =
              ap₂ ◌+◌ s.met_are e
              ∙ sym
              (ap (λ (k : ℕ). sum_over (W u) (take k others)) (add-one j)
              ∙ ap (sum_over (W u)) (taken_next seat j l there)
              ∙ sum_over_last v (W u) (take j others));
          numbers =
              below_more
              (λ i. get_or (set rs v (2 * met + w)) (at others i) 0 ≡ 2 * sum_over (W u) (take i others) + W u (at others i)) j
              (λ i b.
              get_or-set_other rs v (at others i) (2 * met + w) 0
              (λ d. omega (arith, distinct seat i j (omega arith) (omega arith) (d ∙ here)))
              ∙ s.numbers i b)
              (ap (λ (y : ℕ). get_or (set rs v (2 * met + w)) y 0) (sym here)
              ∙ get_or-set_same rs v (2 * met + w) 0 room
              ∙ ap₂ (λ (x y : ℕ). 2 * x + y) s.met_are (e ∙ ap (W u) here));
          of_itself =
              get_or-set_other rs v u (2 * met + w) 0 (λ d. (other_at_lem (perm seat) u (below seat) j (omega arith)).1 (d ∙ here)) ∙ s.of_itself;
        }

  right_end : {rs : List ℕ} {met j : ℕ} → RightUpTo n places ws u rs met j → n ≤ j + 1 → ((y : ℕ) → get_or rs y 0 < 32768) → ReachesOf n places ws u rs
  right_end s l few =
      record { reached = record { reach = λ i b. s.numbers i (omega (arith, others_length seat)) }; of_itself = s.of_itself; low = few }

-- ---- the loop

pub record ReachingUpTo (n p : ℕ) (places ws : List ℕ) (u : ℕ) (rs : List ℕ) (met j : ℕ) : Type 0 where
  pub inside : j ≤ n
  pub size : length rs ≡ 64
  pub met_few : met ≤ 255 * j
  pub low : (y : ℕ) → get_or rs y 0 < 32768
  pub right : Seated n places ws u p → RightUpTo n places ws u rs met j

low_none : (y : ℕ) → get_or (replicate 64 0) y 0 < 32768
low_none y =
    elim (order y 64) [
      | less l ↦ rw (get_or-replicate {A = ℕ} 64 y 0 0 l) (omega arith)
      | same e ↦ rw (beyond (replicate 64 0) y (omega (arith, length-replicate {A = ℕ} 64 0))) (omega arith)
      | more l ↦ rw (beyond (replicate 64 0) y (omega (arith, length-replicate {A = ℕ} 64 0))) (omega arith)
    ]
  where
    beyond : (xs : List ℕ) (y : ℕ) → length xs ≤ y → get_or xs y 0 ≡ 0
    beyond [] y h = refl
    beyond (x ∷ xs) zero h = absurd (omega arith)
    beyond (x ∷ xs) (suc y) h = beyond xs y (le_of_suc-le-suc h)

low_set : (rs : List ℕ) (v x : ℕ) → v < length rs → x < 32768 → ((y : ℕ) → get_or rs y 0 < 32768) → (y : ℕ) → get_or (set rs v x) y 0 < 32768
low_set rs v x room few low y =
    elim (ℕ_discrete y v) [
      | yes d ↦ rw (d, get_or-set_same rs v x 0 room) few
      | no d ↦ rw (get_or-set_other rs v y x 0 d) (low y)
    ]

module _ {n p : ℕ} {places ws : List ℕ} {u : ℕ} where
  pub reaching_start : ReachingUpTo n p places ws u (replicate 64 0) 0 0
  reaching_start =
      record {
        inside = omega arith;
        size = length-replicate {A = ℕ} 64 0;
        met_few = omega arith;
        low = low_none;
        right = λ seat. right_start seat;
      }

  module _ {rs : List ℕ} {met j : ℕ} (s : ReachingUpTo n p places ws u rs met j) where
    pub reaching_next : n ≤ 64 → u < 64 → j + 1 < n → {v w : ℕ} → v ≡ other_at n p places j → v < 64 → w ≡ table_weight ws (u % 64) (v % 64) → w ≤ 255
        → ReachingUpTo n p places ws u (set rs v (2 * met + w)) (met + w) (j + 1)
    reaching_next h u-few l {v} {w} there room weighed light =
        let e : w ≡ table_weight ws u v = rw (mod-eq_of_lt u-few, mod-eq_of_lt room) at weighed in
        record {
          inside = omega arith;
          size = length-set rs v (2 * met + w) ∙ s.size;
          met_few = omega (arith, s.met_few);
          low = low_set rs v (2 * met + w) (rw s.size room) (omega (arith, s.met_few)) s.low;
          right = λ seat. right_next seat (s.right seat) l s.size there e;
        }

    pub reaching_end : n ≤ j + 1 → Seated n places ws u p → ReachesOf n places ws u rs
    reaching_end l seat = right_end seat (s.right seat) l s.low
