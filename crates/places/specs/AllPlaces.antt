-- The place of each vertex of an order, in an array.
use Rattle.std.specs.Prelude.{ℕ, ◌+◌, ◌%◌, ◌≤◌, ◌<◌, ◌≡◌, List, length, get_or, take, set, replicate}
use Rattle.std.proofs.Common.{mod-eq_of_lt, arith, sym, ap, ◌∙◌, length-set, get_or-take, get_or-set_same, get_or-set_other}
use Rattle.std.proofs.lemmas.List.{length-replicate, get_or-replicate}
use Rattle.model.specs.Lists.{place}
use Rattle.laws.specs.Sums.Indicators.{less, same, more, order as which}
use Rattle.laws.specs.Orders.Permutations.{Permutation, at_lt, at_of_place, place_of_at, place_below}

-- places says where each vertex stands in the first n places of order, and 0 of all other numbers
pub record PlacesOf (n : ℕ) (order places : List ℕ) : Type 0 where
  pub size : length places ≡ 64
  pub stands : (v : ℕ) → v < n → get_or places v 0 ≡ place (take n order) v
  pub others : (v : ℕ) → n ≤ v → v < 64 → get_or places v 0 ≡ 0

-- the vertices before place p; of an order that holds each vertex once
pub record PlacesUpTo (n : ℕ) (order places : List ℕ) (p : ℕ) : Type 0 where
  pub few : n ≤ 64
  pub inside : p ≤ n
  pub size : length places ≡ 64
  pub stand : Permutation n (take n order) → (k : ℕ) → k < p → get_or places (get_or order k 0) 0 ≡ k
  pub others : Permutation n (take n order) → (v : ℕ) → n ≤ v → v < 64 → get_or places v 0 ≡ 0

module _ {n : ℕ} {order : List ℕ} where
  pub places_start : n ≤ 64 → PlacesUpTo n order (replicate 64 0) 0
  places_start few =
      record {
        few = few;
        inside = omega arith;
        size = length-replicate {A = ℕ} 64 0;
        stand = λ perm k l. absurd (omega arith);
        others = λ perm v h l. get_or-replicate 64 v 0 0 l;
      }

  module _ {places : List ℕ} {p : ℕ} (r : PlacesUpTo n order places p) where
    -- the byte at the next place is taken modulo 64
    pub places_next : p < n → PlacesUpTo n order (set places (get_or order p 0 % 64) p) (p + 1)
    places_next h =
        record {
          few = r.few;
          inside = omega arith;
          size = length-set places (get_or order p 0 % 64) p ∙ r.size;
          stand = λ perm k l.
              rw (vertex perm)
              (elim (which k p) [ less b ↦ before perm k b | same e ↦ rw e (here perm) | more b ↦ absurd (omega arith) ]);
          others = λ perm v b l.
              rw (vertex perm)
              (get_or-set_other places (get_or order p 0) v p 0 (λ e. omega (arith, below perm p h)) ∙ r.others perm v b l);
        }
      where
        below : Permutation n (take n order) → (k : ℕ) → k < n → get_or order k 0 < n
        below perm k l = rw (← (get_or-take n order k 0 l)) (at_lt perm k l)

        vertex : Permutation n (take n order) → get_or order p 0 % 64 ≡ get_or order p 0
        vertex perm = mod-eq_of_lt (omega (arith, below perm p h, r.few))

        here : Permutation n (take n order) → get_or (set places (get_or order p 0) p) (get_or order p 0) 0 ≡ p
        here perm = get_or-set_same places (get_or order p 0) p 0 (omega (arith, below perm p h, r.size, r.few))

        stands_at : Permutation n (take n order) → (k : ℕ) → k < n → place (take n order) (get_or order k 0) ≡ k
        stands_at perm k l = rw (← (get_or-take n order k 0 l)) (place_of_at perm k l)

        before : Permutation n (take n order) → (k : ℕ) → k < p → get_or (set places (get_or order p 0) p) (get_or order k 0) 0 ≡ k
        before perm k b =
            get_or-set_other places (get_or order p 0) (get_or order k 0) p 0
            (λ e. omega (arith, sym (stands_at perm k (omega arith)) ∙ ap (place (take n order)) e ∙ stands_at perm p h))
            ∙ r.stand perm k b

    pub places_end : n ≤ p → Permutation n (take n order) → PlacesOf n order places
    places_end h perm =
        record {
          size = r.size;
          stands = λ v l.
              let k = place (take n order) v in
              let below : k < n = place_below perm v l in
              let stands_there : get_or order k 0 ≡ v = sym (get_or-take n order k 0 below) ∙ at_of_place perm v l in
              ap (λ (u : ℕ). get_or places u 0) (sym stands_there) ∙ r.stand perm k (omega arith);
          others = r.others perm;
        }
