-- The order with an index, vertex by vertex: behind the placed ones comes the unplaced one whose number is the index divided by how many orders each has.
use Rattle.std.specs.Prelude.{ℕ, zero, suc, ◌+◌, ◌*◌, ◌/◌, ◌%◌, ◌<◌, ◌≡◌, refl, length, get_or}
use Rattle.std.proofs.Common.{div-add-mod', mod-lt, div-lt_iff_lt-mul, arith, sym, ap, ◌∙◌, subst, get_or-append-add}
use mathlib.Core.List.{List, [], ◌∷◌, ◌++◌, flat_map}
use Rattle.std.proofs.Math.ListN.{get_or-append}
use Rattle.model.specs.Lists.{occurrences}
use Rattle.model.specs.GreedyAppend.{unplaced}
use Rattle.laws.specs.Sums.Lists.{All, none, also, all_at}
use Rattle.laws.specs.Append.Order.{placed_count, all_unplaced}
use Rattle.model.specs.SmallOrders.{list_rest, all_orders, order_at, factorial}
use Rattle.laws.specs.Small.Entries.{Begun, begun_alone, begun_next, rest_number}

-- entry r of the list that entry q gives, where all these lists have c entries
entry_each : {A B : Type 0} {P : A → Type 0} (g : A → List B) (c : ℕ) (a : A) (d : B) {us : List A} → All P us → ((u : A) → P u → length (g u) ≡ c)
    → (q r : ℕ) → q < length us → r < c → get_or (flat_map g us) (q * c + r) d ≡ get_or (g (get_or us q a)) r d
unfolding flat_map
entry_each g c a d none h q r l m = absurd (omega arith)
entry_each g c a d (also {x} {xs} p ps) h zero r l m =
    ap (λ (i : ℕ). get_or (g x ++ flat_map g xs) i d) at_start ∙ get_or-append (g x) (flat_map g xs) d r (omega (arith, h x p))
  where
    at_start : 0 * c + r ≡ r
    at_start = omega arith
entry_each g c a d (also {x} {xs} p ps) h (suc q) r l m =
    ap (λ (i : ℕ). get_or (g x ++ flat_map g xs) i d) beyond
    ∙ get_or-append-add (g x) (flat_map g xs) (q * c + r) d
    ∙ entry_each g c a d ps h q r (omega arith) m
  where
    beyond : suc q * c + r ≡ length (g x) + (q * c + r)
    beyond = omega (arith, h x p)

pub factorial_some : (k : ℕ) → 0 < factorial k
unfolding factorial
factorial_some zero = omega arith
factorial_some (suc k) = omega (arith, factorial_some k)

-- the order by its index
unfoldable pub rest_at : ℕ → ℕ → List ℕ → ℕ → List ℕ
rest_at n zero xs i = xs
rest_at n (suc k) xs i = rest_at n k (xs ++ (get_or (unplaced n xs) (i / factorial k) 0 ∷ [])) (i % factorial k)

pub rest_at_lem : {n : ℕ} (k : ℕ) {xs : List ℕ} → Begun n k xs → (i : ℕ) → i < factorial k → get_or (list_rest n k xs) i [] ≡ rest_at n k xs i
unfolding list_rest rest_at factorial
rest_at_lem zero b zero l = refl
rest_at_lem zero b (suc i) l = absurd (omega arith)
rest_at_lem {n} (suc k) {xs} b i l =
    ap (λ (j : ℕ). get_or (list_rest n (suc k) xs) j []) (sym (div-add-mod' i (factorial k)))
    ∙ entry_each (λ v. list_rest n k (xs ++ (v ∷ []))) (factorial k) 0 [] (all_unplaced n xs)
    (λ v q. rest_number k (begun_next b q.0 q.1)) (i / factorial k) (i % factorial k) few (mod-lt i (factorial_some k))
    ∙ rest_at_lem k (begun_next b next.0 next.1) (i % factorial k) (mod-lt i (factorial_some k))
  where
    few : i / factorial k < length (unplaced n xs)
    few =
        subst (λ (m : ℕ). i / factorial k < m) many ((div-lt_iff_lt-mul (factorial_some k)).1 l)
      where
        many : suc k ≡ length (unplaced n xs)
        many = omega (arith, placed_count b.placed, b.left)

    next : (get_or (unplaced n xs) (i / factorial k) 0 < n) × (occurrences (get_or (unplaced n xs) (i / factorial k) 0) xs ≡ 0)
    next = all_at 0 (all_unplaced n xs) (i / factorial k) few

pub order_at_lem : (n i : ℕ) → i < factorial n → order_at (suc n) i ≡ rest_at (suc n) n (0 ∷ []) i
unfolding order_at all_orders
order_at_lem n i l = rest_at_lem n (begun_alone n) i l
