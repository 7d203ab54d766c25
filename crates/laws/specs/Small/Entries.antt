-- The list of all orders with vertex 0 first: how many there are, and that each holds each vertex once.
use Rattle.std.specs.Prelude.{ℕ, zero, suc, ◌+◌, ◌*◌, ◌-◌, ◌<◌, ◌≡◌, refl, length}
use Rattle.std.proofs.Common.{zero-mul, arith, sym, ap, ◌∙◌, length-append}
use mathlib.Core.List.{List, [], ◌∷◌, ◌++◌, flat_map, append-nil, append_assoc}
use Rattle.model.specs.Lists.{occurrences}
use Rattle.model.specs.GreedyAppend.{unplaced}
use Rattle.laws.specs.Sums.Lists.{All, none, also, all_mono, all_flat_map}
use Rattle.laws.specs.Orders.Permutations.{at, Permutation}
use Rattle.laws.specs.Append.Order.{Placed, placed_start, placed_back, placed_all, placed_count, all_unplaced}
use Rattle.model.specs.SmallOrders.{list_rest, all_orders, factorial}

-- the vertices xs are placed, and k are still to come
pub record Begun (n k : ℕ) (xs : List ℕ) : Type 0 where
  pub placed : Placed n xs
  pub left : k + length xs ≡ n

pub begun_alone : (n : ℕ) → Begun (suc n) n (0 ∷ [])
begun_alone n = record { placed = placed_start (omega arith); left = omega arith }

pub begun_next : {n k v : ℕ} {xs : List ℕ} → Begun n (suc k) xs → v < n → occurrences v xs ≡ 0 → Begun n k (xs ++ (v ∷ []))
begun_next {v = v} {xs = xs} b h free =
    record { placed = placed_back b.placed h free; left = omega (arith, length-append xs (v ∷ []), b.left) }

-- o holds each vertex once and starts with xs
pub record Completes (n : ℕ) (xs o : List ℕ) : Type 0 where
  pub permutation : Permutation n o
  pub rest : List ℕ
  pub parts : o ≡ xs ++ rest

pub completes_back : {n : ℕ} (v : ℕ) (xs : List ℕ) {o : List ℕ} → Completes n (xs ++ (v ∷ [])) o → Completes n xs o
completes_back v xs c =
    record { permutation = c.permutation; rest = v ∷ c.rest; parts = c.parts ∙ append_assoc xs (v ∷ []) c.rest }

-- ---- how many

length_each : {A B : Type 0} {P : A → Type 0} (g : A → List B) (c : ℕ) {us : List A} → All P us → ((u : A) → P u → length (g u) ≡ c)
    → length (flat_map g us) ≡ length us * c
unfolding flat_map
length_each g c none h = sym (zero-mul c)
length_each g c (also {x} {xs} p ps) h = length-append (g x) (flat_map g xs) ∙ omega (arith, h x p, length_each g c ps h)

pub rest_number : {n : ℕ} (k : ℕ) {xs : List ℕ} → Begun n k xs → length (list_rest n k xs) ≡ factorial k
unfolding list_rest factorial
rest_number zero b = refl
rest_number {n} (suc k) {xs} b =
    length_each (λ v. list_rest n k (xs ++ (v ∷ []))) (factorial k) (all_unplaced n xs) (λ v q. rest_number k (begun_next b q.0 q.1))
    ∙ ap (λ (m : ℕ). m * factorial k) many
  where
    many : length (unplaced n xs) ≡ suc k
    many = omega (arith, placed_count b.placed, b.left)

-- "(n − 1)! of them, and one for n = 0"
pub orders_number : (n : ℕ) → length (all_orders n) ≡ factorial (n - 1)
unfolding all_orders factorial
orders_number zero = refl
orders_number (suc n) = rest_number n (begun_alone n) ∙ ap factorial less
  where
    less : n ≡ suc n - 1
    less = omega arith

-- ---- each entry

pub rest_complete : {n : ℕ} (k : ℕ) {xs : List ℕ} → Begun n k xs → All (Completes n xs) (list_rest n k xs)
unfolding list_rest
rest_complete zero {xs} b = also (record { permutation = placed_all b.placed (omega (arith, b.left)); rest = []; parts = sym (append-nil xs) }) none
rest_complete {n} (suc k) {xs} b =
    all_flat_map (λ v. list_rest n k (xs ++ (v ∷ []))) (all_unplaced n xs)
    (λ v q. all_mono (rest_complete k (begun_next b q.0 q.1)) (λ o c. completes_back v xs c))

-- an order that vertex 0 leads
pub record Leading (n : ℕ) (o : List ℕ) : Type 0 where
  pub permutation : Permutation n o
  pub first : at o 0 ≡ 0

pub orders_leading : (n : ℕ) → All (Leading n) (all_orders n)
unfolding all_orders
orders_leading zero = also (record { permutation = record { size = refl; once = λ v h. absurd (omega arith) }; first = refl }) none
orders_leading (suc n) =
    all_mono (rest_complete n (begun_alone n)) (λ o c. record { permutation = c.permutation; first = ap (λ (p : List ℕ). at p 0) c.parts })
