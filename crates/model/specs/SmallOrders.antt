-- Every small ring (document 02, Note 10): all orders with vertex 0 first, the one with a given index, and the least crossings that any of them has.
-- Everywhere n is the number of vertices, and W the weight of the edge between two vertices.
use Rattle.std.specs.Prelude.{ℕ, zero, suc, ◌*◌, ◌-◌, Bool, true, false, ◌&&◌, ◌||◌, length, get_or, take, drop, eqb, leb, ltb}
use mathlib.Core.List.{List, [], ◌∷◌, ◌++◌, flat_map}
use Rattle.model.specs.declared.Layout.{Layout}
use Rattle.model.specs.declared.LeastFound.{LeastFound}
use Rattle.model.specs.Lists.{one, upto, first_with, sum_over, place}
use Rattle.model.specs.Crossings.{crossings}
use Rattle.model.specs.Layouts.{weight}
use Rattle.model.specs.Checks.{Check, refusal, checked, is_valid, buffer_fits}
use Rattle.model.specs.GreedyAppend.{unplaced}
use Rattle.model.specs.Search.{least}
use Rattle.model.specs.Charts.{same_list}

-- ---- the list of all orders

-- "The list is built by placing one further device and listing the rest, so fewer places remain each time": k vertices are still to be placed
unfoldable pub list_rest : ℕ → ℕ → List ℕ → List (List ℕ)
list_rest n zero placed = placed ∷ []
list_rest n (suc k) placed = flat_map (λ v. list_rest n k (placed ++ (v ∷ []))) (unplaced n placed)

-- "List all orders with device 0 first, in dictionary order of the lists": of no vertices there is one, the empty one
unfoldable pub all_orders : ℕ → List (List ℕ)
all_orders zero = [] ∷ []
all_orders (suc n) = list_rest (suc n) n (0 ∷ [])

unfoldable pub factorial : ℕ → ℕ
factorial zero = 1
factorial (suc k) = suc k * factorial k

-- "(n − 1)! of them, and one for n = 0": so many are listed (`orders_number` in `laws`, Small.Entries)
unfoldable pub number_of_orders : ℕ → ℕ
number_of_orders n = factorial (n - 1)

-- "the order with a given index, counted from 0"
unfoldable pub order_at : ℕ → ℕ → List ℕ
order_at n index = get_or (all_orders n) index []

-- "the least weighted crossings": 0, 1, 2 and so on is one of the listed orders
unfoldable pub least_of_all : ℕ → (ℕ → ℕ → ℕ) → ℕ
least_of_all n W = least (λ o. crossings n o W) (crossings n (upto n) W) (all_orders n)

-- "the first order that has them"
unfoldable pub first_least : ℕ → (ℕ → ℕ → ℕ) → List ℕ
first_least n W = first_with (λ o. eqb (crossings n o W) (least_of_all n W)) (upto n) (all_orders n)

-- ---- the calls

-- "27 when n is over 8, after 11"
unfoldable pub is_small : Layout → Check
is_small l = record { passes = leb l.n 8; code = 27 }

-- "28 when the index isn't below the number of orders, after 27"
unfoldable pub is_listed : Layout → ℕ → Check
is_listed l index = record { passes = ltb index (number_of_orders l.n); code = 28 }

-- "One call writes the order with a given index .. to the first n bytes of a lent buffer."
module _ (l : Layout) (index : ℕ) (buffer : List ℕ) where
  -- "A short buffer gives 18, asked last."
  unfoldable pub order_at_checks : List Check
  order_at_checks = is_valid l ∷ is_small l ∷ is_listed l index ∷ buffer_fits l (length buffer) ∷ []

  -- the refusal code
  unfoldable pub order_at_refusal : ℕ
  order_at_refusal = refusal order_at_checks

  -- the buffer's bytes after the call: "Bytes beyond keep their contents."
  unfoldable pub order_at_bytes : List ℕ
  order_at_bytes = checked order_at_checks (order_at l.n index ++ drop l.n buffer) (λ r. buffer)

-- "Another answers the least weighted crossings and writes there the first order that has them."
module _ (l : Layout) (buffer : List ℕ) where
  unfoldable pub least_checks : List Check
  least_checks = is_valid l ∷ is_small l ∷ buffer_fits l (length buffer) ∷ []

  unfoldable pub least_of : LeastFound
  least_of =
      checked least_checks (record { refusal = 0; crossings = least_of_all l.n (weight l) }) (λ r. record { refusal = r; crossings = 0 })

  -- the buffer's bytes after the call
  unfoldable pub least_bytes : List ℕ
  least_bytes = checked least_checks (first_least l.n (weight l) ++ drop l.n buffer) (λ r. buffer)

-- ---- what the theorems about the list are written in (SmallRings in `history`)

-- "turned so that device 0 leads"
unfoldable pub turned : List ℕ → List ℕ
turned o = drop (place o 0) o ++ take (place o 0) o

-- how often an order is in a list of orders
unfoldable pub listed : List ℕ → List (List ℕ) → ℕ
listed o os = sum_over (λ p. one (same_list o p)) os

-- "dictionary order": the first entry that differs decides
unfoldable pub precedes : List ℕ → List ℕ → Bool
precedes [] [] = false
precedes [] (y ∷ ys) = true
precedes (x ∷ xs) [] = false
precedes (x ∷ xs) (y ∷ ys) = ltb x y || (eqb x y && precedes xs ys)
