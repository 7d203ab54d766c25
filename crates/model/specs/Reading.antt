-- The calls that only read: the carried count, the order, the shown crossing pair.
use Rattle.std.specs.Prelude.{Option, Some, None, Result, Ok, Err, ℕ, Bool, true, false, cond, List, [], ◌∷◌, ◌++◌, length, drop, eqb}
use Rattle.model.specs.declared.Layout.{Layout}
use Rattle.model.specs.declared.Edge.{Edge}
use Rattle.model.specs.declared.Counted.{Counted}
use Rattle.model.specs.declared.refusal.Refusal.{Refusal}
use Rattle.model.specs.Answers.{number}
use Rattle.model.specs.Crossings.{edges, crosses}
use Rattle.model.specs.Layouts.{vertex_order}
use Rattle.model.specs.Checks.{Check, checked, refusal, is_valid, buffer_fits}

-- ---- "the carried count"

unfoldable pub count_of : Layout → Counted
count_of l =
    checked (is_valid l ∷ []) (record { refusal = 0; count = l.count }) (λ r. record { refusal = r; count = 0 })

-- ---- "the order, written to the first n bytes of a lent buffer, the rest untouched"

unfoldable pub order_checks : Layout → List ℕ → List Check
order_checks l buffer = is_valid l ∷ buffer_fits l (length buffer) ∷ []

-- the refusal code
unfoldable pub order_refusal : Layout → List ℕ → ℕ
order_refusal l buffer = refusal (order_checks l buffer)

-- the buffer's bytes after the call
unfoldable pub order_bytes : Layout → List ℕ → List ℕ
order_bytes l buffer = checked (order_checks l buffer) (vertex_order l ++ drop l.n buffer) (λ r. buffer)

-- ---- the shown crossing pair

-- what a search says: the refusal code; whether it says "none"; the two edges of the pair, or no edge
pub record Shown : Type 0 where
  pub refusal : ℕ
  pub none : Bool
  pub pair : List Edge

-- what each case of the result says
unfoldable pub shown : Result (Option (Edge × Edge)) Refusal → Shown
shown (Ok (Some p)) = record { refusal = 0; none = false; pair = p.0 ∷ p.1 ∷ [] }
shown (Ok None) = record { refusal = 0; none = true; pair = [] }
shown (Err r) = record { refusal = number r; none = false; pair = [] }

-- e and the first of the edges that crosses it, or no edge
unfoldable pub pair_with : List ℕ → Edge → List Edge → List Edge
pair_with o e [] = []
pair_with o e (f ∷ fs) = cond (crosses o e f) (e ∷ f ∷ []) (pair_with o e fs)

-- the first list, or the second where the first is empty
unfoldable pub or_else : List Edge → List Edge → List Edge
or_else [] other = other
or_else (e ∷ es) other = e ∷ es

-- "The search ends with the first pair that crosses: lowest first link, then lowest second link."
unfoldable pub first_pair : List ℕ → List Edge → List Edge
first_pair o [] = []
first_pair o (e ∷ es) = or_else (pair_with o e es) (first_pair o es)

-- "It answers "none" exactly when no two links cross."
unfoldable pub first_crossing_of : Layout → Shown
first_crossing_of l =
    let pair = first_pair (vertex_order l) (edges l.n l.adjacency) in
    checked (is_valid l ∷ [])
    (record { refusal = 0; none = eqb (length pair) 0; pair = pair })
    (λ r. record { refusal = r; none = false; pair = [] })
