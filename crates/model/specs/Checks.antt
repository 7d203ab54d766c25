-- The checks (document 01: questions) that a call on a layout goes through, as data: does it pass, and the refusal code (number) if not.
use Rattle.std.specs.Prelude.{ℕ, zero, suc, Bool, not, cond, ◌&&◌, List, [], ◌∷◌, length, eqb, leb, ltb}
use Rattle.model.specs.declared.Layout.{Layout}
use Rattle.model.specs.Crossings.{linked}
use Rattle.model.specs.Layouts.{capacity, is_weight, valid}

pub record Check : Type 0 where
  pub passes : Bool
  pub code : ℕ

-- "The first "no" gives its number"; "An accepted call has refusal number 0"
unfoldable pub refusal : List Check → ℕ
refusal [] = 0
refusal (c ∷ cs) = cond c.passes (refusal cs) c.code

-- what a call gives: accepted where no check fails, otherwise refused with the code
module _ {A : Type 0} where
  unfoldable pub by_refusal : ℕ → A → (ℕ → A) → A
  by_refusal zero accepted refused = accepted
  by_refusal (suc r) accepted refused = refused (suc r)

  unfoldable pub checked : List Check → A → (ℕ → A) → A
  checked cs accepted refused = by_refusal (refusal cs) accepted refused

-- ---- "Each call goes through those that concern it, in this order; the first concerns every call on a ring."

-- "Is the ring whole? 11"
unfoldable pub is_valid : Layout → Check
is_valid l = record { passes = valid l; code = 11 }

-- "Is each named device below n? 12"
unfoldable pub is_vertex : Layout → ℕ → Check
is_vertex l v = record { passes = ltb v l.n; code = 12 }

-- "(link, unlink, move) Do the two differ? 13"
unfoldable pub differ : ℕ → ℕ → Check
differ a b = record { passes = not (eqb a b); code = 13 }

-- "(link) Are they unlinked? 14"
unfoldable pub is_unlinked : Layout → ℕ → ℕ → Check
is_unlinked l a b = record { passes = not (linked l.adjacency a b); code = 14 }

-- "(unlink) Are they linked? 15"
unfoldable pub is_linked : Layout → ℕ → ℕ → Check
is_linked l a b = record { passes = linked l.adjacency a b; code = 15 }

-- "(add) Is n below 64? 16"
unfoldable pub has_room : Layout → Check
has_room l = record { passes = ltb l.n capacity; code = 16 }

-- "(settle) Is the limit from 1 to 1000? 17"
unfoldable pub limit_fits : ℕ → Check
limit_fits limit = record { passes = leb 1 limit && leb limit 1000; code = 17 }

-- "(order) Has the buffer at least n bytes? 18"
unfoldable pub buffer_fits : Layout → ℕ → Check
buffer_fits l size = record { passes = leb l.n size; code = 18 }

-- ---- of calls that document 02 adds

-- "25 when a weight is 0" (Note 8)
unfoldable pub weighs : ℕ → Check
weighs w = record { passes = is_weight w; code = 25 }

-- what is written out, and a lent buffer: "19 when the lent buffer is shorter" (Note 1); "23 when the table has fewer entries" (Note 7)
unfoldable pub room_for : ℕ → List ℕ → List ℕ → Check
room_for short entries buffer = record { passes = leb (length entries) (length buffer); code = short }
