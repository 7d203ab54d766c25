-- The calls add, link, unlink and move.
use Rattle.std.specs.Prelude.{ℕ, suc, ◌+◌, ◌*◌, ◌-◌, ◌^◌, not, cond, List, [], ◌∷◌, get_or, set, eqb}
use Rattle.model.specs.declared.Layout.{Layout}
use Rattle.model.specs.Answers.{Added}
use Rattle.model.specs.Answers.{Changed}
use Rattle.model.specs.Lists.{keep}
use Rattle.model.specs.Crossings.{bit}
use Rattle.model.specs.Layouts.{capacity, vertex_order, changed, reordered}
use Rattle.model.specs.Checks.{Check, checked, is_valid, is_vertex, differ, is_unlinked, is_linked, has_room, weighs}

-- ---- add

-- "device n, without links, at the end of the order"
unfoldable pub added : Layout → Layout
added l = changed l (suc l.n) (set l.order l.n l.n) l.adjacency l.weights

unfoldable pub add_checks : Layout → List Check
add_checks l = is_valid l ∷ has_room l ∷ []

-- "Answers its number."
abbrev pub add_answer : Layout → Added
add_answer l = record { refusal = 0; layout = added l; vertex = l.n }

abbrev pub add_refused : Layout → ℕ → Added
add_refused l r = record { refusal = r; layout = l; vertex = 0 }

unfoldable pub add_of : Layout → Added
add_of l = checked (add_checks l) (add_answer l) (add_refused l)

-- ---- link and unlink

-- bit i of a word set, and cleared
unfoldable pub with_bit : ℕ → ℕ → ℕ
with_bit word i = word - bit word i * 2 ^ i + 2 ^ i

unfoldable pub without_bit : ℕ → ℕ → ℕ
without_bit word i = word - bit word i * 2 ^ i

-- the words of a and b changed by f, each at the bit of the other end
unfoldable pub at_both_ends : (ℕ → ℕ → ℕ) → List ℕ → ℕ → ℕ → List ℕ
at_both_ends f adj a b = set (set adj a (f (get_or adj a 0) b)) b (f (get_or adj b 0) a)

-- a table of weights with this one between a and b, both ways round
unfoldable pub both_ways : List ℕ → ℕ → ℕ → ℕ → List ℕ
both_ways ws a b w = set (set ws (capacity * a + b) w) (capacity * b + a) w

-- "Link and unlink two devices. The order stays."
unfoldable pub with_edges : Layout → List ℕ → List ℕ → Layout
with_edges l adj ws = changed l l.n l.order adj ws

-- an accepted call gives the layout, a refused one the layout as it came
abbrev pub changed_to : Layout → Changed
changed_to next = record { refusal = 0; layout = next }

abbrev pub change_refused : Layout → ℕ → Changed
change_refused l r = record { refusal = r; layout = l }

unfoldable pub changed_or : Layout → List Check → Layout → Changed
changed_or l checks next = checked checks (changed_to next) (change_refused l)

-- "Link takes a weight, one byte"; "25 when a weight is 0, [..] after 14 in a call"
unfoldable pub link_checks : Layout → ℕ → ℕ → ℕ → List Check
link_checks l a b w = is_valid l ∷ is_vertex l a ∷ is_vertex l b ∷ differ a b ∷ is_unlinked l a b ∷ weighs w ∷ []

unfoldable pub link_of : Layout → ℕ → ℕ → ℕ → Changed
link_of l a b w =
    changed_or l (link_checks l a b w) (with_edges l (at_both_ends with_bit l.adjacency a b) (both_ways l.weights a b w))

unfoldable pub unlink_checks : Layout → ℕ → ℕ → List Check
unlink_checks l a b = is_valid l ∷ is_vertex l a ∷ is_vertex l b ∷ differ a b ∷ is_linked l a b ∷ []

unfoldable pub unlink_of : Layout → ℕ → ℕ → Changed
unlink_of l a b = changed_or l (unlink_checks l a b) (with_edges l (at_both_ends without_bit l.adjacency a b) (both_ways l.weights a b 0))

-- ---- move

-- a put directly after b
unfoldable pub insert_after : ℕ → ℕ → List ℕ → List ℕ
insert_after b a [] = []
insert_after b a (x ∷ xs) = cond (eqb b x) (x ∷ a ∷ xs) (x ∷ insert_after b a xs)

-- "a is taken out of the list and put directly after b"
unfoldable pub moved_after : ℕ → ℕ → List ℕ → List ℕ
moved_after a b o = insert_after b a (keep (λ x. not (eqb a x)) o)

unfoldable pub move_checks : Layout → ℕ → ℕ → List Check
move_checks l a b = is_valid l ∷ is_vertex l a ∷ is_vertex l b ∷ differ a b ∷ []

unfoldable pub move_of : Layout → ℕ → ℕ → Changed
move_of l a b = changed_or l (move_checks l a b) (reordered l (moved_after a b (vertex_order l)))
