-- A vertex moved in an array: the entries shift by places.
use Rattle.std.specs.Prelude.{ℕ, zero, suc, ◌+◌, ◌-◌, ◌≤◌, ◌<◌, ◌≡◌, refl, Bool, true, false, cond, ◌&&◌, List, [], ◌∷◌, ◌++◌, map, length, get_or, take, drop, T, eqb, ltb, leb, Option, Some, None, MatchOption, unwrap_or}
use Rattle.std.proofs.Common.{le_refl, suc-le-suc, not-suc-le-zero, le_of_suc-le-suc, arith, sym, ap, ap₂, ◌∙◌, length-append, length-drop, get_or-take, get_or-drop, get_or-append-add, ext_get_or, lt-ltb, le-ltb, eq-eqb, ne_eqb}
use Rattle.std.proofs.lemmas.List.{length-map}
use Rattle.std.proofs.Math.ListN.{get_or-append}
use Rattle.laws.specs.Layouts.Refusals.{Pair}
use Rattle.model.specs.declared.Layout.{Layout}
use Rattle.model.specs.Lists.{upto, place}
use Rattle.model.specs.Layouts.{vertex_order, valid, reordered}
use Rattle.model.specs.Edits.{moved_after}
use Rattle.laws.specs.Sums.Indicators.{Order, less, same, more, order}
use Rattle.laws.specs.Sums.Lists.{length_upto, map_upto_at}
use Rattle.laws.specs.Orders.Permutations.{at, Permutation, place_below, at_of_place}
use Rattle.laws.specs.Layouts.Validity.{sound}
use Rattle.laws.specs.Layouts.Reordering.{reordered_valid}
use Rattle.laws.specs.Layouts.Recount.{recounted, recounted_changed}
use Rattle.laws.specs.Orders.Moves.{moved_from, moved_entry, moved_permutation, back_beyond, on_beyond}

-- the entries of 64 places after the one at place p was moved behind the one at place q
unfoldable pub shifted : List ℕ → ℕ → ℕ → List ℕ
shifted xs p q = map (λ i. get_or xs (moved_from p q i) 0) (upto 64)

-- where an entry comes from is a place below n
pub from_below : (n p q i : ℕ) → p < n → q < n → i < n → moved_from p q i < n
unfolding moved_from
from_below n p q i hp hq h =
    either (ltb q p) (either (leb i q) h (either (eqb i (suc q)) hp (either (leb i p) (omega arith) h)))
    (either (ltb i p) h (shift (order i q)))
  where
    either : (b : Bool) {x y : ℕ} → x < n → y < n → cond b x y < n
    either true a b = a
    either false a b = b

    shift : Order i q → cond (ltb i q) (suc i) (cond (eqb i q) p i) < n
    shift (less l) = either (ltb i q) (omega arith) (either (eqb i q) hp h)
    shift (same e) = rw (le-ltb i q (omega arith)) (either (eqb i q) hp h)
    shift (more l) = rw (le-ltb i q (omega arith)) (either (eqb i q) hp h)

-- and from n on it is the place itself
pub from_beyond : (n p q i : ℕ) → p < n → q < n → (p ≡ q → ⊥) → n ≤ i → moved_from p q i ≡ i
from_beyond n p q i hp hq d h =
    elim (order q p) [ less l ↦ back_beyond p q l i (omega arith) | same e ↦ absurd (d (sym e)) | more l ↦ on_beyond p q l i (omega arith) ]

-- ---- the order of a layout, as an array

-- the moved list before the unused places is the array with its entries shifted
pub shifted_moved : (n : ℕ) (places : List ℕ) → length places ≡ 64 → n ≤ 64 → Permutation n (take n places)
    → (a b : ℕ) → a < n → b < n → (a ≡ b → ⊥)
    → shifted places (place (take n places) a) (place (take n places) b) ≡ moved_after a b (take n places) ++ drop n places
unfolding shifted
shifted_moved n places size small perm a b ha hb d =
    ext_get_or 0 (map entry (upto 64)) (moved ++ drop n places)
    (length-map (upto 64) entry ∙ length_upto 64 ∙ sym (length-append moved (drop n places) ∙ omega (arith, moved_size, length-drop n places)))
    (λ i l. map_upto_at entry 64 i (rw (length-map (upto 64) entry, length_upto 64) at l) ∙ sym (by_place i (order i n)))
  where
    p : ℕ
    p = place (take n places) a

    q : ℕ
    q = place (take n places) b

    entry : ℕ → ℕ
    entry i = get_or places (moved_from p q i) 0

    moved : List ℕ
    moved = moved_after a b (take n places)

    moved_size : length moved ≡ n
    moved_size = (moved_permutation perm a ha b hb d).size

    apart : p ≡ q → ⊥
    apart e = d (sym (at_of_place perm a ha) ∙ ap (at (take n places)) e ∙ at_of_place perm b hb)

    beyond : (i : ℕ) → n ≤ i → get_or (moved ++ drop n places) i 0 ≡ entry i
    beyond i l =
        ap (λ (k : ℕ). get_or (moved ++ drop n places) k 0) (omega (arith, moved_size))
        ∙ get_or-append-add moved (drop n places) (i - n) 0
        ∙ get_or-drop n places (i - n) 0
        ∙ ap (λ (k : ℕ). get_or places k 0) (rejoin ∙ sym (from_beyond n p q i (place_below perm a ha) (place_below perm b hb) apart l))
      where
        rejoin : n + (i - n) ≡ i
        rejoin = omega arith

    by_place : (i : ℕ) → Order i n → get_or (moved ++ drop n places) i 0 ≡ entry i
    by_place i (less l) =
        get_or-append moved (drop n places) 0 i (omega (arith, moved_size))
        ∙ moved_entry perm a ha b hb d i
        ∙ get_or-take n places (moved_from p q i) 0 (from_below n p q i (place_below perm a ha) (place_below perm b hb) l)
    by_place i (same e) = beyond i (omega arith)
    by_place i (more l) = beyond i (omega arith)

-- a layout with its vertices in another order, by the counter
pub reordered_recounted : (l : Layout) (o : List ℕ) → T (valid l) → Permutation l.n o → {places : List ℕ} → places ≡ o ++ drop l.n l.order
    → recounted l l.n places l.adjacency l.weights ≡ reordered l o
unfolding reordered
reordered_recounted l o t perm e =
    ap (λ (x : List ℕ). recounted l l.n x l.adjacency l.weights) e
    ∙ recounted_changed l l.n (o ++ drop l.n l.order) l.adjacency l.weights t (reordered_valid l o t perm)

-- ---- the place of a vertex, found by going through the list

-- v is not among the first i entries
abbrev pub NotBefore : ℕ → List ℕ → ℕ → Type 0
NotBefore v xs i = (i ≤ length xs) × ((k : ℕ) → k < i → get_or xs k 0 ≡ v → ⊥)

pub place_found : (v : ℕ) (xs : List ℕ) (i : ℕ) → NotBefore v xs i → i < length xs → get_or xs i 0 ≡ v → i ≡ place xs v
unfolding place
place_found v [] i n h e = absurd (not-suc-le-zero h)
place_found v (x ∷ xs) zero n h e = rw (eq-eqb v x (sym e))
place_found v (x ∷ xs) (suc i) n h e =
    rw (ne_eqb v x (λ d. n.1 0 (omega arith) (sym d)))
    (ap suc (place_found v xs i (le_of_suc-le-suc n.0, λ k l. n.1 (suc k) (suc-le-suc l)) (le_of_suc-le-suc h) e))

pub place_missing : (v : ℕ) (xs : List ℕ) (i : ℕ) → NotBefore v xs i → length xs ≤ i → i ≡ place xs v
unfolding place
place_missing v [] zero n h = refl
place_missing v [] (suc i) n h = absurd (not-suc-le-zero n.0)
place_missing v (x ∷ xs) zero n h = absurd (not-suc-le-zero h)
place_missing v (x ∷ xs) (suc i) n h =
    rw (ne_eqb v x (λ d. n.1 0 (omega arith) (sym d)))
    (ap suc (place_missing v xs i (le_of_suc-le-suc n.0, λ k l. n.1 (suc k) (suc-le-suc l)) (le_of_suc-le-suc h)))

-- so of what a search answers: the place found, or else the length
pub place_at : (v : ℕ) (xs : List ℕ) (found : Option ℕ) {r : ℕ}
    → MatchOption found (NotBefore v xs (length xs)) (λ i. NotBefore v xs i × (i < length xs) × (get_or xs i 0 ≡ v))
    → r ≡ unwrap_or found (length xs) → r ≡ place xs v
place_at v xs None t e = e ∙ place_missing v xs (length xs) t (le_refl (length xs))
place_at v xs (Some i) t e = e ∙ place_found v xs i t.0 t.1 t.2

-- the array that moving by places gives
pub moved_array : {l : Layout} {a b : ℕ} → Pair l a b → length l.order ≡ 64 → {p q : ℕ} {places : List ℕ}
    → p ≡ place (vertex_order l) a → q ≡ place (vertex_order l) b → places ≡ cond (ltb p 64 && ltb q 64) (shifted l.order p q) l.order
    → places ≡ moved_after a b (vertex_order l) ++ drop l.n l.order
unfolding vertex_order
moved_array {l} {a} {b} pair size {p} {q} {places} hp hq e =
    e
    ∙ ap (λ (t : Bool). cond t (shifted l.order p q) l.order)
    (ap₂ ◌&&◌ (lt-ltb p 64 (omega (arith, below_p, small))) (lt-ltb q 64 (omega (arith, below_q, small))))
    ∙ ap₂ (shifted l.order) hp hq
    ∙ shifted_moved l.n l.order size small perm a b pair.first pair.second pair.different
  where
    small : l.n ≤ 64
    small = (sound l pair.is_valid_lem).small

    perm : Permutation l.n (take l.n l.order)
    perm = (sound l pair.is_valid_lem).permutation

    below_p : p < l.n
    below_p = rw hp (place_below perm a pair.first)

    below_q : q < l.n
    below_q = rw hq (place_below perm b pair.second)

-- the layout of an accepted move, by the counter
pub move_recounted : {l : Layout} {a b : ℕ} → Pair l a b → {places : List ℕ} → places ≡ moved_after a b (vertex_order l) ++ drop l.n l.order
    → recounted l l.n places l.adjacency l.weights ≡ reordered l (moved_after a b (vertex_order l))
move_recounted {l} {a} {b} pair e =
    reordered_recounted l (moved_after a b (vertex_order l)) pair.is_valid_lem
    (moved_permutation (sound l pair.is_valid_lem).permutation a pair.first b pair.second pair.different) e
