-- The walk of a sift: the vertex is exchanged with its next neighbour in the order, again and again, until it has passed all others. Read
-- clockwise from the vertex, each candidate is the others turned by one more.
use Prim.Native.Nat.{ℕ, suc, ◌+◌, ◌-◌, ◌≤◌, ◌<◌}
use Rattle.std.proofs.Common.{add-sub_of_le, add-one, arith, ◌∙◌, length-append, take-suc, get_or-append-add, eq-eqb}
use Rattle.std.specs.Prelude.{◌≡◌, refl, Bool, eqb}
use Rattle.std.proofs.Math.Path.{sym, ap, ap₂}
use Rattle.std.proofs.Math.Bool.{true, false, cond}
use mathlib.Core.List.{List, [], ◌∷◌, ◌++◌, append_assoc, append-nil}
use Rattle.std.proofs.Math.ListN.{length, take, drop, get_or-append}
use Rattle.std.proofs.Math.Seq.{split_at, drop-length, take-length, drop-append-add, take-append_seam, take-append-add}
use Rattle.std.proofs.lemmas.List.{take-append-le, drop-append-le}
use Rattle.model.specs.Lists.{one, sum_over, occurrences, place}
use Rattle.model.specs.Crossings.{crossings}
use Rattle.model.specs.Edits.{insert_after, moved_after}
use Rattle.model.specs.Sifting.{clockwise_from}
use Rattle.laws.specs.Sums.Indicators.{less, same, more, order, one_eq}
use Rattle.laws.specs.Sums.Lists.{All, also, all_at, all_places, all_take, all_drop}
use Rattle.laws.specs.Sums.Pairs.{Symmetric}
use Rattle.laws.specs.Orders.Permutations.{at, occurrences_append, occurrences_last, Permutation, at_lt, at_of_place, place_below}
use Rattle.laws.specs.Orders.Moves.{without_place, moved_permutation}
use Rattle.laws.specs.Crossings.Lists.{closed_crossings, crossings_closed_lem}
use Rattle.laws.specs.Crossings.Exchange.{turned_lists}
use Rattle.laws.specs.Sifting.Candidates.{clockwise_length, clockwise_not, clockwise_once, clockwise_others}

-- ---- a list read clockwise from one of its entries

module _ (u : ℕ) where
  place_split : (xs ys : List ℕ) → occurrences u xs ≡ 0 → place (xs ++ u ∷ ys) u ≡ length xs
  unfolding place occurrences sum_over one
  place_split [] ys e = rw (eq-eqb u u refl)
  place_split (x ∷ xs) ys e = by_test (eqb u x) e (place_split xs ys)
    where
      by_test : (b : Bool) → one b + occurrences u xs ≡ 0 → (occurrences u xs ≡ 0 → place (xs ++ u ∷ ys) u ≡ length xs)
          → cond b 0 (suc (place (xs ++ u ∷ ys) u)) ≡ suc (length xs)
      by_test true k r = absurd (omega arith)
      by_test false k r = ap suc (r (omega arith))

  clockwise_split : (xs ys : List ℕ) → occurrences u xs ≡ 0 → clockwise_from u (xs ++ u ∷ ys) ≡ ys ++ xs
  unfolding clockwise_from
  clockwise_split xs ys e =
      ap (λ (p : ℕ). drop (suc p) (xs ++ u ∷ ys) ++ take p (xs ++ u ∷ ys)) (place_split xs ys e)
      ∙ ap₂ (λ (a b : List ℕ). a ++ b)
      (ap (λ (k : ℕ). drop k (xs ++ u ∷ ys)) (sym (add-one (length xs))) ∙ drop-append-add xs (u ∷ ys) 1)
      (take-append_seam xs (u ∷ ys))

  -- put in behind v
  insert_split : (v : ℕ) (xs ys : List ℕ) → occurrences v xs ≡ 0 → insert_after v u (xs ++ v ∷ ys) ≡ xs ++ v ∷ u ∷ ys
  unfolding insert_after occurrences sum_over one
  insert_split v [] ys e = rw (eq-eqb v v refl)
  insert_split v (x ∷ xs) ys e = by_test (eqb v x) e (insert_split v xs ys)
    where
      by_test : (b : Bool) → one b + occurrences v xs ≡ 0 → (occurrences v xs ≡ 0 → insert_after v u (xs ++ v ∷ ys) ≡ xs ++ v ∷ u ∷ ys)
          → cond b (x ∷ u ∷ (xs ++ v ∷ ys)) (x ∷ insert_after v u (xs ++ v ∷ ys)) ≡ x ∷ (xs ++ v ∷ u ∷ ys)
      by_test true k r = absurd (omega arith)
      by_test false k r = ap (λ (zs : List ℕ). x ∷ zs) (r (omega arith))

  -- so, read clockwise from u, what stood behind v comes first, and v last
  inserted_clockwise : (v : ℕ) (xs ys : List ℕ) → occurrences v xs ≡ 0 → occurrences u (xs ++ (v ∷ [])) ≡ 0
      → clockwise_from u (insert_after v u (xs ++ v ∷ ys)) ≡ ys ++ (xs ++ (v ∷ []))
  inserted_clockwise v xs ys e d =
      ap (clockwise_from u) (insert_split v xs ys e ∙ sym (append_assoc xs (v ∷ []) (u ∷ ys))) ∙ clockwise_split (xs ++ (v ∷ [])) ys d

-- how often w occurs in two parts of a list around v
around : (w v : ℕ) (before behind : List ℕ) {zs : List ℕ} → zs ≡ before ++ v ∷ behind
    → occurrences w zs ≡ occurrences w (before ++ (v ∷ [])) + occurrences w behind
around w v before behind e =
    ap (occurrences w) (e ∙ sym (append_assoc before (v ∷ []) behind)) ∙ occurrences_append w (before ++ (v ∷ [])) behind

-- xs ++ ys are the others clockwise from u, so that the list without u is ys ++ xs; v is one of them
module _ (u : ℕ) (xs ys : List ℕ) (v : ℕ) (once : occurrences v (xs ++ ys) ≡ 1) (away : occurrences u (xs ++ ys) ≡ 0) where
  among_first : (before behind : List ℕ) → xs ≡ before ++ v ∷ behind
      → clockwise_from u (insert_after v u (ys ++ xs)) ≡ behind ++ ys ++ (before ++ (v ∷ []))
  among_first before behind e =
      ap (λ (zs : List ℕ). clockwise_from u (insert_after v u zs)) (ap (λ (zs : List ℕ). ys ++ zs) e ∙ sym (append_assoc ys before (v ∷ behind)))
      ∙ inserted_clockwise u v (ys ++ before) behind
      (omega (
        arith,
        once,
        occurrences_append v xs ys,
        occurrences_append v ys before,
        around v v before behind e,
        occurrences_last v v before,
        one_eq v v refl,
      ))
      (omega (
        arith,
        away,
        occurrences_append u xs ys,
        occurrences_append u ys before,
        around u v before behind e,
        occurrences_last u v before,
        occurrences_last u v (ys ++ before),
      ))
      ∙ ap (λ (zs : List ℕ). behind ++ zs) (append_assoc ys before (v ∷ []))
      ∙ sym (append_assoc behind ys (before ++ (v ∷ [])))

  among_second : (before behind : List ℕ) → ys ≡ before ++ v ∷ behind
      → clockwise_from u (insert_after v u (ys ++ xs)) ≡ behind ++ ((xs ++ before) ++ (v ∷ []))
  among_second before behind e =
      ap (λ (zs : List ℕ). clockwise_from u (insert_after v u zs)) (ap (λ (zs : List ℕ). zs ++ xs) e ∙ append_assoc before (v ∷ behind) xs)
      ∙ inserted_clockwise u v before (behind ++ xs)
      (omega (arith, once, occurrences_append v xs ys, around v v before behind e, occurrences_last v v before, one_eq v v refl))
      (omega (arith, away, occurrences_append u xs ys, around u v before behind e))
      ∙ append_assoc behind xs (before ++ (v ∷ []))
      ∙ ap (λ (zs : List ℕ). behind ++ zs) (sym (append_assoc xs before (v ∷ [])))

-- v by its place k among the others
module _ (u : ℕ) (xs ys : List ℕ) (k : ℕ) where
  pub moved_turned : k < length (xs ++ ys) → occurrences (at (xs ++ ys) k) (xs ++ ys) ≡ 1 → occurrences u (xs ++ ys) ≡ 0
      → clockwise_from u (insert_after (at (xs ++ ys) k) u (ys ++ xs)) ≡ drop (suc k) (xs ++ ys) ++ take (suc k) (xs ++ ys)
  moved_turned inside once away =
      elim (order k (length xs)) [
        | less l ↦ first l
        | same e ↦ second (k - length xs) (add-sub_of_le (omega arith))
        | more l ↦ second (k - length xs) (add-sub_of_le (omega arith))
      ]
    where
      v : ℕ
      v = at (xs ++ ys) k

      Turned : Type 0
      Turned = clockwise_from u (insert_after v u (ys ++ xs)) ≡ drop (suc k) (xs ++ ys) ++ take (suc k) (xs ++ ys)

      first : k < length xs → Turned
      first l =
          let here : at xs k ≡ v = sym (get_or-append xs ys 0 k l) in
          among_first u xs ys v once away (take k xs) (drop (suc k) xs)
          (split_at xs k 0 l ∙ ap (λ (a : ℕ). take k xs ++ a ∷ drop (suc k) xs) here)
          ∙ sym
          (ap₂ (λ (a b : List ℕ). a ++ b) (drop-append-le (suc k) xs ys l)
          (take-append-le (suc k) xs ys l ∙ take-suc xs k 0 l ∙ ap (λ (a : ℕ). take k xs ++ (a ∷ [])) here))

      second : (i : ℕ) → length xs + i ≡ k → Turned
      second i e =
          let here : at ys i ≡ v = sym (get_or-append-add xs ys i 0) ∙ ap (at (xs ++ ys)) e in
          let l : i < length ys = omega (arith, length-append xs ys) in
          let next : length xs + suc i ≡ suc k = omega arith in
          among_second u xs ys v once away (take i ys) (drop (suc i) ys)
          (split_at ys i 0 l ∙ ap (λ (a : ℕ). take i ys ++ a ∷ drop (suc i) ys) here)
          ∙ sym
          (ap₂ (λ (a b : List ℕ). a ++ b)
          (ap (λ (j : ℕ). drop j (xs ++ ys)) (sym next) ∙ drop-append-add xs ys (suc i))
          (ap (λ (j : ℕ). take j (xs ++ ys)) (sym next)
          ∙ take-append-add xs ys (suc i)
          ∙ ap (λ (zs : List ℕ). xs ++ zs) (take-suc ys i 0 l ∙ ap (λ (a : ℕ). take i ys ++ (a ∷ [])) here)
          ∙ sym (append_assoc xs (take i ys) (v ∷ []))))

-- ---- the candidates of a sift

module _ {n : ℕ} {o : List ℕ} (perm : Permutation n o) (u : ℕ) (h : u < n) where
  abbrev others : List ℕ
  others = clockwise_from u o

  -- the list by what stands before u and behind it
  parts : o ≡ take (place o u) o ++ u ∷ drop (suc (place o u)) o
  parts =
      split_at o (place o u) 0 (rw perm.size (place_below perm u h))
      ∙ ap (λ (a : ℕ). take (place o u) o ++ a ∷ drop (suc (place o u)) o) (at_of_place perm u h)

  -- the others, one by one
  pub other_at_lem : (k : ℕ) → suc k < n → (at others k < n) × (u ≡ at others k → ⊥)
  other_at_lem k l = all_at 0 (clockwise_others perm u h) k (omega (arith, clockwise_length perm u h))

  pub other_once : (k : ℕ) → suc k < n → occurrences (at others k) others ≡ 1
  other_once k l = let v = other_at_lem k l in clockwise_once perm u h (at others k) v.0 v.1

  -- candidate k, read clockwise from u: the others turned by k + 1
  pub candidate_turned : (k : ℕ) → suc k < n → clockwise_from u (moved_after u (at others k) o) ≡ drop (suc k) others ++ take (suc k) others
  unfolding moved_after clockwise_from
  candidate_turned k l =
      ap (λ (xs : List ℕ). clockwise_from u (insert_after (at others k) u xs)) (without_place u o (perm.once u h))
      ∙ moved_turned u (drop (suc (place o u)) o) (take (place o u) o) k (omega (arith, clockwise_length perm u h)) (other_once k l) (clockwise_not perm u h)

-- ---- their crossings, over any weight

-- the crossings once u has passed the first k of the others
unfoldable pub walked : (ℕ → ℕ → ℕ) → ℕ → List ℕ → ℕ → ℕ
walked W u others k = closed_crossings W (u ∷ (drop k others ++ take k others))

-- a full walk leads back to where it started
pub walked_round : (W : ℕ → ℕ → ℕ) (u : ℕ) (others : List ℕ) → walked W u others (length others) ≡ walked W u others 0
unfolding walked
walked_round W u others =
    ap (λ (xs : List ℕ). closed_crossings W (u ∷ xs))
    (ap₂ (λ (xs ys : List ℕ). xs ++ ys) (drop-length others) (take-length others) ∙ sym (append-nil others))

module _ {n : ℕ} {W : ℕ → ℕ → ℕ} (s : Symmetric n W) where
  -- where the list starts makes no difference
  pub clockwise_crossings : {o : List ℕ} → Permutation n o → (u : ℕ) → u < n → closed_crossings W o ≡ closed_crossings W (u ∷ clockwise_from u o)
  unfolding clockwise_from
  clockwise_crossings {o} perm u h =
      let below : All (λ x. x < n) o = all_places o (λ i l. at_lt perm i (rw perm.size at l)) in
      ap (closed_crossings W) (parts perm u h)
      ∙ turned_lists s (all_take (place o u) below) (also h (all_drop (suc (place o u)) below))

-- and of the model
module _ {n : ℕ} {o : List ℕ} (perm : Permutation n o) (W : ℕ → ℕ → ℕ) (s : Symmetric n W) (u : ℕ) (h : u < n) where
  pub present_walked : crossings n o W ≡ walked W u (clockwise_from u o) 0
  unfolding walked
  present_walked =
      crossings_closed_lem perm W s
      ∙ clockwise_crossings s perm u h
      ∙ ap (λ (xs : List ℕ). closed_crossings W (u ∷ xs)) (sym (append-nil (clockwise_from u o)))

  pub candidate_walked : (k : ℕ) → suc k < n
      → crossings n (moved_after u (at (clockwise_from u o) k) o) W ≡ walked W u (clockwise_from u o) (suc k)
  unfolding walked
  candidate_walked k l =
      let v = other_at_lem perm u h k l in
      let moved = moved_permutation perm u h (at (clockwise_from u o) k) v.0 v.1 in
      crossings_closed_lem moved W s
      ∙ clockwise_crossings s moved u h
      ∙ ap (λ (xs : List ℕ). closed_crossings W (u ∷ xs)) (candidate_turned perm u h k l)

  -- the last candidate has the crossings of the present order, also where u stands first
  pub last_stays : 2 ≤ n → crossings n (moved_after u (at (clockwise_from u o) (n - 2)) o) W ≡ crossings n o W
  last_stays two =
      candidate_walked (n - 2) (omega arith)
      ∙ ap (walked W u (clockwise_from u o)) (omega (arith, clockwise_length perm u h))
      ∙ walked_round W u (clockwise_from u o)
      ∙ sym present_walked
