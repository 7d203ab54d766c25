-- Moving a vertex behind another, in a list that holds each vertex once.
use Rattle.std.specs.Prelude.{ℕ, suc, ◌+◌, ◌-◌, ◌≤◌, ◌<◌, ◌≡◌, refl, Bool, true, false, not, cond, List, [], ◌∷◌, ◌++◌, length, take, drop, eqb, leb, ltb}
use Rattle.std.proofs.Common.{add-sub_of_le, not-suc-le-zero, arith, sym, ◌∙◌, subst, length-append, length-drop, take-append-drop, length-take-le, get_or-take, get_or-drop, get_or-append-add}
use Rattle.std.proofs.Math.Path.{ap}
use Rattle.std.proofs.Math.ListN.{get_or-append}
use Rattle.std.proofs.lemmas.List.{get_or_at}
use borrow.Author.Tests.{eq-eqb, ne_eqb, lt-ltb, le-ltb, le-leb, lt-leb}
use Rattle.model.specs.Lists.{one, keep, sum_over, occurrences, place}
use Rattle.model.specs.Edits.{insert_after, moved_after}
use Rattle.laws.specs.Sums.Indicators.{less, same, more, order, one_ne}
use Rattle.laws.specs.Orders.Permutations.{at, occurrences_cons, occurrences_append, occurrences_split, Permutation, place_lt, place_at_lem, at_of_place}
use Rattle.laws.specs.Orders.Permutations.{place_below}

-- a list without the vertex a
abbrev pub without : ℕ → List ℕ → List ℕ
without a o = keep (λ x. not (eqb a x)) o

-- ---- taken out and put back: what is left without a stays the same

-- nothing more to take out
pub without_absent : (a : ℕ) (xs : List ℕ) → occurrences a xs ≡ 0 → without a xs ≡ xs
unfolding keep occurrences sum_over one
without_absent a [] e = refl
without_absent a (x ∷ xs) e = by_test (eqb a x) e (without_absent a xs)
  where
    by_test : (b : Bool) → one b + sum_over (λ y. one (eqb a y)) xs ≡ 0 → (sum_over (λ y. one (eqb a y)) xs ≡ 0 → without a xs ≡ xs)
        → cond (not b) (x ∷ without a xs) (without a xs) ≡ x ∷ xs
    by_test true k r = absurd (omega arith)
    by_test false k r = ap (λ (ys : List ℕ). x ∷ ys) (r (omega arith))

without_twice : (a : ℕ) (xs : List ℕ) → without a (without a xs) ≡ without a xs
unfolding keep
without_twice a [] = refl
without_twice a (x ∷ xs) = by_test (eqb a x) refl (without_twice a xs)
  where
    by_test : (b : Bool) → eqb a x ≡ b → without a (without a xs) ≡ without a xs
        → without a (cond (not b) (x ∷ without a xs) (without a xs)) ≡ cond (not b) (x ∷ without a xs) (without a xs)
    by_test true k r = r
    by_test false k r = rw k (ap (λ (ys : List ℕ). x ∷ ys) r)

without_inserted : (b a : ℕ) (xs : List ℕ) → without a (insert_after b a xs) ≡ without a xs
unfolding keep insert_after
without_inserted b a [] = refl
without_inserted b a (x ∷ xs) = by_test (eqb b x) (without_inserted b a xs)
  where
    by_test : (t : Bool) → without a (insert_after b a xs) ≡ without a xs
        → without a (cond t (x ∷ a ∷ xs) (x ∷ insert_after b a xs)) ≡ without a (x ∷ xs)
    by_test true r = rw (eq-eqb a a refl)
    by_test false r = ap (λ (ys : List ℕ). cond (not (eqb a x)) (x ∷ ys) ys) r

-- moving a changes nothing of the list without a
pub without_moved : (a b : ℕ) (o : List ℕ) → without a (moved_after a b o) ≡ without a o
unfolding moved_after
without_moved a b o = without_inserted b a (without a o) ∙ without_twice a o

-- so of two moves of a only the second counts
pub moved_again : (a b c : ℕ) (o : List ℕ) → moved_after a c (moved_after a b o) ≡ moved_after a c o
unfolding moved_after
moved_again a b c o = ap (insert_after c a) (without_moved a b o)

-- ---- by places

-- the entry at place p taken out, and a put in before place r
abbrev pub taken_out : ℕ → List ℕ → List ℕ
taken_out p o = take p o ++ drop (suc p) o

abbrev pub put_in : ℕ → ℕ → List ℕ → List ℕ
put_in r a xs = take r xs ++ a ∷ drop r xs

pub without_place : (a : ℕ) (o : List ℕ) → occurrences a o ≡ 1 → without a o ≡ taken_out (place o a) o
unfolding keep occurrences sum_over one place
without_place a [] e = refl
without_place a (x ∷ xs) e = by_test (eqb a x) e (without_place a xs) (without_absent a xs)
  where
    by_test : (b : Bool) → one b + occurrences a xs ≡ 1 → (occurrences a xs ≡ 1 → without a xs ≡ taken_out (place xs a) xs)
        → (occurrences a xs ≡ 0 → without a xs ≡ xs)
        → cond (not b) (x ∷ without a xs) (without a xs) ≡ taken_out (cond b 0 (suc (place xs a))) (x ∷ xs)
    by_test true k r s = s (omega arith)
    by_test false k r s = ap (λ (ys : List ℕ). x ∷ ys) (r (omega arith))

pub inserted_place : (b a : ℕ) (xs : List ℕ) → 0 < occurrences b xs → insert_after b a xs ≡ put_in (suc (place xs b)) a xs
unfolding insert_after occurrences sum_over one place
inserted_place b a [] h = absurd (not-suc-le-zero h)
inserted_place b a (x ∷ xs) h = by_test (eqb b x) h (inserted_place b a xs)
  where
    by_test : (t : Bool) → 0 < one t + occurrences b xs → (0 < occurrences b xs → insert_after b a xs ≡ put_in (suc (place xs b)) a xs)
        → cond t (x ∷ a ∷ xs) (x ∷ insert_after b a xs) ≡ put_in (suc (cond t 0 (suc (place xs b)))) a (x ∷ xs)
    by_test true k r = refl
    by_test false k r = ap (λ (ys : List ℕ). x ∷ ys) (r (omega arith))

-- taking out the entry at a place, and putting one in, by length and by how often each vertex occurs
length_taken_out : (p : ℕ) (o : List ℕ) → p < length o → suc (length (taken_out p o)) ≡ length o
length_taken_out p o h = rw (length-append (take p o) (drop (suc p) o), length-take-le p o (omega arith), length-drop (suc p) o) (omega arith)

length_put_in : (r a : ℕ) (xs : List ℕ) → r ≤ length xs → length (put_in r a xs) ≡ suc (length xs)
length_put_in r a xs h = rw (length-append (take r xs) (a ∷ drop r xs), length-take-le r xs h, length-drop r xs) (omega arith)

occurrences_taken_out : (v p : ℕ) (o : List ℕ) → p < length o → occurrences v o ≡ one (eqb v (at o p)) + occurrences v (taken_out p o)
occurrences_taken_out v p o h = occurrences_split v o p h ∙ rw (occurrences_append v (take p o) (drop (suc p) o)) (omega arith)

occurrences_put_in : (v r a : ℕ) (xs : List ℕ) → occurrences v (put_in r a xs) ≡ one (eqb v a) + occurrences v xs
occurrences_put_in v r a xs =
    rw (occurrences_append v (take r xs) (a ∷ drop r xs), occurrences_cons v a (drop r xs))
    (omega (arith, occurrences_append v (take r xs) (drop r xs), ap (occurrences v) (take-append-drop r xs)))

-- and entry by entry
pub at_left : (xs ys : List ℕ) (m i : ℕ) → length xs ≡ m → i < m → at (xs ++ ys) i ≡ at xs i
at_left xs ys m i e h = get_or-append xs ys 0 i (omega arith)

pub at_right : (xs ys : List ℕ) (m i : ℕ) → length xs ≡ m → at (xs ++ ys) (m + i) ≡ at ys i
at_right xs ys m i e = ap (λ (k : ℕ). at (xs ++ ys) (k + i)) (sym e) ∙ get_or-append-add xs ys i 0

module _ (p : ℕ) (o : List ℕ) (h : p ≤ length o) where
  taken_out_before : (i : ℕ) → i < p → at (taken_out p o) i ≡ at o i
  taken_out_before i l = at_left (take p o) (drop (suc p) o) p i (length-take-le p o h) l ∙ get_or-take p o i 0 l

  taken_out_after : (i : ℕ) → p ≤ i → at (taken_out p o) i ≡ at o (suc i)
  taken_out_after i l =
      ap (at (taken_out p o)) (sym (add-sub_of_le l))
      ∙ at_right (take p o) (drop (suc p) o) p (i - p) (length-take-le p o h)
      ∙ get_or-drop (suc p) o (i - p) 0
      ∙ ap (at o) (omega arith)

module _ (r a : ℕ) (xs : List ℕ) (h : r ≤ length xs) where
  put_in_before : (i : ℕ) → i < r → at (put_in r a xs) i ≡ at xs i
  put_in_before i l = at_left (take r xs) (a ∷ drop r xs) r i (length-take-le r xs h) l ∙ get_or-take r xs i 0 l

  put_in_at : at (put_in r a xs) r ≡ a
  put_in_at = get_or_at (take r xs) a (drop r xs) 0 r (length-take-le r xs h)

  put_in_after : (i : ℕ) → r ≤ i → at (put_in r a xs) (suc i) ≡ at xs i
  put_in_after i l =
      ap (at (put_in r a xs)) (omega arith)
      ∙ at_right (take r xs) (a ∷ drop r xs) r (suc (i - r)) (length-take-le r xs h)
      ∙ get_or-drop r xs (i - r) 0
      ∙ ap (at xs) (add-sub_of_le l)

-- ---- a vertex moved in a list that holds each once

-- the place of the list before, of the entry that stands at place i once the entry at place p is moved behind the one at place q
unfoldable pub moved_from : ℕ → ℕ → ℕ → ℕ
moved_from p q i =
    cond (ltb q p)
    (cond (leb i q) i (cond (eqb i (suc q)) p (cond (leb i p) (i - 1) i)))
    (cond (ltb i p) i (cond (ltb i q) (suc i) (cond (eqb i q) p i)))

-- moved back, behind an earlier entry
module _ (p q : ℕ) (h : q < p) where
  pub back_kept : (i : ℕ) → i ≤ q → moved_from p q i ≡ i
  unfolding moved_from
  back_kept i l = rw (lt-ltb q p h, le-leb i q l)

  pub back_put : moved_from p q (suc q) ≡ p
  unfolding moved_from
  back_put = rw (lt-ltb q p h, lt-leb (suc q) q (omega arith), eq-eqb (suc q) (suc q) refl)

  pub back_shifted : (i : ℕ) → q < i → i < p → moved_from p q (suc i) ≡ i
  unfolding moved_from
  back_shifted i l m =
      rw (lt-ltb q p h, lt-leb (suc i) q (omega arith), ne_eqb (suc i) (suc q) (λ e. omega arith), le-leb (suc i) p m) (omega arith)

  pub back_beyond : (i : ℕ) → p < i → moved_from p q i ≡ i
  unfolding moved_from
  back_beyond i l = rw (lt-ltb q p h, lt-leb i q (omega arith), ne_eqb i (suc q) (λ e. omega arith), lt-leb i p l)

-- moved on, behind a later entry
module _ (p q : ℕ) (h : p < q) where
  pub on_kept : (i : ℕ) → i < p → moved_from p q i ≡ i
  unfolding moved_from
  on_kept i l = rw (le-ltb q p (omega arith), lt-ltb i p l)

  pub on_shifted : (i : ℕ) → p ≤ i → i < q → moved_from p q i ≡ suc i
  unfolding moved_from
  on_shifted i l m = rw (le-ltb q p (omega arith), le-ltb i p l, lt-ltb i q m)

  pub on_put : moved_from p q q ≡ p
  unfolding moved_from
  on_put = rw (le-ltb q p (omega arith), le-ltb q q (omega arith), eq-eqb q q refl)

  pub on_beyond : (i : ℕ) → q < i → moved_from p q i ≡ i
  unfolding moved_from
  on_beyond i l = rw (le-ltb q p (omega arith), le-ltb i p (omega arith), le-ltb i q (omega arith), ne_eqb i q (λ e. omega arith))

-- the entries of the list with its entry at place p moved, one by one
module _ (p q a : ℕ) (o : List ℕ) (there : at o p ≡ a) where
  entry_back : q < p → p < length o → (i : ℕ) → at (put_in (suc q) a (taken_out p o)) i ≡ at o (moved_from p q i)
  entry_back h l i =
      elim (order i (suc q)) [
        | less k ↦
            put_in_before (suc q) a (taken_out p o) fits i k
            ∙ taken_out_before p o (omega arith) i (omega arith)
            ∙ ap (at o) (sym (back_kept p q h i (omega arith)))
        | same e ↦
            subst (λ (k : ℕ). at (put_in (suc q) a (taken_out p o)) k ≡ at o (moved_from p q k)) (sym e)
            (put_in_at (suc q) a (taken_out p o) fits ∙ sym there ∙ ap (at o) (sym (back_put p q h)))
        | more k ↦
            subst (λ (k : ℕ). at (put_in (suc q) a (taken_out p o)) k ≡ at o (moved_from p q k)) (omega arith) (later (i - 1) (omega arith))
      ]
    where
      fits : suc q ≤ length (taken_out p o)
      fits = omega (arith, length_taken_out p o l)

      later : (j : ℕ) → q < j → at (put_in (suc q) a (taken_out p o)) (suc j) ≡ at o (moved_from p q (suc j))
      later j k =
          put_in_after (suc q) a (taken_out p o) fits j k
          ∙ elim (order j p) [
            | less m ↦ taken_out_before p o (omega arith) j m ∙ ap (at o) (sym (back_shifted p q h j k m))
            | same e ↦ taken_out_after p o (omega arith) j (omega arith) ∙ ap (at o) (sym (back_beyond p q h (suc j) (omega arith)))
            | more m ↦ taken_out_after p o (omega arith) j (omega arith) ∙ ap (at o) (sym (back_beyond p q h (suc j) (omega arith)))
          ]

  entry_on : p < q → q < length o → (i : ℕ) → at (put_in q a (taken_out p o)) i ≡ at o (moved_from p q i)
  entry_on h l i =
      elim (order i q) [
        | less k ↦
            put_in_before q a (taken_out p o) fits i k
            ∙ elim (order i p) [
              | less m ↦ taken_out_before p o (omega arith) i m ∙ ap (at o) (sym (on_kept p q h i m))
              | same e ↦ taken_out_after p o (omega arith) i (omega arith) ∙ ap (at o) (sym (on_shifted p q h i (omega arith) k))
              | more m ↦ taken_out_after p o (omega arith) i (omega arith) ∙ ap (at o) (sym (on_shifted p q h i (omega arith) k))
            ]
        | same e ↦
            subst (λ (k : ℕ). at (put_in q a (taken_out p o)) k ≡ at o (moved_from p q k)) (sym e)
            (put_in_at q a (taken_out p o) fits ∙ sym there ∙ ap (at o) (sym (on_put p q h)))
        | more k ↦
            subst (λ (k : ℕ). at (put_in q a (taken_out p o)) k ≡ at o (moved_from p q k)) (omega arith) (later (i - 1) (omega arith))
      ]
    where
      fits : q ≤ length (taken_out p o)
      fits = omega (arith, length_taken_out p o (omega arith))

      later : (j : ℕ) → q ≤ j → at (put_in q a (taken_out p o)) (suc j) ≡ at o (moved_from p q (suc j))
      later j k =
          put_in_after q a (taken_out p o) fits j k
          ∙ taken_out_after p o (omega arith) j (omega arith)
          ∙ ap (at o) (sym (on_beyond p q h (suc j) (omega arith)))

-- a vertex that occurs once stands at one place
place_unique : (xs : List ℕ) (v i : ℕ) → i < length xs → at xs i ≡ v → occurrences v xs ≡ 1 → place xs v ≡ i
place_unique xs v i h e k = ap (place xs) (sym e) ∙ place_at_lem xs i h (ap (λ (x : ℕ). occurrences x xs) e ∙ k)

module _ {n : ℕ} {o : List ℕ} (perm : Permutation n o) (a : ℕ) (ha : a < n) where
  -- the list without a
  taken : without a o ≡ taken_out (place o a) o
  taken = without_place a o (perm.once a ha)

  place_a : place o a < length o
  place_a = place_lt o a (omega (arith, perm.once a ha))

  -- its length, and how often each vertex occurs in it
  rest_length : suc (length (taken_out (place o a) o)) ≡ n
  rest_length = length_taken_out (place o a) o place_a ∙ perm.size

  rest_occurrences : (v : ℕ) → occurrences v o ≡ one (eqb v a) + occurrences v (taken_out (place o a) o)
  rest_occurrences v =
      occurrences_taken_out v (place o a) o place_a
      ∙ ap (λ (x : ℕ). one (eqb v x) + occurrences v (taken_out (place o a) o)) (at_of_place perm a ha)

  module _ (b : ℕ) (hb : b < n) (d : a ≡ b → ⊥) where
    rest_once : occurrences b (taken_out (place o a) o) ≡ 1
    rest_once = omega (arith, rest_occurrences b, one_ne b a (λ e. d (sym e)), perm.once b hb)

    moved_put : moved_after a b o ≡ put_in (suc (place (taken_out (place o a) o) b)) a (taken_out (place o a) o)
    unfolding moved_after
    moved_put = ap (insert_after b a) taken ∙ inserted_place b a (taken_out (place o a) o) (omega (arith, rest_once))

    behind_b : place (taken_out (place o a) o) b < length (taken_out (place o a) o)
    behind_b = place_lt (taken_out (place o a) o) b (omega (arith, rest_once))

    -- each vertex is still held once
    pub moved_permutation : Permutation n (moved_after a b o)
    moved_permutation =
        record {
          size =
              ap length moved_put
              ∙ length_put_in (suc (place (taken_out (place o a) o) b)) a (taken_out (place o a) o) behind_b
              ∙ rest_length;
          once = λ v h.
              ap (occurrences v) moved_put
              ∙ occurrences_put_in v (suc (place (taken_out (place o a) o) b)) a (taken_out (place o a) o)
              ∙ sym (rest_occurrences v)
              ∙ perm.once v h;
        }

    -- where b stands once a is taken out
    place_back_lem : place o b < place o a → place (taken_out (place o a) o) b ≡ place o b
    place_back_lem l =
        place_unique (taken_out (place o a) o) b (place o b) (omega (arith, rest_length, perm.size, place_a))
        (taken_out_before (place o a) o (omega (arith, place_a)) (place o b) l ∙ at_of_place perm b hb) rest_once

    place_on : place o a < place o b → suc (place (taken_out (place o a) o) b) ≡ place o b
    place_on l =
        ap suc (place_unique (taken_out (place o a) o) b (place o b - 1) (omega (arith, rest_length, place_below perm b hb))
        (taken_out_after (place o a) o (omega (arith, place_a)) (place o b - 1) (omega arith)
        ∙ ap (at o) (omega arith) ∙ at_of_place perm b hb) rest_once)
        ∙ omega arith

    -- where the entry at each place comes from
    pub moved_entry : (i : ℕ) → at (moved_after a b o) i ≡ at o (moved_from (place o a) (place o b) i)
    moved_entry i =
        ap (λ (xs : List ℕ). at xs i) moved_put
        ∙ elim (order (place o a) (place o b)) [
          | less l ↦
              ap (λ (r : ℕ). at (put_in r a (taken_out (place o a) o)) i) (place_on l)
              ∙ entry_on (place o a) (place o b) a o (at_of_place perm a ha) l (omega (arith, perm.size, place_below perm b hb)) i
          | same e ↦ absurd (d (sym (at_of_place perm a ha) ∙ ap (at o) e ∙ at_of_place perm b hb))
          | more l ↦
              ap (λ (r : ℕ). at (put_in (suc r) a (taken_out (place o a) o)) i) (place_back_lem l)
              ∙ entry_back (place o a) (place o b) a o (at_of_place perm a ha) l place_a i
        ]
