-- The crossings of a list, by its entries: a sum over each four of them, in their sequence. Over any weight of the edges.
use Rattle.std.specs.Prelude.{ℕ, suc, ◌+◌, ◌*◌, ◌≡◌, length, ltb}
use Rattle.std.proofs.Common.{zero-add, zero-mul, one-mul, mul_assoc, arith, sym, ap, ◌∙◌}
use Rattle.std.proofs.Math.Path.{refl, ap₂}
use mathlib.Core.List.{List, [], ◌∷◌, ◌++◌}
use Rattle.std.proofs.Math.Dec.{leb-zero, leb-suc-zero, leb-suc-suc}
use Rattle.model.specs.Lists.{one, sum_over, sum_pairs}
use Rattle.model.specs.Crossings.{crossings}
use Rattle.laws.specs.Sums.Ranges.{sum, sum_scale, sum_first, sum4}
use Rattle.laws.specs.Sums.Lists.{All, none, also, sum_over_add, sum_over_places, sum_pairs_last, sum_pairs_ext}
use Rattle.laws.specs.Orders.Permutations.{at, Permutation}
use Rattle.laws.specs.Sums.Pairs.{Symmetric}
use Rattle.laws.specs.Crossings.Alternation.{rising}
use Rattle.laws.specs.Crossings.Counting.{crossing_sum, placed}
use Rattle.laws.specs.Crossings.Edges.{crossings_sum}

-- ---- sums over each three and each four entries of a list, in their sequence

module _ {A : Type 0} where
  unfoldable pub sum_triples : (A → A → A → ℕ) → List A → ℕ
  sum_triples f [] = 0
  sum_triples f (x ∷ xs) = sum_pairs (f x) xs + sum_triples f xs

  unfoldable pub sum_quads : (A → A → A → A → ℕ) → List A → ℕ
  sum_quads f [] = 0
  sum_quads f (x ∷ xs) = sum_triples (f x) xs + sum_quads f xs

  -- one entry more at the end
  module _ (v : A) where
    pub triples_last : (f : A → A → A → ℕ) (xs : List A) → sum_triples f (xs ++ (v ∷ [])) ≡ sum_triples f xs + sum_pairs (λ x y. f x y v) xs
    unfolding sum_triples sum_pairs sum_over
    triples_last f [] = refl
    triples_last f (x ∷ xs) = rw (sum_pairs_last v (f x) xs, triples_last f xs) (omega arith)

    pub quads_last : (f : A → A → A → A → ℕ) (xs : List A) → sum_quads f (xs ++ (v ∷ [])) ≡ sum_quads f xs + sum_triples (λ x y z. f x y z v) xs
    unfolding sum_quads sum_triples sum_pairs
    quads_last f [] = refl
    quads_last f (x ∷ xs) = rw (triples_last (f x) xs, quads_last f xs) (omega arith)

  -- the same terms, and addition
  pub sum_triples_ext : {P : A → Type 0} (f g : A → A → A → ℕ) {xs : List A} → All P xs
      → ((x y z : A) → P x → P y → P z → f x y z ≡ g x y z) → sum_triples f xs ≡ sum_triples g xs
  unfolding sum_triples
  sum_triples_ext f g none h = refl
  sum_triples_ext f g (also {x} p ps) h =
      ap₂ (λ (a b : ℕ). a + b) (sum_pairs_ext (f x) (g x) ps (λ y z. h x y z p)) (sum_triples_ext f g ps h)

  pub sum_quads_ext : {P : A → Type 0} (f g : A → A → A → A → ℕ) {xs : List A} → All P xs
      → ((w x y z : A) → P w → P x → P y → P z → f w x y z ≡ g w x y z) → sum_quads f xs ≡ sum_quads g xs
  unfolding sum_quads
  sum_quads_ext f g none h = refl
  sum_quads_ext f g (also {x} p ps) h =
      ap₂ (λ (a b : ℕ). a + b) (sum_triples_ext (f x) (g x) ps (λ y z w. h x y z w p)) (sum_quads_ext f g ps h)

  sum_pairs_add : (f g : A → A → ℕ) (xs : List A) → sum_pairs (λ x y. f x y + g x y) xs ≡ sum_pairs f xs + sum_pairs g xs
  unfolding sum_pairs
  sum_pairs_add f g [] = refl
  sum_pairs_add f g (x ∷ xs) = rw (sum_over_add (f x) (g x) xs, sum_pairs_add f g xs) (omega arith)

  pub sum_triples_add : (f g : A → A → A → ℕ) (xs : List A) → sum_triples (λ x y z. f x y z + g x y z) xs ≡ sum_triples f xs + sum_triples g xs
  unfolding sum_triples
  sum_triples_add f g [] = refl
  sum_triples_add f g (x ∷ xs) = rw (sum_pairs_add (f x) (g x) xs, sum_triples_add f g xs) (omega arith)

  pub sum_quads_add : (f g : A → A → A → A → ℕ) (xs : List A) → sum_quads (λ w x y z. f w x y z + g w x y z) xs ≡ sum_quads f xs + sum_quads g xs
  unfolding sum_quads
  sum_quads_add f g [] = refl
  sum_quads_add f g (x ∷ xs) = rw (sum_triples_add (f x) (g x) xs, sum_quads_add f g xs) (omega arith)

-- the crossings of the edges between vertices of a list, W their weights
unfoldable pub closed_crossings : (ℕ → ℕ → ℕ) → List ℕ → ℕ
closed_crossings W xs = sum_quads (λ a b c d. W a c * W b d) xs

-- ---- over places

-- the sum over the places after i
sum_after : ℕ → ℕ → (ℕ → ℕ) → ℕ
sum_after n i f = sum n (λ j. one (ltb i j) * f j)

sum_after_first : (n : ℕ) (f : ℕ → ℕ) → sum_after (suc n) 0 f ≡ sum n (λ j. f (suc j))
unfolding sum_after one
sum_after_first n f = sum_first n (λ j. one (ltb 0 j) * f j) ∙ simp (leb-suc-suc 0, leb-zero, zero-mul, one-mul, zero-add)

sum_after_next : (n i : ℕ) (f : ℕ → ℕ) → sum_after (suc n) (suc i) f ≡ sum_after n i (λ j. f (suc j))
unfolding sum_after one
sum_after_next n i f = sum_first n (λ j. one (ltb (suc i) j) * f j) ∙ simp (leb-suc-zero, leb-suc-suc, zero-mul, zero-add)

-- the first place taken out
first_out : (n : ℕ) (g : ℕ → ℕ → ℕ)
    → sum (suc n) (λ i. sum_after (suc n) i (g i)) ≡ sum n (λ j. g 0 (suc j)) + sum n (λ i. sum_after n i (λ j. g (suc i) (suc j)))
first_out n g = sum_first n (λ i. sum_after (suc n) i (g i)) ∙ simp (sum_after_first, sum_after_next)

pairs_places : (f : ℕ → ℕ → ℕ) (xs : List ℕ) → sum_pairs f xs ≡ sum (length xs) (λ i. sum_after (length xs) i (λ j. f (at xs i) (at xs j)))
unfolding sum_pairs sum
pairs_places f [] = refl
pairs_places f (x ∷ xs) =
    rw (sum_over_places (f x) 0 xs, pairs_places f xs) (sym (first_out (length xs) (λ i j. f (at (x ∷ xs) i) (at (x ∷ xs) j))))

triples_places : (f : ℕ → ℕ → ℕ → ℕ) (xs : List ℕ)
    → sum_triples f xs ≡ sum (length xs) (λ i. sum_after (length xs) i (λ j. sum_after (length xs) j (λ k. f (at xs i) (at xs j) (at xs k))))
unfolding sum_triples sum
triples_places f [] = refl
triples_places f (x ∷ xs) =
    rw (pairs_places (f x) xs, triples_places f xs)
    (sym (first_out (length xs) (λ i j. sum_after (suc (length xs)) j (λ k. f (at (x ∷ xs) i) (at (x ∷ xs) j) (at (x ∷ xs) k))) ∙ simp sum_after_next))

quads_places : (f : ℕ → ℕ → ℕ → ℕ → ℕ) (xs : List ℕ)
    → sum_quads f xs
    ≡ sum (length xs) (λ i. sum_after (length xs) i (λ j. sum_after (length xs) j (λ k. sum_after (length xs) k (λ l. f (at xs i) (at xs j) (at xs k) (at xs l)))))
unfolding sum_quads sum
quads_places f [] = refl
quads_places f (x ∷ xs) =
    rw (triples_places (f x) xs, quads_places f xs)
    (sym (first_out (length xs)
    (λ i j. sum_after (suc (length xs)) j (λ k. sum_after (suc (length xs)) k (λ l. f (at (x ∷ xs) i) (at (x ∷ xs) j) (at (x ∷ xs) k) (at (x ∷ xs) l))))
    ∙ simp sum_after_next))

-- the crossings of a list, over its places
pub closed_crossings_lem : (W : ℕ → ℕ → ℕ) (xs : List ℕ) → closed_crossings W xs ≡ crossing_sum (length xs) (placed xs W)
unfolding closed_crossings crossing_sum sum4 sum_after rising
closed_crossings_lem W xs = quads_places (λ a b c d. W a c * W b d) xs ∙ simp (← sum_scale, mul_assoc)

-- the crossings of the model are those of its order
pub crossings_closed_lem : {n : ℕ} {o : List ℕ} → Permutation n o → (W : ℕ → ℕ → ℕ) → Symmetric n W → crossings n o W ≡ closed_crossings W o
crossings_closed_lem {n} {o} perm W s =
    crossings_sum perm W s
    ∙ ap (λ (m : ℕ). crossing_sum m (placed o W)) (sym perm.size)
    ∙ sym (closed_crossings_lem W o)
