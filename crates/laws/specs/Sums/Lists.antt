-- Sums over the entries of a list, as sums over a range.
use Prim.Native.Nat.{ℕ, zero, suc, ◌+◌, ◌*◌, ◌-◌, ◌≤◌, ◌<◌, zero-le, suc-le-suc}
use Rattle.std.proofs.Common.{add-zero, lt-suc_self, not-suc-le-zero, le_of_suc-le-suc, ◌∙◌, subst, length-append, length-drop, take_all, length-take-le, get_or-take, get_or-drop, eqb-true, eq-eqb}
use Rattle.std.proofs.Math.Nat.{le_step}
use native.Mathlib.Omega.{arith}
use Rattle.std.specs.Prelude.{◌≡◌, Bool, ◌&&◌, get_or, take, drop, eqb}
use Rattle.std.proofs.Math.Path.{refl, sym, ap, ap₂}
use Rattle.std.proofs.Math.Bool.{true, false, not, cond, and_comm}
use Rattle.std.proofs.lemmas.Bool.{false≢true}
use mathlib.Core.List.{List, [], ◌∷◌, ◌++◌, map, flat_map, append_assoc}
use Rattle.std.proofs.Math.ListN.{length, get_or-append}
use Rattle.std.proofs.Math.Seq.{split_at}
use Rattle.std.proofs.lemmas.List.{get_or_at}
use Rattle.model.specs.Lists.{one, upto, keep, sum_over, sum_pairs}
use Rattle.model.specs.Charts.{same_list}
pub use Rattle.model.specs.Lists.{All, none, also}
use Rattle.laws.specs.Sums.Indicators.{less, same, more, order, both_left, both_right}
use Rattle.laws.specs.Sums.Ranges.{sum, sum_ext, sum_first}

module _ {A : Type 0} where
  pub all_append : {P : A → Type 0} {xs ys : List A} → All P xs → All P ys → All P (xs ++ ys)
  all_append none q = q
  all_append (also p ps) q = also p (all_append ps q)

  pub sum_over_ext : {P : A → Type 0} (f g : A → ℕ) {xs : List A} → All P xs → ((x : A) → P x → f x ≡ g x) → sum_over f xs ≡ sum_over g xs
  unfolding sum_over
  sum_over_ext f g none h = refl
  sum_over_ext f g (also {x} p ps) h = ap₂ (λ (a b : ℕ). a + b) (h x p) (sum_over_ext f g ps h)

  pub sum_over_add : (f g : A → ℕ) (xs : List A) → sum_over (λ x. f x + g x) xs ≡ sum_over f xs + sum_over g xs
  unfolding sum_over
  sum_over_add f g [] = refl
  sum_over_add f g (x ∷ xs) = rw (sum_over_add f g xs) (omega arith)

  -- at most c for each entry
  pub sum_over_most : (f : A → ℕ) (c : ℕ) {xs : List A} → All (λ x. f x ≤ c) xs → sum_over f xs ≤ c * length xs
  unfolding sum_over
  sum_over_most f c none = zero-le
  sum_over_most f c (also {x} {xs} h hs) = omega (arith, sum_over_most f c hs)

  pub sum_over_append : (f : A → ℕ) (xs ys : List A) → sum_over f (xs ++ ys) ≡ sum_over f xs + sum_over f ys
  unfolding sum_over
  sum_over_append f [] ys = omega arith
  sum_over_append f (x ∷ xs) ys = rw (sum_over_append f xs ys) (omega arith)

  pub sum_over_keep : (f : A → ℕ) (p : A → Bool) (xs : List A) → sum_over f (keep p xs) ≡ sum_over (λ x. one (p x) * f x) xs
  unfolding sum_over keep one
  sum_over_keep f p [] = refl
  sum_over_keep f p (x ∷ xs) = by_test (p x) (sum_over_keep f p xs)
    where
      by_test : (b : Bool) → sum_over f (keep p xs) ≡ sum_over (λ x. one (p x) * f x) xs
          → sum_over f (cond b (x ∷ keep p xs) (keep p xs)) ≡ one b * f x + sum_over (λ x. one (p x) * f x) xs
      by_test true e = omega arith
      by_test false e = omega arith

  pub keep_append : (p : A → Bool) (xs ys : List A) → keep p (xs ++ ys) ≡ keep p xs ++ keep p ys
  unfolding keep
  keep_append p [] ys = refl
  keep_append p (x ∷ xs) ys = by_test (p x) (keep_append p xs ys)
    where
      by_test : (b : Bool) → keep p (xs ++ ys) ≡ keep p xs ++ keep p ys
          → cond b (x ∷ keep p (xs ++ ys)) (keep p (xs ++ ys)) ≡ cond b (x ∷ keep p xs) (keep p xs) ++ keep p ys
      by_test true e = ap (λ (l : List A). x ∷ l) e
      by_test false e = e

  -- a factor taken out
  pub sum_over_scale : (c : ℕ) (f : A → ℕ) (xs : List A) → sum_over (λ x. c * f x) xs ≡ c * sum_over f xs
  unfolding sum_over
  sum_over_scale c f [] = omega arith
  sum_over_scale c f (x ∷ xs) = rw (sum_over_scale c f xs) (omega arith)

  pub sum_over_scale_right : (c : ℕ) (f : A → ℕ) (xs : List A) → sum_over (λ x. f x * c) xs ≡ sum_over f xs * c
  unfolding sum_over
  sum_over_scale_right c f [] = omega arith
  sum_over_scale_right c f (x ∷ xs) = rw (sum_over_scale_right c f xs) (omega arith)

  -- one entry more at the end
  pub sum_over_last : (v : A) (f : A → ℕ) (xs : List A) → sum_over f (xs ++ (v ∷ [])) ≡ sum_over f xs + f v
  unfolding sum_over
  sum_over_last v f xs = sum_over_append f xs (v ∷ []) ∙ omega arith

  pub sum_pairs_scale : (c : ℕ) (f : A → A → ℕ) (xs : List A) → sum_pairs (λ x y. c * f x y) xs ≡ c * sum_pairs f xs
  unfolding sum_pairs
  sum_pairs_scale c f [] = omega arith
  sum_pairs_scale c f (x ∷ xs) = rw (sum_over_scale c (f x) xs, sum_pairs_scale c f xs) (omega arith)

  pub sum_pairs_last : (v : A) (f : A → A → ℕ) (xs : List A) → sum_pairs f (xs ++ (v ∷ [])) ≡ sum_pairs f xs + sum_over (λ x. f x v) xs
  unfolding sum_pairs sum_over
  sum_pairs_last v f [] = refl
  sum_pairs_last v f (x ∷ xs) = rw (sum_over_last v (f x) xs, sum_pairs_last v f xs) (omega arith)

  pub sum_pairs_ext : {P : A → Type 0} (f g : A → A → ℕ) {xs : List A} → All P xs → ((x y : A) → P x → P y → f x y ≡ g x y)
      → sum_pairs f xs ≡ sum_pairs g xs
  unfolding sum_pairs
  sum_pairs_ext f g none h = refl
  sum_pairs_ext f g (also {x} p ps) h = ap₂ (λ (a b : ℕ). a + b) (sum_over_ext (f x) (g x) ps (λ y. h x y p)) (sum_pairs_ext f g ps h)

  -- by place
  pub all_at : {P : A → Type 0} {xs : List A} (d : A) → All P xs → (i : ℕ) → i < length xs → P (get_or xs i d)
  all_at d none i h = absurd (not-suc-le-zero h)
  all_at d (also p ps) zero h = p
  all_at d (also p ps) (suc i) h = all_at d ps i (le_of_suc-le-suc h)

  pub sum_over_places : (f : A → ℕ) (d : A) (xs : List A) → sum_over f xs ≡ sum (length xs) (λ i. f (get_or xs i d))
  unfolding sum_over sum
  sum_over_places f d [] = refl
  sum_over_places f d (x ∷ xs) = ap (λ (a : ℕ). f x + a) (sum_over_places f d xs) ∙ sym (sum_first (length xs) (λ i. f (get_or (x ∷ xs) i d)))

  -- each two entries twice are all pairs of entries, where f is symmetric and 0 at an entry and itself
  pub sum_pairs_twice : {P : A → Type 0} (f : A → A → ℕ) {xs : List A} → All P xs
      → ((x y : A) → P x → P y → f x y ≡ f y x) → ((x : A) → P x → f x x ≡ 0)
      → 2 * sum_pairs f xs ≡ sum_over (λ x. sum_over (f x) xs) xs
  unfolding sum_over sum_pairs
  sum_pairs_twice f none s z = refl
  sum_pairs_twice f (also {x} {xs} p ps) s z =
      rw (sum_over_add (λ y. f y x) (λ y. sum_over (f y) xs) xs, ← (sum_pairs_twice f ps s z), z x p)
      (omega (arith, sum_over_ext (λ y. f y x) (f x) ps (λ y q. s y x q p)))

module _ {A B : Type 0} where
  pub flat_map_append : (f : A → List B) (xs ys : List A) → flat_map f (xs ++ ys) ≡ flat_map f xs ++ flat_map f ys
  unfolding flat_map
  flat_map_append f [] ys = refl
  flat_map_append f (x ∷ xs) ys = ap (λ (l : List B). f x ++ l) (flat_map_append f xs ys) ∙ sym (append_assoc (f x) (flat_map f xs) (flat_map f ys))

  pub sum_over_map : (f : B → ℕ) (g : A → B) (xs : List A) → sum_over f (map g xs) ≡ sum_over (λ x. f (g x)) xs
  unfolding sum_over
  sum_over_map f g [] = refl
  sum_over_map f g (x ∷ xs) = ap (λ (a : ℕ). f (g x) + a) (sum_over_map f g xs)

  pub sum_over_flat_map : (f : B → ℕ) (g : A → List B) (xs : List A) → sum_over f (flat_map g xs) ≡ sum_over (λ x. sum_over f (g x)) xs
  unfolding sum_over flat_map
  sum_over_flat_map f g [] = refl
  sum_over_flat_map f g (x ∷ xs) = sum_over_append f (g x) (flat_map g xs) ∙ ap (λ (a : ℕ). sum_over f (g x) + a) (sum_over_flat_map f g xs)

  pub all_map : {P : A → Type 0} (Q : B → Type 0) (g : A → B) {xs : List A} → All P xs → ((x : A) → P x → Q (g x)) → All Q (map g xs)
  all_map Q g none h = none
  all_map Q g (also {x} p ps) h = also (h x p) (all_map Q g ps h)

  pub map_ext : {P : A → Type 0} (f g : A → B) {xs : List A} → All P xs → ((x : A) → P x → f x ≡ g x) → map f xs ≡ map g xs
  map_ext f g none h = refl
  map_ext f g (also {x} p ps) h = ap₂ (λ (y : B) (ys : List B). y ∷ ys) (h x p) (map_ext f g ps h)

  pub flat_map_ext : {P : A → Type 0} (f g : A → List B) {xs : List A} → All P xs → ((x : A) → P x → f x ≡ g x) → flat_map f xs ≡ flat_map g xs
  unfolding flat_map
  flat_map_ext f g none h = refl
  flat_map_ext f g (also {x} p ps) h = ap₂ (λ (ys zs : List B). ys ++ zs) (h x p) (flat_map_ext f g ps h)

  pub all_flat_map : {P : A → Type 0} {Q : B → Type 0} (g : A → List B) {xs : List A} → All P xs → ((x : A) → P x → All Q (g x)) → All Q (flat_map g xs)
  unfolding flat_map
  all_flat_map g none h = none
  all_flat_map g (also {x} p ps) h = all_append (h x p) (all_flat_map g ps h)

-- the numbers below n
pub sum_over_upto : (f : ℕ → ℕ) (n : ℕ) → sum_over f (upto n) ≡ sum n f
unfolding sum_over upto sum
sum_over_upto f zero = refl
sum_over_upto f (suc n) = sum_over_append f (upto n) (n ∷ []) ∙ ap₂ (λ (a b : ℕ). a + b) (sum_over_upto f n) (add-zero (f n))

module _ {A : Type 0} where
  pub all_mono : {P Q : A → Type 0} {xs : List A} → All P xs → ((x : A) → P x → Q x) → All Q xs
  all_mono none h = none
  all_mono (also {x} p ps) h = also (h x p) (all_mono ps h)

  pub keep_ext : {P : A → Type 0} (p q : A → Bool) {xs : List A} → All P xs → ((x : A) → P x → p x ≡ q x) → keep p xs ≡ keep q xs
  unfolding keep
  keep_ext p q none h = refl
  keep_ext p q (also {x} {xs} k ks) h = ap₂ (λ (b : Bool) (ys : List A). cond b (x ∷ ys) ys) (h x k) (keep_ext p q ks h)

  pub all_both : {P Q : A → Type 0} {xs : List A} → All P xs → All Q xs → All (λ x. P x × Q x) xs
  all_both none qs = none
  all_both (also p ps) (also q qs) = also (p, q) (all_both ps qs)

  pub all_keep : {P : A → Type 0} (p : A → Bool) {xs : List A} → All P xs → All P (keep p xs)
  unfolding keep
  all_keep p none = none
  all_keep {P} p (also {x} {xs} q qs) = by_test (p x) (all_keep p qs)
    where
      by_test : (b : Bool) → All P (keep p xs) → All P (cond b (x ∷ keep p xs) (keep p xs))
      by_test true r = also q r
      by_test false r = r

  -- what is kept has passed
  pub all_kept : {P : A → Type 0} (p : A → Bool) {xs : List A} → All P xs → All (λ x. P x × (p x ≡ true)) (keep p xs)
  unfolding keep
  all_kept p none = none
  all_kept {P} p (also {x} {xs} q qs) = by_test (p x) refl (all_kept p qs)
    where
      by_test : (b : Bool) → p x ≡ b → All (λ y. P y × (p y ≡ true)) (keep p xs) → All (λ y. P y × (p y ≡ true)) (cond b (x ∷ keep p xs) (keep p xs))
      by_test true e r = also (q, e) r
      by_test false e r = r

  pub keep_keep : (p q : A → Bool) (xs : List A) → keep p (keep q xs) ≡ keep (λ x. q x && p x) xs
  unfolding keep
  keep_keep p q [] = refl
  keep_keep p q (x ∷ xs) = by_test (q x) (keep_keep p q xs)
    where
      by_test : (b : Bool) → keep p (keep q xs) ≡ keep (λ y. q y && p y) xs
          → keep p (cond b (x ∷ keep q xs) (keep q xs)) ≡ cond (b && p x) (x ∷ keep (λ y. q y && p y) xs) (keep (λ y. q y && p y) xs)
      by_test true e = ap (λ (ys : List A). cond (p x) (x ∷ ys) ys) e
      by_test false e = e

  pub keep_swap : (p q : A → Bool) (xs : List A) → keep p (keep q xs) ≡ keep q (keep p xs)
  keep_swap p q xs = keep_keep p q xs ∙ (λ i. keep (λ x. and_comm (q x) (p x) i) xs) ∙ sym (keep_keep q p xs)

  pub keep_true : (xs : List A) → keep (λ x. true) xs ≡ xs
  unfolding keep
  keep_true [] = refl
  keep_true (x ∷ xs) = ap (λ (ys : List A). x ∷ ys) (keep_true xs)

  -- how many are kept
  pub length_keep : (p : A → Bool) (xs : List A) → length (keep p xs) ≡ sum_over (λ x. one (p x)) xs
  unfolding keep sum_over one
  length_keep p [] = refl
  length_keep p (x ∷ xs) = by_test (p x) (length_keep p xs)
    where
      by_test : (b : Bool) → length (keep p xs) ≡ sum_over (λ x. one (p x)) xs
          → length (cond b (x ∷ keep p xs) (keep p xs)) ≡ one b + sum_over (λ x. one (p x)) xs
      by_test true e = omega arith
      by_test false e = omega arith

  -- some are kept, and the others are the rest
  pub keep_split : (p : A → Bool) (xs : List A) → length (keep p xs) + length (keep (λ x. not (p x)) xs) ≡ length xs
  unfolding keep
  keep_split p [] = refl
  keep_split p (x ∷ xs) = by_test (p x) (keep_split p xs)
    where
      by_test : (b : Bool) → length (keep p xs) + length (keep (λ x. not (p x)) xs) ≡ length xs
          → length (cond b (x ∷ keep p xs) (keep p xs)) + length (cond (not b) (x ∷ keep (λ x. not (p x)) xs) (keep (λ x. not (p x)) xs)) ≡ suc (length xs)
      by_test true e = omega arith
      by_test false e = omega arith

  -- if as many are kept as there were, all are
  pub keep_whole : (p : A → Bool) (xs : List A) → length (keep p xs) ≡ length xs → keep p xs ≡ xs
  unfolding keep
  keep_whole p [] e = refl
  keep_whole p (x ∷ xs) e = by_test (p x) (keep_whole p xs) e
    where
      by_test : (b : Bool) → (length (keep p xs) ≡ length xs → keep p xs ≡ xs) → length (cond b (x ∷ keep p xs) (keep p xs)) ≡ suc (length xs)
          → cond b (x ∷ keep p xs) (keep p xs) ≡ x ∷ xs
      by_test true whole d = ap (λ (ys : List A). x ∷ ys) (whole (omega arith))
      by_test false whole d = absurd (omega (arith, keep_split p xs))

pub all_upto : (n : ℕ) → All (λ i. i < n) (upto n)
unfolding upto
all_upto zero = none
all_upto (suc n) = all_append (all_mono (all_upto n) (λ i l. le_step l)) (also (lt-suc_self n) none)

-- how many, and which stands where
pub length_upto : (n : ℕ) → length (upto n) ≡ n
unfolding upto
length_upto zero = refl
length_upto (suc n) = length-append (upto n) (n ∷ []) ∙ omega (arith, length_upto n)

pub upto_at : (n i : ℕ) → i < n → get_or (upto n) i 0 ≡ i
unfolding upto
upto_at zero i h = absurd (not-suc-le-zero h)
upto_at (suc n) i h =
    elim (order i n) [
      | less l ↦ get_or-append (upto n) (n ∷ []) 0 i (omega (arith, length_upto n)) ∙ upto_at n i l
      | same e ↦ get_or_at (upto n) n [] 0 i (length_upto n ∙ sym e) ∙ sym e
      | more l ↦ absurd (omega arith)
    ]

pub all_below : {P : ℕ → Type 0} (n : ℕ) → All P (upto n) → (i : ℕ) → i < n → P i
all_below {P} n a i h = subst P (upto_at n i h) (all_at 0 a i (rw (length_upto n) h))

map_at : (f : ℕ → ℕ) (xs : List ℕ) (i : ℕ) → i < length xs → get_or (map f xs) i 0 ≡ f (get_or xs i 0)
map_at f [] i h = absurd (not-suc-le-zero h)
map_at f (x ∷ xs) zero h = refl
map_at f (x ∷ xs) (suc i) h = map_at f xs i (le_of_suc-le-suc h)

pub map_upto_at : (f : ℕ → ℕ) (n i : ℕ) → i < n → get_or (map f (upto n)) i 0 ≡ f i
map_upto_at f n i h = map_at f (upto n) i (omega (arith, length_upto n)) ∙ ap f (upto_at n i h)

-- ---- parts of a list of numbers

pub all_places : {P : ℕ → Type 0} (o : List ℕ) → ((i : ℕ) → i < length o → P (get_or o i 0)) → All P o
all_places [] h = none
all_places (x ∷ xs) h = also (h 0 (suc-le-suc zero-le)) (all_places xs (λ i l. h (suc i) (suc-le-suc l)))

module _ {P : ℕ → Type 0} where
  pub all_take : (j : ℕ) {o : List ℕ} → All P o → All P (take j o)
  all_take zero a = none
  all_take (suc j) none = none
  all_take (suc j) (also p ps) = also p (all_take j ps)

  pub all_drop : (j : ℕ) {o : List ℕ} → All P o → All P (drop j o)
  all_drop zero a = a
  all_drop (suc j) none = none
  all_drop (suc j) (also p ps) = all_drop j ps

-- all that is behind a place
pub rest_whole : (s : List ℕ) (at : ℕ) → take (length s - at) (drop at s) ≡ drop at s
rest_whole s at = take_all (length s - at) (drop at s) (omega (arith, length-drop at s))

-- before a place, at it and behind it
pub sum_over_split : (f : ℕ → ℕ) (o : List ℕ) (j : ℕ) → j < length o → sum_over f o ≡ sum_over f (take j o) + (f (get_or o j 0) + sum_over f (drop (suc j) o))
unfolding sum_over
sum_over_split f o j h = ap (sum_over f) (split_at o j 0 h) ∙ sum_over_append f (take j o) (get_or o j 0 ∷ drop (suc j) o)

pub sum_over_take : (f : ℕ → ℕ) (o : List ℕ) (j : ℕ) → j ≤ length o → sum_over f (take j o) ≡ sum j (λ i. f (get_or o i 0))
sum_over_take f o j h =
    sum_over_places f 0 (take j o)
    ∙ ap (λ (m : ℕ). sum m (λ i. f (get_or (take j o) i 0))) (length-take-le j o h)
    ∙ sum_ext j (λ i. f (get_or (take j o) i 0)) (λ i. f (get_or o i 0)) (λ i l. ap f (get_or-take j o i 0 l))

pub sum_over_drop : (f : ℕ → ℕ) (o : List ℕ) (k : ℕ) → sum_over f (drop k o) ≡ sum (length o - k) (λ i. f (get_or o (k + i) 0))
sum_over_drop f o k =
    sum_over_places f 0 (drop k o)
    ∙ ap (λ (m : ℕ). sum m (λ i. f (get_or (drop k o) i 0))) (length-drop k o)
    ∙ sum_ext (length o - k) (λ i. f (get_or (drop k o) i 0)) (λ i. f (get_or o (k + i) 0)) (λ i l. ap f (get_or-drop k o i 0))

-- ---- the same list

pub same_list_lem : (xs ys : List ℕ) → same_list xs ys ≡ true → xs ≡ ys
unfolding same_list
same_list_lem [] [] e = refl
same_list_lem [] (y ∷ ys) e = absurd (false≢true e)
same_list_lem (x ∷ xs) [] e = absurd (false≢true e)
same_list_lem (x ∷ xs) (y ∷ ys) e =
    ap₂ (λ (z : ℕ) (zs : List ℕ). z ∷ zs) (eqb-true x y (both_left (eqb x y) (same_list xs ys) e)) (same_list_lem xs ys (both_right (eqb x y) (same_list xs ys) e))

pub list_same : (xs : List ℕ) → same_list xs xs ≡ true
unfolding same_list
list_same [] = refl
list_same (x ∷ xs) = ap₂ (λ (a b : Bool). a && b) (eq-eqb x x refl) (list_same xs)
