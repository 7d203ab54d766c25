-- The listed orders rise strictly in dictionary order.
use Rattle.std.specs.Prelude.{ℕ, zero, suc, ◌<◌, ◌≡◌, refl, Bool, not, cond}
use Rattle.std.proofs.Common.{le_refl, ap₂, ◌∙◌, eq-eqb, lt-ltb, le-ltb}
use Rattle.std.proofs.Math.Bool.{true, false}
use mathlib.Core.List.{List, [], ◌∷◌, ◌++◌, flat_map, append_assoc}
use Rattle.model.specs.Lists.{upto, keep, member}
use Rattle.model.specs.GreedyAppend.{unplaced}
use Rattle.laws.specs.Sums.Lists.{All, none, also, all_append, all_mono, all_keep, all_upto, all_flat_map}
use Rattle.laws.specs.Append.Order.{all_unplaced}
use Rattle.model.specs.SmallOrders.{list_rest, all_orders, precedes}
use Rattle.laws.specs.Small.Entries.{Begun, begun_alone, begun_next, Completes, rest_complete}

-- ---- each entry with each later one

pub data Rising {A : Type 0} (R : A → A → Type 0) : List A → Type 0 where
  ended : Rising R []
  above : {x : A} {xs : List A} → All (R x) xs → Rising R xs → Rising R (x ∷ xs)

module _ {A : Type 0} {R : A → A → Type 0} where
  rising_append : {xs ys : List A} → Rising R xs → Rising R ys → All (λ x. All (R x) ys) xs → Rising R (xs ++ ys)
  rising_append ended s none = s
  rising_append (above p r) s (also q qs) = above (all_append p q) (rising_append r s qs)

  rising_keep : (p : A → Bool) {xs : List A} → Rising R xs → Rising R (keep p xs)
  unfolding keep
  rising_keep p ended = ended
  rising_keep p (above {x} {xs} h r) = by_test (p x) (all_keep p h) (rising_keep p r)
    where
      by_test : (b : Bool) → All (R x) (keep p xs) → Rising R (keep p xs) → Rising R (cond b (x ∷ keep p xs) (keep p xs))
      by_test true a s = above a s
      by_test false a s = s

all_both : {A : Type 0} {P Q : A → Type 0} {xs : List A} → All P xs → All Q xs → All (λ x. P x × Q x) xs
all_both none none = none
all_both (also p ps) (also q qs) = also (p, q) (all_both ps qs)

-- the lists that rising entries give, one behind the other, where what an entry gives is known by Q
rising_flat_map : {A B : Type 0} {P : A → Type 0} {R : A → A → Type 0} {S : B → B → Type 0} (Q : A → B → Type 0) (g : A → List B)
    → ((u : A) → P u → All (Q u) (g u)) → ((u : A) → P u → Rising S (g u)) → ((u w : A) (x y : B) → R u w → Q u x → Q w y → S x y)
    → {us : List A} → All P us → Rising R us → Rising S (flat_map g us)
unfolding flat_map
rising_flat_map Q g known inner across none ended = ended
rising_flat_map Q g known inner across (also {x = u} {xs = us} p ps) (above h r) =
    rising_append (inner u p) (rising_flat_map Q g known inner across ps r)
    (all_mono (known u p) (λ x q. all_flat_map g (all_both h ps) (λ w d. all_mono (known w d.1) (λ y c. across u w x y d.0 q c))))

rising_upto : (n : ℕ) → Rising ◌<◌ (upto n)
unfolding upto
rising_upto zero = ended
rising_upto (suc n) = rising_append (rising_upto n) (above none ended) (all_mono (all_upto n) (λ i l. also l none))

rising_unplaced : (n : ℕ) (xs : List ℕ) → Rising ◌<◌ (unplaced n xs)
unfolding unplaced
rising_unplaced n xs = rising_keep (λ v. not (member v xs)) (rising_upto n)

-- ---- dictionary order

abbrev pub Before : List ℕ → List ℕ → Type 0
Before o p = precedes o p ≡ true

-- the first entry that differs decides
before_at : (xs : List ℕ) {u w : ℕ} (r s : List ℕ) → u < w → Before (xs ++ (u ∷ r)) (xs ++ (w ∷ s))
unfolding precedes
before_at [] {u} {w} r s l = rw (lt-ltb u w l)
before_at (x ∷ xs) r s l = rw (le-ltb x x (le_refl x), eq-eqb x x refl) (before_at xs r s l)

pub rest_rising : {n : ℕ} (k : ℕ) {xs : List ℕ} → Begun n k xs → Rising Before (list_rest n k xs)
unfolding list_rest
rest_rising zero b = above none ended
rest_rising {n} (suc k) {xs} b =
    rising_flat_map (λ v o. Completes n (xs ++ (v ∷ [])) o) (λ v. list_rest n k (xs ++ (v ∷ [])))
    (λ v q. rest_complete k (begun_next b q.0 q.1))
    (λ v q. rest_rising k (begun_next b q.0 q.1))
    (λ u w o p l c d.
    ap₂ precedes (c.parts ∙ append_assoc xs (u ∷ []) c.rest) (d.parts ∙ append_assoc xs (w ∷ []) d.rest) ∙ before_at xs c.rest d.rest l)
    (all_unplaced n xs) (rising_unplaced n xs)

-- "in dictionary order of the lists"
pub orders_rising : (n : ℕ) → Rising Before (all_orders n)
unfolding all_orders
orders_rising zero = above none ended
orders_rising (suc n) = rest_rising n (begun_alone n)
