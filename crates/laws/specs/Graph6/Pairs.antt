-- The pairs of vertices by rising higher end, those whose bit is 1, and a graph's bits.
use Rattle.std.specs.Prelude.{ℕ, zero, suc, ◌+◌, ◌*◌, ◌-◌, ◌/◌, ◌%◌, ◌≤◌, ◌<◌, min, ◌≡◌, refl, Bool, true, false, cond, ◌&&◌, length, get_or, drop, eqb, ltb}
use Rattle.std.proofs.Common.{add-zero, mul-le-mul, le_of_lt, le_of_suc-le-suc, mod-eq_of_lt, arith, sym, ap, ap₂, ◌∙◌, length-append, get_or-drop, lt-ltb}
use Rattle.std.proofs.Math.Nat.{min-eq_left}
use mathlib.Core.List.{List, [], ◌∷◌, ◌++◌, map, flat_map, append-nil}
use Rattle.std.proofs.lemmas.List.{length-map}
use Rattle.std.proofs.Math.Seq.{drop-nil}
use Rattle.model.specs.declared.Edge.{Edge}
use Rattle.model.specs.Lists.{one, upto, every, sum_over}
use Rattle.model.specs.Crossings.{linked}
use Rattle.model.specs.Charts.{edge_within}
use Rattle.model.specs.Graph6.{pairs_by_higher, pair_bits, chosen}
use Rattle.laws.specs.Sums.Indicators.{one_le}
use Rattle.laws.specs.Sums.Ranges.{sum, sum_ext, sum_swap, sum_below}
use Rattle.laws.specs.Sums.Lists.{All, none, also, flat_map_append, all_map, all_flat_map, all_upto, length_upto}
use Rattle.laws.specs.Sums.Lists.{sum_over_flat_map, sum_over_map, sum_over_upto}
use Rattle.laws.specs.Sums.Every.{every_all}
use Rattle.laws.specs.Sums.Pairs.{pair_sum}

-- ---- the pairs

-- those of one vertex more: it is the higher end of each
pub pairs_next : (n : ℕ) → pairs_by_higher (suc n) ≡ pairs_by_higher n ++ map (λ a. record { low = a; high = n }) (upto n)
unfolding pairs_by_higher upto flat_map
pairs_next n = flat_map_append lower (upto n) (n ∷ []) ∙ ap (λ (es : List Edge). pairs_by_higher n ++ es) (append-nil (lower n))
  where
    lower : ℕ → List Edge
    lower b = map (λ a. record { low = a; high = b }) (upto b)

pub pairs_length_next : (n : ℕ) → length (pairs_by_higher (suc n)) ≡ length (pairs_by_higher n) + n
pairs_length_next n =
    ap length (pairs_next n)
    ∙ length-append (pairs_by_higher n) (map to (upto n))
    ∙ ap (λ (k : ℕ). length (pairs_by_higher n) + k) (length-map (upto n) to ∙ length_upto n)
  where
    to : ℕ → Edge
    to a = record { low = a; high = n }

-- twice
pub pairs_twice : (n : ℕ) → 2 * length (pairs_by_higher n) + n ≡ n * n
unfolding pairs_by_higher upto flat_map
pairs_twice zero = refl
pairs_twice (suc n) = rw (pairs_length_next n) (omega (arith, pairs_twice n))

pub pairs_length : (n : ℕ) → length (pairs_by_higher n) ≡ (n * n - n) / 2
pairs_length n = omega (arith, pairs_twice n)

pub pairs_most : {n : ℕ} → n ≤ 64 → length (pairs_by_higher n) ≤ 2016
pairs_most {n} h = by_number n h
  where
    by_number : (n : ℕ) → n ≤ 64 → length (pairs_by_higher n) ≤ 2016
    by_number zero h = omega (arith, pairs_twice 0)
    by_number (suc n) h = omega (arith, pairs_twice (suc n), mul-le-mul {n₂ = 64} {m₂ = 63} h (le_of_suc-le-suc h))

-- the place of the pair a-b, as code counts it, is behind those of lower vertices
pub pair_place : {a b : ℕ} → a < b → b < 64 → length (pairs_by_higher (min b 64)) + a % 64 ≡ length (pairs_by_higher b) + a
pair_place h l = ap₂ (λ (i j : ℕ). length (pairs_by_higher i) + j) (min-eq_left (le_of_lt l)) (mod-eq_of_lt (omega arith))

-- both ends of each are vertices, the lower first
pub pairs_within : (n : ℕ) → All (λ e. edge_within n e ≡ true) (pairs_by_higher n)
unfolding pairs_by_higher edge_within
pairs_within n =
    all_flat_map (λ b. map (λ a. record { low = a; high = b }) (upto b)) (all_upto n)
    (λ b h. all_map (λ e. edge_within n e ≡ true) (λ a. record { low = a; high = b }) (all_upto b)
    (λ a l. ap₂ (λ (x y : Bool). x && y) (lt-ltb a b l) (lt-ltb b n h)))

-- a sum over them is a sum over the pairs of numbers
pub sum_over_pairs : (n : ℕ) (g : Edge → ℕ) → sum_over g (pairs_by_higher n) ≡ pair_sum n (λ a b. g (record { low = a; high = b }))
unfolding pairs_by_higher pair_sum
sum_over_pairs n g =
    sum_over_flat_map g (λ b. map (λ a. record { low = a; high = b }) (upto b)) (upto n)
    ∙ sum_over_upto (λ b. sum_over g (map (λ a. record { low = a; high = b }) (upto b))) n
    ∙ sum_ext n (λ b. sum_over g (map (λ a. record { low = a; high = b }) (upto b))) (λ b. sum n (λ a. one (ltb a b) * g (record { low = a; high = b })))
    (λ b h.
    sum_over_map g (λ a. record { low = a; high = b }) (upto b)
    ∙ sum_over_upto (λ a. g (record { low = a; high = b })) b
    ∙ sym (sum_below n b (λ a. g (record { low = a; high = b })) (le_of_lt h)))
    ∙ sum_swap n n (λ b a. one (ltb a b) * g (record { low = a; high = b }))

-- ---- those whose bit is 1

-- of pairs and other pairs, with the bits behind
pub chosen_append : (bits : List ℕ) (es fs : List Edge) → chosen bits (es ++ fs) ≡ chosen bits es ++ chosen (drop (length es) bits) fs
unfolding chosen
chosen_append [] es fs = ap (λ (bits : List ℕ). chosen bits fs) (sym (drop-nil (length es)))
chosen_append (b ∷ bs) [] fs = refl
chosen_append (b ∷ bs) (e ∷ es) fs = by_test (eqb b 1) (chosen_append bs es fs)
  where
    by_test : (t : Bool) → chosen bs (es ++ fs) ≡ chosen bs es ++ chosen (drop (length es) bs) fs
        → cond t (e ∷ chosen bs (es ++ fs)) (chosen bs (es ++ fs)) ≡ cond t (e ∷ chosen bs es) (chosen bs es) ++ chosen (drop (length es) bs) fs
    by_test true r = ap (λ (xs : List Edge). e ∷ xs) r
    by_test false r = r

-- of no pair, and of a first one
pub chosen_none : (bits : List ℕ) → chosen bits [] ≡ []
unfolding chosen
chosen_none [] = refl
chosen_none (b ∷ bs) = refl

chosen_first : (bits : List ℕ) (e : Edge) (es : List Edge)
    → chosen bits (e ∷ es) ≡ cond (eqb (get_or bits 0 0) 1) (e ∷ chosen (drop 1 bits) es) (chosen (drop 1 bits) es)
unfolding chosen
chosen_first [] e es = refl
chosen_first (b ∷ bs) e es = refl

-- one pair more
pub chosen_next : (bits : List ℕ) (es : List Edge) (e : Edge)
    → chosen bits (es ++ (e ∷ [])) ≡ chosen bits es ++ cond (eqb (get_or bits (length es) 0) 1) (e ∷ []) []
chosen_next bits es e =
    chosen_append bits es (e ∷ [])
    ∙ ap (λ (xs : List Edge). chosen bits es ++ xs)
    (chosen_first rest e []
    ∙ ap₂ (λ (b : ℕ) (xs : List Edge). cond (eqb b 1) (e ∷ xs) xs) at_place (chosen_none (drop 1 rest)))
  where
    rest : List ℕ
    rest = drop (length es) bits

    at_place : get_or rest 0 0 ≡ get_or bits (length es) 0
    at_place = get_or-drop (length es) bits 0 0 ∙ ap (λ (k : ℕ). get_or bits k 0) (add-zero (length es))

-- the same bits, where one that is not there is 0
pub chosen_ext : (xs ys : List ℕ) (es : List Edge) → ((k : ℕ) → get_or xs k 0 ≡ get_or ys k 0) → chosen xs es ≡ chosen ys es
chosen_ext xs ys [] h = chosen_none xs ∙ sym (chosen_none ys)
chosen_ext xs ys (e ∷ es) h =
    chosen_first xs e es
    ∙ ap₂ (λ (b : ℕ) (fs : List Edge). cond (eqb b 1) (e ∷ fs) fs) (h 0)
    (chosen_ext (drop 1 xs) (drop 1 ys) es (λ k. get_or-drop 1 xs k 0 ∙ h (1 + k) ∙ sym (get_or-drop 1 ys k 0)))
    ∙ sym (chosen_first ys e es)

-- what each pair has, those have
pub chosen_all : {P : Edge → Type 0} (bits : List ℕ) {es : List Edge} → All P es → All P (chosen bits es)
unfolding chosen
chosen_all [] ps = none
chosen_all (b ∷ bs) none = none
chosen_all {P} (b ∷ bs) (also {x} {xs} p ps) = by_test (eqb b 1) (chosen_all bs ps)
  where
    by_test : (t : Bool) → All P (chosen bs xs) → All P (cond t (x ∷ chosen bs xs) (chosen bs xs))
    by_test true r = also p r
    by_test false r = r

pub chosen_within : (bits : List ℕ) (n : ℕ) → every (edge_within n) (chosen bits (pairs_by_higher n)) ≡ true
chosen_within bits n = every_all (chosen_all bits (pairs_within n))

-- ---- the bits of a graph: 0 or 1, one for each pair

pub pair_bits_bits : (n : ℕ) (adj : List ℕ) → All (λ b. b ≤ 1) (pair_bits n adj)
unfolding pair_bits
pair_bits_bits n adj =
    all_map (λ b. b ≤ 1) (λ e. one (linked adj e.low e.high)) (pairs_within n) (λ e w. one_le (linked adj e.low e.high))

pub pair_bits_length : (n : ℕ) (adj : List ℕ) → length (pair_bits n adj) ≡ length (pairs_by_higher n)
unfolding pair_bits
pair_bits_length n adj = length-map (pairs_by_higher n) (λ e. one (linked adj e.low e.high))
