-- The candidates of a vertex of a ring as orders alone, and the one that is chosen: what the code walks through, and that it is the sift of the layout.
use Prim.Native.Nat.{ℕ, suc, ◌+◌, ◌-◌, ◌≤◌, ◌<◌}
use Rattle.std.proofs.Common.{arith, ◌∙◌, length-append, take-append-drop}
use Rattle.std.specs.Prelude.{◌≡◌, Bool, false, cond, length, take, drop, T, eqb, ltb}
use Rattle.std.proofs.Math.Path.{refl, sym, ap}
use mathlib.Core.List.{List, [], ◌∷◌, map}
use Rattle.std.proofs.Math.ListN.{length-drop, get_or-append}
use Rattle.std.proofs.Math.Seq.{length-take-le, get_or-take, get_or-drop}
use Rattle.model.specs.declared.Layout.{Layout}
use Rattle.model.specs.Lists.{one, sum_over, occurrences, place, first_with}
use Rattle.model.specs.Crossings.{crossings}
use Rattle.model.specs.Layouts.{vertex_order, table_weight, weight, crossings_of, valid, modulus, carried, changed, reordered}
use Rattle.model.specs.Edits.{moved_after}
use Rattle.model.specs.Search.{least, count_with, least_cost, chosen, sift_best, best_candidates}
use Rattle.model.specs.Sifting.{clockwise_from, candidate_layouts, sifted, optima_of}
use Rattle.laws.specs.Sums.Indicators.{less, same, more, order, one_eq, one_ne}
use Rattle.laws.specs.Sums.Lists.{All, all_mono, all_map, all_places, sum_over_append, sum_over_split}
use Rattle.laws.specs.Orders.Permutations.{at, Permutation, place_below, at_of_place, occurs_at, none_beyond}
use Rattle.laws.specs.Layouts.Validity.{sound}
use Rattle.laws.specs.Sifting.LocalSearch.{chosen_stays, chosen_has, chosen_least, least_same, count_same, chosen_same}
use Rattle.laws.specs.Orders.Moves.{at_right, moved_permutation}
use Rattle.laws.specs.Layouts.Reordering.{reordered_crossings}
use Rattle.laws.specs.Layouts.Reordering.{reordered_length, reordered_valid, carried_carried, carried_lt, carried_same}

-- a property of whatever occurs is one of each entry
all_occurring : {P : ℕ → Type 0} (xs : List ℕ) → ((v : ℕ) → 0 < occurrences v xs → P v) → All P xs
all_occurring xs h = all_places xs (λ i l. h (at xs i) (occurs_at xs i l))

-- ---- the candidates

module _ {n : ℕ} {o : List ℕ} (perm : Permutation n o) (u : ℕ) (h : u < n) where
  -- the vertices clockwise from u are the others, each once
  pub clockwise_sum : (f : ℕ → ℕ) → sum_over f o ≡ f u + sum_over f (clockwise_from u o)
  unfolding clockwise_from
  clockwise_sum f =
      sum_over_split f o (place o u) (rw perm.size (place_below perm u h))
      ∙ rw (at_of_place perm u h, sum_over_append f (drop (suc (place o u)) o) (take (place o u) o)) (omega arith)

  pub clockwise_occurrences : (v : ℕ) → occurrences v o ≡ one (eqb v u) + occurrences v (clockwise_from u o)
  unfolding occurrences
  clockwise_occurrences v = clockwise_sum (λ x. one (eqb v x))

  pub clockwise_not : occurrences u (clockwise_from u o) ≡ 0
  clockwise_not = omega (arith, clockwise_occurrences u, perm.once u h, one_eq u u refl)

  pub clockwise_once : (v : ℕ) → v < n → (u ≡ v → ⊥) → occurrences v (clockwise_from u o) ≡ 1
  clockwise_once v l d = omega (arith, clockwise_occurrences v, perm.once v l, one_ne v u (λ e. d (sym e)))

  pub clockwise_others : All (λ v. (v < n) × (u ≡ v → ⊥)) (clockwise_from u o)
  clockwise_others = all_occurring (clockwise_from u o) (λ v k. (below v k, λ e. other v k e))
    where
      other : (v : ℕ) → 0 < occurrences v (clockwise_from u o) → u ≡ v → ⊥
      other v k e = omega (arith, clockwise_not, ap (λ (x : ℕ). occurrences x (clockwise_from u o)) e)

      beyond : (v : ℕ) → 0 < occurrences v (clockwise_from u o) → n ≤ v → ⊥
      beyond v k l = omega (arith, none_beyond perm v l, clockwise_occurrences v)

      below : (v : ℕ) → 0 < occurrences v (clockwise_from u o) → v < n
      below v k = elim (order v n) [ less l ↦ l | same e ↦ absurd (beyond v k (omega arith)) | more l ↦ absurd (beyond v k (omega arith)) ]

  -- by place: the entries behind u, then those before it
  pub clockwise_length : suc (length (clockwise_from u o)) ≡ n
  unfolding clockwise_from
  clockwise_length =
      ap suc (length-append (drop (suc (place o u)) o) (take (place o u) o))
      ∙ rw (length-drop (suc (place o u)) o, length-take-le (place o u) o (omega (arith, perm.size, place_below perm u h)))
      (omega (arith, perm.size, place_below perm u h))

  pub clockwise_behind : (k : ℕ) → suc (place o u) + k < n → at (clockwise_from u o) k ≡ at o (suc (place o u) + k)
  unfolding clockwise_from
  clockwise_behind k l =
      get_or-append (drop (suc (place o u)) o) (take (place o u) o) 0 k (omega (arith, length-drop (suc (place o u)) o, perm.size))
      ∙ get_or-drop (suc (place o u)) o k 0

  pub clockwise_before : (k : ℕ) → k < place o u → at (clockwise_from u o) (n - suc (place o u) + k) ≡ at o k
  unfolding clockwise_from
  clockwise_before k l =
      at_right (drop (suc (place o u)) o) (take (place o u) o) (n - suc (place o u)) k
      (length-drop (suc (place o u)) o ∙ ap (λ (m : ℕ). m - suc (place o u)) perm.size)
      ∙ get_or-take (place o u) o k 0 l

-- ---- the candidates of an order, and the order chosen

-- u directly after each other vertex, clockwise from u
unfoldable pub candidates : ℕ → List ℕ → List (List ℕ)
candidates u o = map (λ v. moved_after u v o) (clockwise_from u o)

module _ (n : ℕ) (W : ℕ → ℕ → ℕ) (u : ℕ) (o : List ℕ) where
  unfoldable pub least_crossings : ℕ
  least_crossings = least (λ c. crossings n c W) (crossings n o W) (candidates u o)

  unfoldable pub optima : ℕ
  optima = count_with (λ c. crossings n c W) least_crossings (candidates u o)

  unfoldable pub improves : Bool
  improves = ltb least_crossings (crossings n o W)

  unfoldable pub sifted_order : List ℕ
  sifted_order = cond improves (first_with (λ c. eqb (crossings n c W) least_crossings) o (candidates u o)) o

  pub sift_stays : improves ≡ false → sifted_order ≡ o
  unfolding sifted_order improves least_crossings
  sift_stays e = chosen_stays (λ c. crossings n c W) o (candidates u o) e

-- c is o with u moved behind another vertex
pub record Candidate (n u : ℕ) (o c : List ℕ) : Type 0 where
  pub behind : ℕ
  pub below : behind < n
  pub other : u ≡ behind → ⊥
  pub moved : c ≡ moved_after u behind o

module _ {n : ℕ} {o : List ℕ} (perm : Permutation n o) (u : ℕ) (h : u < n) where
  pub all_candidates : All (Candidate n u o) (candidates u o)
  unfolding candidates
  all_candidates =
      all_map (Candidate n u o) (λ v. moved_after u v o) (clockwise_others perm u h)
      (λ v p. record { behind = v; below = p.0; other = p.1; moved = refl })

  pub candidate_permutation : {c : List ℕ} → Candidate n u o c → Permutation n c
  candidate_permutation {c} k = rw k.moved (moved_permutation perm u h k.behind k.below k.other)

-- ---- layouts

map_map : {A B C : Type 0} (g : B → C) (f : A → B) (xs : List A) → map g (map f xs) ≡ map (λ x. g (f x)) xs
map_map g f [] = refl
map_map {C = C} g f (x ∷ xs) = ap (λ (ys : List C). g (f x) ∷ ys) (map_map g f xs)

-- m is a valid layout of the vertices and edges of l, and its count has changed by what the crossings have
pub record Rearranged (l m : Layout) : Type 0 where
  pub valid_after : T (valid m)
  pub same_n : m.n ≡ l.n
  pub same_adjacency : m.adjacency ≡ l.adjacency
  pub same_weights : m.weights ≡ l.weights
  pub same_places : length m.order ≡ length l.order
  pub count_carried : l.count < modulus → m.count ≡ carried l.count (crossings_of l) (crossings_of m)

pub rearranged_refl : (l : Layout) → T (valid l) → Rearranged l l
rearranged_refl l t =
    record {
      valid_after = t;
      same_n = refl;
      same_adjacency = refl;
      same_weights = refl;
      same_places = refl;
      count_carried = λ h. sym (carried_same l.count (crossings_of l) h);
    }

pub rearranged_trans : (l m k : Layout) → Rearranged l m → Rearranged m k → Rearranged l k
rearranged_trans l m k p q =
    record {
      valid_after = q.valid_after;
      same_n = q.same_n ∙ p.same_n;
      same_adjacency = q.same_adjacency ∙ p.same_adjacency;
      same_weights = q.same_weights ∙ p.same_weights;
      same_places = q.same_places ∙ p.same_places;
      count_carried = λ h.
          q.count_carried (rw (p.count_carried h) (carried_lt l.count (crossings_of l) (crossings_of m)))
          ∙ ap (λ (c : ℕ). carried c (crossings_of m) (crossings_of k)) (p.count_carried h)
          ∙ carried_carried l.count (crossings_of l) (crossings_of m) (crossings_of k);
    }

-- the same edges, the same weights
pub rearranged_weight : {l m : Layout} → Rearranged l m → weight m ≡ weight l
unfolding weight
rearranged_weight p = ap table_weight p.same_weights

-- any other order
module _ (l : Layout) (t : T (valid l)) (o : List ℕ) (perm : Permutation l.n o) where
  pub reordered_rearranged : Rearranged l (reordered l o)
  unfolding reordered changed crossings_of vertex_order weight
  reordered_rearranged =
      record {
        valid_after = reordered_valid l o t perm;
        same_n = refl;
        same_adjacency = refl;
        same_weights = refl;
        same_places = reordered_length l o t perm;
        count_carried = λ k. refl;
      }

-- the order that it has already changes nothing
reordered_same : (l : Layout) → l.count < modulus → reordered l (vertex_order l) ≡ l
unfolding reordered changed crossings_of vertex_order weight
reordered_same l h =
    rw (take-append-drop l.n l.order, carried_same l.count (crossings l.n (take l.n l.order) (weight l)) h) refl

-- ---- a layout sifted

module _ (l : Layout) (t : T (valid l)) (u : ℕ) (h : u < l.n) where
  pub sifted_rearranged : Rearranged l (sifted l u)
  unfolding sift_best candidate_layouts
  sifted_rearranged =
      chosen_has crossings_of l (candidate_layouts u l) (rearranged_refl l t)
      (all_map (Rearranged l) (λ v. reordered l (moved_after u v (vertex_order l))) (clockwise_others (sound l t).permutation u h)
      (λ v p. reordered_rearranged l t (moved_after u v (vertex_order l)) (moved_permutation (sound l t).permutation u h v p.0 p.1)))

  -- in orders alone: the candidates, what they cost
  as_orders : candidate_layouts u l ≡ map (reordered l) (candidates u (vertex_order l))
  unfolding candidate_layouts candidates
  as_orders = sym (map_map (reordered l) (λ v. moved_after u v (vertex_order l)) (clockwise_from u (vertex_order l)))

  as_crossings : All (λ c. crossings_of (reordered l c) ≡ crossings l.n c (weight l)) (candidates u (vertex_order l))
  as_crossings =
      all_mono (all_candidates (sound l t).permutation u h)
      (λ c k. reordered_crossings l c (candidate_permutation (sound l t).permutation u h k).size)

  least_order : least_cost crossings_of l (candidate_layouts u l) ≡ least_crossings l.n (weight l) u (vertex_order l)
  unfolding least_crossings crossings_of
  least_order =
      ap (λ (cs : List Layout). least_cost crossings_of l cs) as_orders
      ∙ least_same (λ c. crossings l.n c (weight l)) crossings_of (reordered l) (crossings_of l) as_crossings

  -- its crossings, how many candidates have them, and the layout itself
  pub sifted_crossings : crossings_of (sifted l u) ≡ least_crossings l.n (weight l) u (vertex_order l)
  unfolding sift_best
  sifted_crossings = chosen_least crossings_of l (candidate_layouts u l) ∙ least_order

  pub sifted_optima : optima_of l u ≡ optima l.n (weight l) u (vertex_order l)
  unfolding best_candidates optima
  sifted_optima =
      rw (least_order, as_orders)
      (count_same (λ c. crossings l.n c (weight l)) crossings_of (reordered l)
      (least_crossings l.n (weight l) u (vertex_order l)) as_crossings)

  pub sifted_order_lem : l.count < modulus → sifted l u ≡ reordered l (sifted_order l.n (weight l) u (vertex_order l))
  unfolding sift_best sifted_order improves least_crossings
  sifted_order_lem fits =
      ap (λ (cs : List Layout). chosen crossings_of l cs) as_orders
      ∙ ap (λ (m : Layout). chosen crossings_of m (map (reordered l) (candidates u (vertex_order l)))) (sym (reordered_same l fits))
      ∙ chosen_same (λ c. crossings l.n c (weight l)) crossings_of (reordered l) (vertex_order l)
      (reordered_crossings l (vertex_order l) (sound l t).permutation.size) as_crossings
