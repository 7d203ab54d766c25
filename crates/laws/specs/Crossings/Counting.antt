-- The counting identity: the crossings of a layout, counted pair by pair, are a sum over pairs of places. Over any weight of the edges that is
-- symmetric and 0 from a vertex to itself.
use Prim.Native.Nat.{ℕ, ◌+◌, ◌*◌, ◌<◌}
use Rattle.std.proofs.Common.{mul_comm, arith, ◌∙◌}
use Rattle.std.specs.Prelude.{◌≡◌, List, ltb}
use Rattle.std.proofs.Math.Path.{ap, ap₂}
use Rattle.model.specs.Lists.{one, place}
use Rattle.laws.specs.Sums.Indicators.{less, same, more, order, one_lt, one_ge}
use Rattle.laws.specs.Sums.Ranges.{double, sum, sum_ext, sum_scale, sum_product, sum4, sum4_ext, sum4_swap_first, sum4_swap_middle}
use Rattle.laws.specs.Orders.Permutations.{at, Permutation, place_of_at}
use Rattle.laws.specs.Sums.Pairs.{pair_sum, pair_sum_ext, pair_sum_zero, pair_sum_add, pair_sum_pairs, pair_sum_swap, Symmetric, pair_vertices}
use Rattle.laws.specs.Crossings.Alternation.{cross, rising, cross_ordered, cross_swap_left, cross_swap_right}

-- the crossings of weighted edges, each two edges twice: over the unordered pairs of vertices, each with its weight, where p gives the places
unfoldable pub crossed_twice : ℕ → (ℕ → ℕ → ℕ) → (ℕ → ℕ) → ℕ
crossed_twice n W p = pair_sum n (λ a b. pair_sum n (λ c d. W a b * W c d * cross (p a) (p b) (p c) (p d)))

-- over places i < j < k < l, the weight from i to k times the weight from j to l
unfoldable pub crossing_sum : ℕ → (ℕ → ℕ → ℕ) → ℕ
crossing_sum n w = sum4 n (λ i j k l. rising i j k l * (w i k * w j l))

-- the weight of the edge between two places
abbrev pub placed : List ℕ → (ℕ → ℕ → ℕ) → ℕ → ℕ → ℕ
placed o W i j = W (at o i) (at o j)

-- ---- from vertices to places

module _ {n : ℕ} {o : List ℕ} (perm : Permutation n o) (W : ℕ → ℕ → ℕ) (sw : Symmetric n W) where
  term : ℕ → ℕ → ℕ → ℕ → ℕ
  term a b c d = W a b * W c d * cross (place o a) (place o b) (place o c) (place o d)

  -- symmetric in the second edge's ends
  second_symmetric : (a b : ℕ) → Symmetric n (term a b)
  unfolding term
  second_symmetric a b =
      record {
        swap = λ c d i j.
            ap₂ (λ (x y : ℕ). W a b * x * y) (sw.swap c d i j) (cross_swap_right (place o a) (place o b) (place o c) (place o d));
        diagonal = λ c i. rw (sw.diagonal c i) (omega arith);
      }

  -- and in the first edge's
  first_symmetric : Symmetric n (λ a b. pair_sum n (term a b))
  unfolding term
  first_symmetric =
      record {
        swap = λ a b i j.
            pair_sum_ext n (term a b) (term b a)
            (λ c d k l. ap₂ (λ (x y : ℕ). x * W c d * y) (sw.swap a b i j) (cross_swap_left (place o a) (place o b) (place o c) (place o d)));
        diagonal = λ a i. pair_sum_zero n (term a a) (λ c d k l. rw (sw.diagonal a i) (omega arith));
      }

  -- the ends' places are the places themselves
  pub twice_places : crossed_twice n W (place o) ≡ crossed_twice n (placed o W) (λ i. i)
  unfolding crossed_twice term
  twice_places =
      pair_vertices perm (λ a b. pair_sum n (term a b)) first_symmetric
      ∙ pair_sum_ext n (λ i j. pair_sum n (term (at o i) (at o j)))
      (λ i j. pair_sum n (λ k l. placed o W i j * placed o W k l * cross i j k l)) (λ i j l m. inner i j l m)
    where
      inner : (i j : ℕ) → i < j → j < n
          → pair_sum n (term (at o i) (at o j)) ≡ pair_sum n (λ k l. placed o W i j * placed o W k l * cross i j k l)
      inner i j ij jn =
          pair_vertices perm (term (at o i) (at o j)) (second_symmetric (at o i) (at o j))
          ∙ pair_sum_ext n (λ k l. term (at o i) (at o j) (at o k) (at o l)) (λ k l. placed o W i j * placed o W k l * cross i j k l)
          (λ k l kl ln.
          rw (place_of_at perm i (omega arith), place_of_at perm j jn, place_of_at perm k (omega arith), place_of_at perm l ln))

-- ---- over places

module _ (n : ℕ) (w : ℕ → ℕ → ℕ) where
  -- two crossing edges, from the one whose lower place is the lower
  abbrev pub part : ℕ → ℕ → ℕ → ℕ → ℕ
  part i k j l = w i k * w j l * rising i j k l

  turned : pair_sum n (λ i k. pair_sum n (λ j l. w i k * w j l * rising j i l k)) ≡ pair_sum n (λ i k. pair_sum n (part i k))
  turned =
      pair_sum_swap n (λ i k j l. w i k * w j l * rising j i l k)
      ∙ pair_sum_ext n (λ j l. pair_sum n (λ i k. w i k * w j l * rising j i l k)) (λ j l. pair_sum n (part j l))
      (λ j l a b. pair_sum_ext n (λ i k. w i k * w j l * rising j i l k) (part j l)
      (λ i k c d. ap (λ (x : ℕ). x * rising j i l k) (mul_comm (w i k) (w j l))))

  -- each pair of crossing edges is met twice
  pub twice_rising : crossed_twice n w (λ i. i) ≡ 2 * pair_sum n (λ i k. pair_sum n (part i k))
  unfolding crossed_twice
  twice_rising =
      pair_sum_ext n (λ i k. pair_sum n (λ j l. w i k * w j l * cross i k j l))
      (λ i k. pair_sum n (part i k) + pair_sum n (λ j l. w i k * w j l * rising j i l k))
      (λ i k a b.
      pair_sum_ext n (λ j l. w i k * w j l * cross i k j l) (λ j l. part i k j l + w i k * w j l * rising j i l k)
      (λ j l c d. rw (cross_ordered i k j l a c) (omega arith))
      ∙ pair_sum_add n (part i k) (λ j l. w i k * w j l * rising j i l k))
      ∙ pair_sum_add n (λ i k. pair_sum n (part i k)) (λ i k. pair_sum n (λ j l. w i k * w j l * rising j i l k))
      ∙ ap (λ (x : ℕ). pair_sum n (λ i k. pair_sum n (part i k)) + x) turned
      ∙ double (pair_sum n (λ i k. pair_sum n (part i k)))

  -- rising places need not be asked again whether the ends of an edge rise
  pub parts_sum : pair_sum n (λ i k. pair_sum n (part i k)) ≡ crossing_sum n w
  unfolding crossing_sum rising
  parts_sum =
      pair_sum_pairs n (λ i k j l. w i k * w j l * rising i j k l)
      ∙ sum4_swap_middle n (λ i k j l. one (ltb i k) * (one (ltb j l) * (w i k * w j l * rising i j k l)))
      ∙ sum4_ext n (λ i j k l. one (ltb i k) * (one (ltb j l) * (w i k * w j l * rising i j k l)))
      (λ i j k l. rising i j k l * (w i k * w j l)) (λ i j k l a b c d. absorbed i j k l)
    where
      absorbed : (i j k l : ℕ) → one (ltb i k) * (one (ltb j l) * (w i k * w j l * rising i j k l)) ≡ rising i j k l * (w i k * w j l)
      absorbed i j k l =
          elim (order i j) [
            | less a ↦
                elim (order j k) [
                  | less b ↦
                      elim (order k l) [
                        | less c ↦ rw (one_lt i k (omega arith), one_lt j l (omega arith)) (omega arith)
                        | same e ↦ rw (one_ge k l (omega arith)) (omega arith)
                        | more c ↦ rw (one_ge k l (omega arith)) (omega arith)
                      ]
                  | same e ↦ rw (one_ge j k (omega arith)) (omega arith)
                  | more b ↦ rw (one_ge j k (omega arith)) (omega arith)
                ]
            | same e ↦ rw (one_ge i j (omega arith)) (omega arith)
            | more a ↦ rw (one_ge i j (omega arith)) (omega arith)
          ]

  -- Σ over j < k of (Σ over i < j of the weight from i to k) times (Σ over l > k of the weight from j to l)
  pub crossing_sum_counted : crossing_sum n w
      ≡ pair_sum n (λ j k. sum n (λ i. one (ltb i j) * w i k) * sum n (λ l. one (ltb k l) * w j l))
  unfolding crossing_sum sum4 pair_sum rising
  crossing_sum_counted =
      sum4_swap_first n (λ i j k l. rising i j k l * (w i k * w j l))
      ∙ sum4_swap_middle n (λ j i k l. rising i j k l * (w i k * w j l))
      ∙ sum_ext n (λ j. sum n (λ k. sum n (λ i. sum n (λ l. rising i j k l * (w i k * w j l)))))
      (λ j. sum n (λ k. one (ltb j k) * (below j k * above j k)))
      (λ j a. sum_ext n (λ k. sum n (λ i. sum n (λ l. rising i j k l * (w i k * w j l))))
      (λ k. one (ltb j k) * (below j k * above j k)) (λ k b. factored j k))
    where
      below : ℕ → ℕ → ℕ
      below j k = sum n (λ i. one (ltb i j) * w i k)

      above : ℕ → ℕ → ℕ
      above j k = sum n (λ l. one (ltb k l) * w j l)

      factored : (j k : ℕ) → sum n (λ i. sum n (λ l. rising i j k l * (w i k * w j l))) ≡ one (ltb j k) * (below j k * above j k)
      factored j k =
          sum_ext n (λ i. sum n (λ l. rising i j k l * (w i k * w j l)))
          (λ i. one (ltb j k) * sum n (λ l. one (ltb i j) * w i k * (one (ltb k l) * w j l)))
          (λ i a. sum_ext n (λ l. rising i j k l * (w i k * w j l)) (λ l. one (ltb j k) * (one (ltb i j) * w i k * (one (ltb k l) * w j l)))
          (λ l b. omega arith)
          ∙ sum_scale n (one (ltb j k)) (λ l. one (ltb i j) * w i k * (one (ltb k l) * w j l)))
          ∙ sum_scale n (one (ltb j k)) (λ i. sum n (λ l. one (ltb i j) * w i k * (one (ltb k l) * w j l)))
          ∙ ap (λ (x : ℕ). one (ltb j k) * x) (sum_product n n (λ i. one (ltb i j) * w i k) (λ l. one (ltb k l) * w j l))
