-- Two neighbours in the order exchanged: only an edge of the one with an edge of the other can cross afresh or no longer. This is Lemma 1 of document 004,
-- without the two vertices in each other's neighbour sets; in natural numbers, so what is lost stands on the other side. Over any weight of the edges.
use Rattle.std.specs.Prelude.{ℕ, ◌+◌, ◌*◌, ◌≤◌, ◌<◌, ◌≡◌}
use Rattle.std.proofs.Common.{mul_comm, sym, ap, ◌∙◌}
use native.Mathlib.Omega.{arith}
use Rattle.std.proofs.Math.Path.{refl}
use mathlib.Core.List.{List, [], ◌∷◌, ◌++◌, append-nil, append_assoc}
use Rattle.model.specs.Lists.{sum_over, sum_pairs}
use Rattle.laws.specs.Sums.Lists.{All, none, also, all_append, sum_over_append, sum_over_scale}
use Rattle.laws.specs.Sums.Pairs.{Symmetric}
use Rattle.laws.specs.Crossings.Lists.{sum_triples, sum_quads, quads_last, sum_triples_ext, closed_crossings}

module _ (W : ℕ → ℕ → ℕ) where
  -- u stands directly before v, and r are the others clockwise from them. An edge from u to x and one from v to y cross before the exchange where x comes
  -- before y: these crossings are lost
  abbrev pub lost : ℕ → ℕ → List ℕ → ℕ
  lost u v r = sum_pairs (λ x y. W u x * W v y) r

  -- and after it where y comes before x: these are gained
  abbrev pub gained : ℕ → ℕ → List ℕ → ℕ
  gained u v r = sum_pairs (λ y x. W v y * W u x) r

  pub exchanged : (u v : ℕ) (r : List ℕ) → closed_crossings W (v ∷ u ∷ r) + lost u v r ≡ closed_crossings W (u ∷ v ∷ r) + gained u v r
  unfolding closed_crossings sum_quads sum_triples
  exchanged u v r = omega arith

  -- no more are lost than there were
  pub lost_few : (u v : ℕ) (r : List ℕ) → lost u v r ≤ closed_crossings W (u ∷ v ∷ r)
  unfolding closed_crossings sum_quads sum_triples
  lost_few u v r = omega arith

-- ---- anywhere in a list: where it starts makes no difference

module _ {n : ℕ} {W : ℕ → ℕ → ℕ} (s : Symmetric n W) where
  -- the last entry put first
  pub turned_once : {v : ℕ} {xs : List ℕ} → v < n → All (λ x. x < n) xs → closed_crossings W (xs ++ (v ∷ [])) ≡ closed_crossings W (v ∷ xs)
  unfolding closed_crossings sum_quads
  turned_once {v} {xs} l below =
      rw (quads_last v (λ a b c d. W a c * W b d) xs)
      (omega (arith, sum_triples_ext (λ a b c. W a c * W b v) (λ a b c. W v b * W a c) below (λ a b c i j k. rw (s.swap b v j l) (mul_comm (W a c) (W v b)))))

  -- and any number of them
  pub turned_lists : {xs ys : List ℕ} → All (λ x. x < n) xs → All (λ x. x < n) ys → closed_crossings W (xs ++ ys) ≡ closed_crossings W (ys ++ xs)
  turned_lists {ys} none b = ap (closed_crossings W) (sym (append-nil ys))
  turned_lists {ys} (also {x} {xs} l a) b =
      sym (turned_once l (all_append a b))
      ∙ ap (closed_crossings W) (append_assoc xs ys (x ∷ []))
      ∙ turned_lists a (all_append b (also l none))
      ∙ ap (closed_crossings W) (append_assoc ys (x ∷ []) xs)

-- ---- lost and gained by sums over the vertices, as a walk has them at hand: f the weights of u, g those of v

module _ (f g : ℕ → ℕ) where
  -- one list behind another
  pub pairs_append : (xs ys : List ℕ)
      → sum_pairs (λ x y. f x * g y) (xs ++ ys) ≡ sum_pairs (λ x y. f x * g y) xs + sum_over f xs * sum_over g ys + sum_pairs (λ x y. f x * g y) ys
  unfolding sum_pairs sum_over
  pairs_append [] ys = omega arith
  pairs_append (x ∷ xs) ys =
      rw (pairs_append xs ys, sum_over_scale (f x) g (xs ++ ys), sum_over_scale (f x) g xs, sum_over_append g xs ys) (omega arith)

  -- each entry with each: the one before the other, behind it, or both the same
  pub pairs_all : (xs : List ℕ)
      → sum_pairs (λ x y. f x * g y) xs + sum_pairs (λ y x. g y * f x) xs + sum_over (λ x. g x * f x) xs ≡ sum_over f xs * sum_over g xs
  unfolding sum_pairs sum_over
  pairs_all [] = refl
  pairs_all (x ∷ xs) = rw (sum_over_scale (f x) g xs, sum_over_scale (g x) f xs) (omega (arith, pairs_all xs))

  module _ (passed : List ℕ) (v : ℕ) (rest : List ℕ) (none : g v ≡ 0) where
    -- the weight of v's edges, each times the weight of u on the vertices before its end (its rank), with all of u's weight added where the end was passed
    pub lost_ranked : sum_pairs (λ x y. f x * g y) (passed ++ (v ∷ rest)) + sum_over f (passed ++ (v ∷ rest)) * sum_over g passed
        ≡ sum_pairs (λ x y. f x * g y) (rest ++ passed) + (sum_over f passed + f v) * sum_over g (passed ++ (v ∷ rest))
    unfolding sum_pairs sum_over
    lost_ranked =
        rw (
          pairs_append passed (v ∷ rest),
          pairs_append rest passed,
          sum_over_append f passed (v ∷ rest),
          sum_over_append g passed (v ∷ rest),
          sum_over_scale (f v) g rest,
          none,
        )
        (omega arith)

    -- v taken out, and the others from behind it on
    taken_out_lem : (h : ℕ → ℕ) → sum_over h (passed ++ (v ∷ rest)) ≡ h v + sum_over h (rest ++ passed)
    unfolding sum_over
    taken_out_lem h = rw (sum_over_append h passed (v ∷ rest), sum_over_append h rest passed) (omega arith)

    -- all pairs of an edge of u's and one of v's: those gained, those lost, those with one end in common, and those where the edge of u's ends at v
    pub gained_ranked : sum_over f (passed ++ (v ∷ rest)) * sum_over g (passed ++ (v ∷ rest))
        ≡ sum_pairs (λ y x. g y * f x) (rest ++ passed) + sum_pairs (λ x y. f x * g y) (rest ++ passed)
        + (sum_over (λ x. g x * f x) (passed ++ (v ∷ rest)) + f v * sum_over g (passed ++ (v ∷ rest)))
    gained_ranked = rw (taken_out_lem f, taken_out_lem g, taken_out_lem (λ x. g x * f x), none) (omega (arith, pairs_all (rest ++ passed)))
