-- Kinds of layout that have an order, read clockwise: what is asked of putting another order in, so that moving a vertex behind each other one is a
-- lawful search (Sweeps).
use Rattle.std.specs.Prelude.{ℕ, ◌+◌, ◌≤◌, ◌<◌, ◌≡◌, refl, Bool, true, false, List, [], ◌∷◌, map, length, eqb}
use Rattle.std.proofs.Common.{le_trans, le_of_eq, not-suc-le-zero, arith, sym, ap, ◌∙◌, subst, eqb-true}
use Rattle.model.specs.Lists.{one, sum_over, occurrences}
use Rattle.model.specs.Edits.{moved_after}
use Rattle.model.specs.Search.{Search}
use Rattle.model.specs.Sifting.{clockwise_from}
use Rattle.laws.specs.Sums.Lists.{All, none, also, all_map}
use Rattle.laws.specs.Orders.Permutations.{Permutation}
use Rattle.laws.specs.Orders.Moves.{moved_permutation, moved_again}
use Rattle.laws.specs.Sifting.Sweeps.{NoneBelow, CandidateOf, Lawful}
use Rattle.laws.specs.Sifting.Candidates.{clockwise_once, clockwise_others}

-- what holds of each entry holds of whatever occurs
occurring : {P : ℕ → Type 0} {xs : List ℕ} → All P xs → (v : ℕ) → 0 < occurrences v xs → P v
unfolding occurrences sum_over one
occurring none v h = absurd (not-suc-le-zero h)
occurring {P} (also {x} {xs} p ps) v h = by_test (eqb v x) (eqb-true v x) h (occurring ps v)
  where
    by_test : (b : Bool) → (b ≡ true → v ≡ x) → 0 < one b + occurrences v xs → (0 < occurrences v xs → P v) → P v
    by_test true e k r = subst P (sym (e refl)) p
    by_test false e k r = r (omega arith)

all_unmap : {A B : Type 0} (Q : B → Type 0) (g : A → B) (xs : List A) → All Q (map g xs) → All (λ x. Q (g x)) xs
all_unmap Q g [] none = none
all_unmap Q g (x ∷ xs) (also q qs) = also q (all_unmap Q g xs qs)

module _ {S : Type 0} (size cost : S → ℕ) (order : S → List ℕ) (reorder : S → List ℕ → S) (Valid : S → Type 0) where
  -- u directly after each other vertex, clockwise from u
  abbrev pub behind_each : ℕ → S → List S
  behind_each u s = map (λ v. reorder s (moved_after u v (order s))) (clockwise_from u (order s))

  abbrev pub circle : Search S
  circle = record { size = size; cost = cost; candidates = behind_each }

  -- what is asked of another order put in
  pub record Reorders : Type 0 where
    pub permuted : (s : S) → Valid s → Permutation (size s) (order s)
    pub keeps_valid : (s : S) (o : List ℕ) → Valid s → Permutation (size s) o → Valid (reorder s o)
    pub keeps_size : (s : S) (o : List ℕ) → size (reorder s o) ≡ size s
    pub has_order : (s : S) (o : List ℕ) → length o ≡ size s → order (reorder s o) ≡ o
    pub costs_same : (s : S) (o p : List ℕ) → length o ≡ size s → length p ≡ size s → cost (reorder (reorder s o) p) ≡ cost (reorder s p)

  -- u behind v
  abbrev behind : S → ℕ → ℕ → S
  behind s u v = reorder s (moved_after u v (order s))

  module _ (law : Reorders) where
    module _ (s : S) (t : Valid s) (u : ℕ) (h : u < size s) (m : ℕ) where
      -- no candidate costs less than m: none behind another vertex does
      pub to_places : NoneBelow circle Valid m u s → (v : ℕ) → v < size s → (u ≡ v → ⊥) → m ≤ cost (behind s u v)
      to_places b v l d =
          occurring (all_unmap (λ c. m ≤ cost c) (behind s u) (clockwise_from u (order s)) b) v
          (omega (arith, clockwise_once (law.permuted s t) u h v l d))

      from_places : ((v : ℕ) → v < size s → (u ≡ v → ⊥) → m ≤ cost (behind s u v)) → NoneBelow circle Valid m u s
      from_places b = all_map (λ c. m ≤ cost c) (behind s u) (clockwise_others (law.permuted s t) u h) (λ v p. b v p.0 p.1)

    module _ (s : S) (t : Valid s) (u : ℕ) (h : u < size s) (v : ℕ) (l : v < size s) (d : u ≡ v → ⊥) where
      moved : Permutation (size s) (moved_after u v (order s))
      moved = moved_permutation (law.permuted s t) u h v l d

      -- moved once more, u gets where moving it at once would have led
      twice : (w : ℕ) → w < size s → (u ≡ w → ⊥) → cost (behind (behind s u v) u w) ≡ cost (behind s u w)
      twice w k e =
          ap (λ (o : List ℕ). cost (reorder (behind s u v) o))
          (ap (moved_after u w) (law.has_order s (moved_after u v (order s)) moved.size) ∙ moved_again u v w (order s))
          ∙ law.costs_same s (moved_after u v (order s)) (moved_after u w (order s)) moved.size
          (moved_permutation (law.permuted s t) u h w k e).size

      behind_lawful : CandidateOf circle Valid s u (behind s u v)
      behind_lawful =
          let same = law.keeps_size s (moved_after u v (order s)) in
          let after = law.keeps_valid s (moved_after u v (order s)) t moved in
          record {
            valid_after = after;
            same_size = same;
            again = λ m b.
                from_places (behind s u v) after u (rw same h) m
                (λ w k e. le_trans (to_places s t u h m b w (rw same at k) e) (le_of_eq (sym (twice w (rw same at k) e))));
          }

    pub circle_lawful : Lawful circle Valid
    circle_lawful s t u h =
        all_map (CandidateOf circle Valid s u) (behind s u) (clockwise_others (law.permuted s t) u h) (λ v p. behind_lawful s t u h v p.0 p.1)
