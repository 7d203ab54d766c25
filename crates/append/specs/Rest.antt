-- Once the vertices with edges are placed, the rest at the back: the list is then that of all vertices.
use Prim.Native.Nat.{ℕ, zero, suc, ◌+◌, ◌-◌, ◌≤◌, ◌<◌}
use Rattle.std.proofs.Common.{le_refl, le_of_lt, add-sub_of_le, ◌∙◌, append-nil, append_assoc}
use native.Mathlib.Omega.{arith}
use Rattle.std.specs.Prelude.{◌≡◌, refl, Bool, true, false, not, cond, List, [], ◌∷◌, ◌++◌, eqb}
use Rattle.std.proofs.Math.Path.{sym, ap}
use Rattle.std.proofs.Math.ListN.{length, length-append}
use Rattle.model.specs.Lists.{one, upto, keep, member}
use Rattle.model.specs.Crossings.{bit}
use Rattle.model.specs.GreedyAppend.{unplaced}
use Rattle.laws.specs.Sums.Ranges.{sum, sum_cut}
use Rattle.laws.specs.Append.Order.{unplaced_length, unplaced_next, placed_count}
use Rattle.append_line.specs.declared.Line.{Line}
use Rattle.append_line.specs.Lines.{entries, Centred, entries_length, at_back, back_centred, back_entries, rest_of}
use Rattle.laws.specs.Append.Held.{placed_test}
use Rattle.append.specs.Masks.{Partly}

-- the unplaced vertices below k, with k if it is one, are at most all
unplaced_most : (xs : List ℕ) (n k : ℕ) → k < n → length (unplaced k xs) + one (not (member k xs)) ≤ length (unplaced n xs)
unfolding sum
unplaced_most xs n k h =
    let f : ℕ → ℕ = λ v. one (not (member v xs)) in
    let all : sum n f ≡ sum (suc k + (n - suc k)) f = ap (λ (j : ℕ). sum j f) (sym (add-sub_of_le h)) in
    omega (arith, unplaced_length k xs, unplaced_length n xs, all, sum_cut (suc k) (n - suc k) f)

-- r is l with the vertices vs at the back
pub record Extended (l r : Line) (vs : List ℕ) : Type 0 where
  pub centred : Centred r
  pub entries_are : entries r ≡ entries l ++ vs

module _ {n : ℕ} (small : n ≤ 64) {l : Line} {placed : ℕ} (part : Partly n l placed) where
  module _ {line : Line} {k : ℕ} (e : Extended l line (unplaced k (entries l))) (h : k < n) where
    -- there is room for one that is not placed
    room : member k (entries l) ≡ false → line.size < 64
    unfolding one
    room free =
        let left : one (not (member k (entries l))) ≡ 1 = ap (λ (b : Bool). one (not b)) free in
        omega (
          arith,
          entries_length e.centred,
          ap length e.entries_are ∙ length-append (entries l) (unplaced k (entries l)),
          left,
          unplaced_most (entries l) n k h,
          placed_count part.order,
        )

    next_put : Extended l (cond (eqb (bit placed k) 1) line (at_back line k)) (unplaced (suc k) (entries l))
    next_put = rw (placed_test small part.order part.held k h) (by_test (member k (entries l)) refl)
      where
        more : (b : Bool) → member k (entries l) ≡ b → unplaced k (entries l) ++ cond (not b) (k ∷ []) [] ≡ unplaced (suc k) (entries l)
        more b t =
            ap (λ (c : Bool). unplaced k (entries l) ++ cond (not c) (k ∷ []) []) (sym t) ∙ sym (unplaced_next k (entries l))

        by_test : (b : Bool) → member k (entries l) ≡ b → Extended l (cond b line (at_back line k)) (unplaced (suc k) (entries l))
        by_test true t =
            record {
              centred = e.centred;
              entries_are = e.entries_are ∙ ap (λ (vs : List ℕ). entries l ++ vs) (sym (append-nil (unplaced k (entries l))) ∙ more true t);
            }
        by_test false t =
            let vertex : k < 64 = omega arith in
            record {
              centred = back_centred e.centred (room t) vertex;
              entries_are =
                  back_entries e.centred (room t) vertex
                  ∙ ap (λ (vs : List ℕ). vs ++ (k ∷ [])) e.entries_are
                  ∙ append_assoc (entries l) (unplaced k (entries l)) (k ∷ [])
                  ∙ ap (λ (vs : List ℕ). entries l ++ vs) (more false t);
            }

  all_put : (k : ℕ) → k ≤ n → Extended l (rest_of l placed k) (unplaced k (entries l))
  unfolding rest_of unplaced upto keep
  all_put zero h = record { centred = part.centred; entries_are = sym (append-nil (entries l)) }
  all_put (suc k) h = next_put (all_put k (le_of_lt h)) h

  pub rest_put : Extended l (rest_of l placed n) (unplaced n (entries l))
  rest_put = all_put n (le_refl n)
