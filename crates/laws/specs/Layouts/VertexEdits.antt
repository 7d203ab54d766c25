-- Adding a vertex: the order holds one more, and it has no edges.
use Prim.Native.Nat.{ℕ, suc, ◌+◌, ◌<◌}
use Rattle.std.proofs.Common.{arith, ap, ◌∙◌, length-append, take-suc-set, pow_mono}
use Rattle.std.proofs.Math.Nat.{lt_of_lt_of_le}
use Rattle.std.proofs.Math.Decide.{ℕ_discrete}
use Rattle.std.specs.Prelude.{◌≡◌, refl, length, get_or, take, T, eqb, Bool, true, false}
use Rattle.std.proofs.Math.Path.{sym}
use mathlib.Core.List.{List, [], ◌∷◌, ◌++◌}
use Rattle.std.proofs.Math.ListN.{set}
use Rattle.std.proofs.Math.Dec.{ltb}
use borrow.Author.Tests.{le-ltb}
use Rattle.std.proofs.Math.Seq.{get_or-set_other}
use Rattle.model.specs.declared.Layout.{Layout}
use Rattle.model.specs.Lists.{one, occurrences}
use Rattle.model.specs.Crossings.{unit_weight}
use Rattle.model.specs.Layouts.{vertex_order, weight, valid, changed}
use Rattle.model.specs.Edits.{added}
use Rattle.laws.specs.Sums.Indicators.{less, same, more, order, one_eq, one_ne}
use Rattle.laws.specs.Orders.Permutations.{occurrences_nil, occurrences_cons, occurrences_append, Permutation, none_beyond}
use Rattle.laws.specs.Sums.Pairs.{Symmetric}
use Rattle.laws.specs.Sums.Bits.{bit_beyond}
use Rattle.laws.specs.Crossings.Masks.{weight_bit}
use Rattle.laws.specs.Tables.Fits.{Fits, fits_light}
use Rattle.laws.specs.Layouts.Validity.{sound, sound_valid, valid_symmetric}

not_one : (b : Bool) → one b ≡ 0 → b ≡ false
unfolding one
not_one true e = absurd (omega arith)
not_one false e = refl

-- one more vertex at the end
pub permutation_more : {n : ℕ} {o : List ℕ} → Permutation n o → Permutation (suc n) (o ++ (n ∷ []))
permutation_more {n} {o} p =
    record {
      size = length-append o (n ∷ []) ∙ omega (arith, p.size);
      once = λ v h.
          occurrences_append v o (n ∷ [])
          ∙ ap (λ (x : ℕ). occurrences v o + x) (occurrences_cons v n [])
          ∙ ap (λ (x : ℕ). occurrences v o + (one (eqb v n) + x)) (occurrences_nil v)
          ∙ elim (order v n) [
            | less l ↦ omega (arith, p.once v l, one_ne v n (λ e. omega arith))
            | same e ↦ omega (arith, none_beyond p v (omega arith), one_eq v n e)
            | more l ↦ absurd (omega arith)
          ];
    }

module _ (l : Layout) (t : T (valid l)) (room : l.n < 64) where
  -- the new vertex has no edge, either way
  no_edge_from : (v : ℕ) → v < 64 → weight l l.n v ≡ 0
  unfolding weight
  no_edge_from v h = (sound l t).fits.rows l.n v (omega arith) room h

  pub no_edge_to : (u : ℕ) → u < 64 → weight l u l.n ≡ 0
  unfolding weight
  no_edge_to u h = (sound l t).fits.columns u l.n h (omega arith) room

  -- nor a bit
  no_bit_from : (v : ℕ) → unit_weight l.adjacency l.n v ≡ 0
  no_bit_from v =
      weight_bit l.adjacency l.n v
      ∙ bit_beyond 0 (get_or l.adjacency l.n 0) v (omega (arith, (sound l t).unused l.n (omega arith) room)) (omega arith)

  no_bit_to : (u : ℕ) → u < 64 → unit_weight l.adjacency u l.n ≡ 0
  no_bit_to u h = weight_bit l.adjacency u l.n ∙ bit_beyond l.n (get_or l.adjacency u 0) l.n ((sound l t).bits u h) (omega arith)

  -- a symmetric weight that the new vertex does not have
  more_symmetric : {W : ℕ → ℕ → ℕ} → Symmetric l.n W → ((v : ℕ) → v < 64 → W l.n v ≡ 0) → ((u : ℕ) → u < 64 → W u l.n ≡ 0)
      → Symmetric (suc l.n) W
  more_symmetric s from to =
      record {
        swap = λ u v a b.
            elim (ℕ_discrete u l.n) [
              | yes e ↦ rw e (from v (omega arith) ∙ sym (to v (omega arith)))
              | no du ↦
                  elim (ℕ_discrete v l.n) [
                    | yes e ↦ rw e (to u (omega arith) ∙ sym (from u (omega arith)))
                    | no dv ↦ s.swap u v (omega arith) (omega arith)
                  ]
            ];
        diagonal = λ v a.
            elim (ℕ_discrete v l.n) [ yes e ↦ rw e (from l.n room) | no d ↦ s.diagonal v (omega arith) ];
      }

  pub symmetric_more : Symmetric (suc l.n) (weight l)
  symmetric_more = more_symmetric (valid_symmetric l t) no_edge_from no_edge_to

  -- the table fits one vertex more
  fits_more : Fits (suc l.n) l.adjacency l.weights
  unfolding weight
  fits_more =
      let f = (sound l t).fits in
      record {
        even = symmetric_more.swap;
        edges = λ u v a b. elim (ℕ_discrete u l.n) [
          | yes e ↦ rw e (none (no_edge_from v (omega arith)) (no_bit_from v))
          | no du ↦
              elim (ℕ_discrete v l.n) [
                | yes e ↦ rw e (none (no_edge_to u (omega arith)) (no_bit_to u (omega arith)))
                | no dv ↦ f.edges u v (omega arith) (omega arith)
              ]
        ];
        light = λ u v a b. fits_light f (sound l t).small u v (omega arith) (omega arith);
        rows = λ u v h a b. f.rows u v (omega arith) a b;
        columns = λ u v a h b. f.columns u v a (omega arith) b;
      }
    where
      none : {w : ℕ} {b : Bool} → w ≡ 0 → one b ≡ 0 → ltb 0 w ≡ b
      none {w} {b} e z = le-ltb 0 w (omega arith) ∙ sym (not_one b z)

  module _ (size : length l.order ≡ 64) where
    permutation_added : Permutation (suc l.n) (take (suc l.n) (set l.order l.n l.n))
    unfolding vertex_order
    permutation_added = rw (take-suc-set l.order l.n l.n (omega arith)) (permutation_more (sound l t).permutation)

    -- the layout with the vertex added is valid
    pub added_valid : T (valid (added l))
    unfolding added changed vertex_order weight
    added_valid =
        let s = sound l t in
        sound_valid (added l)
        (record {
          small = room;
          permutation = permutation_added;
          places = λ i h b. get_or-set_other l.order l.n i l.n 0 (λ e. omega arith) ∙ s.places i (omega arith) b;
          words = more_symmetric s.words (λ v h. no_bit_from v) no_bit_to;
          bits = λ v b. lt_of_lt_of_le (s.bits v b) (pow_mono (omega arith));
          unused = λ v h b. s.unused v (omega arith) b;
          fits = fits_more;
        })
