-- Neighbours counted as ones of an adjacency word: under a word that holds the placed vertices, and under its complement.
use Prim.Native.Nat.{ℕ, ◌+◌, ◌*◌, ◌-◌, ◌^◌, ◌≤◌, ◌<◌}
use Rattle.std.proofs.Math.Nat.{mul_comm, add-zero, lt_of_lt_of_le}
use Rattle.std.proofs.Common.{add-sub_of_le, zero-mul, arith, ◌∙◌}
use Rattle.std.specs.Prelude.{◌≡◌, not, List, get_or}
use Rattle.std.proofs.Math.Path.{sym, ap, ap₂}
use Rattle.model.specs.Lists.{one, member}
use Rattle.model.specs.Crossings.{bit, linked}
use Rattle.model.specs.GreedyAppend.{unplaced, degree_in}
use Rattle.laws.specs.Sums.Ranges.{sum, sum_ext, sum_zero, sum_cut}
use Rattle.laws.specs.Sums.Lists.{all_mono, sum_over_ext}
use Rattle.laws.specs.Sums.Bits.{bit_beyond, bit_complement, masked_ones}
use Rattle.laws.specs.Crossings.Masks.{masked_sum, weight_bit}
use Rattle.laws.specs.Append.Order.{Placed, sum_over_unplaced}
use Rattle.laws.specs.Append.Held.{Held, placed_bit}
use Rattle.append_choice.specs.Choices.{complement}
use Rattle.append_line.specs.declared.Line.{Line}
use Rattle.append_line.specs.Lines.{entries, Centred}

-- some of n vertices are placed, in a line and as bits
pub record Partly (n : ℕ) (l : Line) (placed : ℕ) : Type 0 where
  pub centred : Centred l
  pub order : Placed n (entries l)
  pub held : Held placed (entries l)

-- adjacency words of n vertices
pub record Words (n : ℕ) (adj : List ℕ) : Type 0 where
  pub small : n ≤ 64
  pub bits : (v : ℕ) → v < n → get_or adj v 0 < 2 ^ n

module _ {n : ℕ} {adj : List ℕ} (w : Words n adj) {xs : List ℕ} (p : Placed n xs) {m : ℕ} (h : Held m xs) where
  -- the placed neighbours of v
  pub inside_count : (v : ℕ) → masked_ones (get_or adj v 0) m ≡ degree_in adj v xs
  unfolding degree_in
  inside_count v =
      masked_sum (get_or adj v 0) m h.holds (all_mono p.below (λ x l. lt_of_lt_of_le l w.small))
      ∙ sum_over_ext (bit (get_or adj v 0)) (λ u. one (linked adj v u)) p.below (λ u l. sym (weight_bit adj v u))

  -- the unplaced ones
  pub outside_count : (v : ℕ) → v < n → masked_ones (get_or adj v 0) (complement m) ≡ degree_in adj v (unplaced n xs)
  unfolding degree_in masked_ones complement
  outside_count v l =
      ap (λ (k : ℕ). sum k (λ i. bit (get_or adj v 0) i * bit (complement m) i)) (sym (add-sub_of_le w.small))
      ∙ sum_cut n (64 - n) (λ i. bit (get_or adj v 0) i * bit (complement m) i)
      ∙ ap₂ (λ (a b : ℕ). a + b)
      (sum_ext n (λ i. bit (get_or adj v 0) i * bit (complement m) i) (λ u. one (not (member u xs)) * one (linked adj v u)) both)
      (sum_zero (64 - n) (λ i. bit (get_or adj v 0) (n + i) * bit (complement m) (n + i))
      (λ i b. rw (bit_beyond n (get_or adj v 0) (n + i) (w.bits v l) (omega arith)) (zero-mul (bit (complement m) (n + i)))))
      ∙ add-zero (sum n (λ u. one (not (member u xs)) * one (linked adj v u)))
      ∙ sym (sum_over_unplaced n xs (λ u. one (linked adj v u)))
    where
      both : (u : ℕ) → u < n → bit (get_or adj v 0) u * bit (complement m) u ≡ one (not (member u xs)) * one (linked adj v u)
      both u b =
          ap₂ (λ (x y : ℕ). x * y) (sym (weight_bit adj v u)) (bit_complement 64 m u h.fits (omega (arith, w.small)) ∙ placed_bit w.small p h u b)
          ∙ mul_comm (one (linked adj v u)) (one (not (member u xs)))
