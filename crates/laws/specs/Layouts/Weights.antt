-- The weights of a valid layout and its words: an edge weighs where the words hold it. What else a valid layout's weights have is valid_symmetric and
-- weight_most (Validity).
use Rattle.std.specs.Prelude.{ℕ, ◌<◌, ◌≡◌, false, List, get_or, T, eqb}
use Rattle.std.proofs.Common.{arith, ap, ◌∙◌}
use borrow.Author.Tests.{eqb-true, not-false, ltb-false}
use Rattle.model.specs.declared.Layout.{Layout}
use Rattle.model.specs.Lists.{one}
use Rattle.model.specs.Crossings.{linked, edges, unit_weight, adjacent, weighted_edges}
use Rattle.model.specs.Layouts.{vertex_order, weight, valid}
use Rattle.model.specs.GreedyAppend.{isolated, has_edges}
use Rattle.laws.specs.Sums.Bits.{bit_beyond}
use Rattle.laws.specs.Crossings.Units.{same_edges_lem}
use Rattle.laws.specs.Tables.Drawn.{Weighted}
use Rattle.laws.specs.Tables.Fits.{fits_light}
use Rattle.laws.specs.Layouts.Validity.{sound, valid_symmetric}

-- weights that go with words: a vertex whose word is 0 has none
pub record WithinWords (n : ℕ) (adj : List ℕ) (W : ℕ → ℕ → ℕ) : Type 0 where
  pub none_from : (v : ℕ) → v < n → has_edges adj v ≡ false → (u : ℕ) → u < n → W v u ≡ 0

-- a word that is 0 has no bit
pub none_linked : (adj : List ℕ) (v : ℕ) → has_edges adj v ≡ false → (u : ℕ) → linked adj v u ≡ false
unfolding has_edges isolated linked
none_linked adj v lone u =
    ap (λ (b : ℕ). eqb b 1)
    (bit_beyond 0 (get_or adj v 0) u (omega (arith, eqb-true (get_or adj v 0) 0 (not-false (eqb (get_or adj v 0) 0) lone))) (omega arith))

pub unit_within_words : (n : ℕ) (adj : List ℕ) → WithinWords n adj (unit_weight adj)
unfolding one
unit_within_words n adj = record { none_from = λ v h lone u k. ap one (none_linked adj v lone u) }

module _ (l : Layout) (t : T (valid l)) where
  -- an order and a table that can be drawn
  pub weighted : Weighted l.n l.order l.weights
  unfolding weight vertex_order
  weighted =
      let s = sound l t in
      record {
        small = s.small;
        permutation = s.permutation;
        symmetry = valid_symmetric l t;
        blank = s.fits.columns;
        light = fits_light s.fits s.small;
      }

  pub adjacent_linked : (u v : ℕ) → u < l.n → v < l.n → adjacent (weight l) u v ≡ linked l.adjacency u v
  unfolding weight adjacent
  adjacent_linked = (sound l t).fits.edges

  pub weight_within_words : WithinWords l.n l.adjacency (weight l)
  unfolding adjacent
  weight_within_words =
      record {
        none_from = λ v h lone u k. omega (arith, ltb-false 0 (weight l v u) (adjacent_linked v u h k ∙ none_linked l.adjacency v lone u));
      }

  -- the edges that weigh are those that are written, in the same sequence
  pub valid_edges : weighted_edges l.n (weight l) ≡ edges l.n l.adjacency
  valid_edges = same_edges_lem l.n l.adjacency (weight l) adjacent_linked
