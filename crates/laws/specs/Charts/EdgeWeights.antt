-- The edges of a valid layout, listed with their weights, give its table again.
use Rattle.std.specs.Prelude.{ℕ, ◌≤◌, ◌<◌, min, max, ◌≡◌, Bool, true, false, List, T}
use Rattle.std.proofs.Common.{le_of_lt, le_of_eq, arith, sym, ◌∙◌, ltb-false}
use Rattle.std.proofs.Math.Nat.{min-eq_left, min-eq_right, max-eq_left, max-eq_right}
use Rattle.std.proofs.Math.Decide.{dec_lt}
use Rattle.std.proofs.Math.Path.{refl, ap, ap₂}
use Rattle.std.proofs.Math.Bool.{cond}
use Rattle.model.specs.declared.Edge.{Edge}
use Rattle.model.specs.declared.Layout.{Layout}
use Rattle.model.specs.Lists.{every, any}
use Rattle.model.specs.Crossings.{linked, edges}
use Rattle.model.specs.Layouts.{table_weight, weight, valid}
use Rattle.model.specs.Charts.{edge_within, joins, table_in}
use Rattle.model.specs.WrittenCharts.{weights_of}
use Rattle.laws.specs.Sums.Indicators.{Order, less, same, more, order}
use Rattle.laws.specs.Sums.Every.{every_all}
use Rattle.laws.specs.Crossings.Edges.{edges_within}
use Rattle.laws.specs.Tables.Fits.{Fits}
use Rattle.laws.specs.Layouts.Validity.{sound}
use Rattle.laws.specs.Layouts.Sizes.{Sized}
use Rattle.laws.specs.Charts.Ends.{within_mono}
use Rattle.laws.specs.Charts.Words.{adjacency_linked}
use Rattle.laws.specs.Charts.Weights.{WeighedBy, table_weighed, weighed_same}
use Rattle.laws.specs.Charts.EdgeLists.{edges_words}

module _ (l : Layout) (t : T (valid l)) (z : Sized l) where
  abbrev listed : List Edge
  listed = edges l.n l.adjacency

  abbrev fits : Fits l.n l.adjacency l.weights
  fits = (sound l t).fits

  -- two vertices that the words join have their edge in the list
  pub listed_joined : (u v : ℕ) → u < 64 → v < 64 → any (joins u v) listed ≡ linked l.adjacency u v
  listed_joined u v h k =
      let s = sound l t in
      sym (adjacency_linked listed u v h k)
      ∙ ap (λ (adj : List ℕ). linked adj u v) (edges_words l.n l.adjacency s.words s.bits s.unused s.small z.words)

  pub listed_within : every (edge_within 64) listed ≡ true
  listed_within = within_mono l.n 64 (sound l t).small listed (every_all (edges_within l.n l.adjacency))

  pub edges_weighed : WeighedBy (weight l) listed l.weights
  unfolding weight
  edges_weighed =
      record {
        size = z.table;
        on = λ u v h k. elim (dec_lt (max u v) l.n) [
          | yes b ↦
              by_test u v (omega arith) (omega arith) (linked l.adjacency u v) refl
              ∙ ap (λ (x : Bool). cond x (table_weight l.weights (min u v) (max u v)) 0) (sym (listed_joined u v h k))
          | no b ↦ outside u v h k (omega arith) (any (joins u v) listed)
        ];
      }
    where
      lower_first : (u v : ℕ) → u < l.n → v < l.n → Order u v → table_weight l.weights u v ≡ table_weight l.weights (min u v) (max u v)
      lower_first u v h k (less d) = ap₂ (table_weight l.weights) (sym (min-eq_left (le_of_lt d))) (sym (max-eq_right (le_of_lt d)))
      lower_first u v h k (same d) = ap₂ (table_weight l.weights) (sym (min-eq_left (le_of_eq d))) (sym (max-eq_right (le_of_eq d)))
      lower_first u v h k (more d) =
          fits.even u v h k ∙ ap₂ (table_weight l.weights) (sym (min-eq_right (le_of_lt d))) (sym (max-eq_left (le_of_lt d)))

      by_test : (u v : ℕ) → u < l.n → v < l.n → (b : Bool) → linked l.adjacency u v ≡ b
          → table_weight l.weights u v ≡ cond b (table_weight l.weights (min u v) (max u v)) 0
      by_test u v h k true e = lower_first u v h k (order u v)
      by_test u v h k false e = omega (arith, ltb-false 0 (table_weight l.weights u v) (fits.edges u v h k ∙ e))

      -- no vertex weighs towards what is none
      no_weight : (u v : ℕ) → u < 64 → v < 64 → l.n ≤ max u v → table_weight l.weights u v ≡ 0
      no_weight u v h k out =
          elim (dec_lt u l.n) [ yes a ↦ fits.columns u v h (omega arith) k | no a ↦ fits.rows u v (omega arith) h k ]

      outside : (u v : ℕ) → u < 64 → v < 64 → l.n ≤ max u v → (b : Bool)
          → table_weight l.weights u v ≡ cond b (table_weight l.weights (min u v) (max u v)) 0
      outside u v h k out true = no_weight u v h k out ∙ sym (fits.columns (min u v) (max u v) (omega arith) out (omega arith))
      outside u v h k out false = no_weight u v h k out

  pub table_again : table_in listed (weights_of l) ≡ l.weights
  unfolding weights_of
  table_again =
      weighed_same {U = weight l} {W = weight l} {es = listed} {fs = listed} (table_weighed listed listed_within) edges_weighed (λ u v. refl) (λ a b. refl)
