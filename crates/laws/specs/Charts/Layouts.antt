-- A layout made of n vertices, some edges and an order (layout_with of model, Charts): it is valid, and has its true crossings.
use Prim.Native.Nat.{ℕ, ◌≤◌, ◌<◌}
use Rattle.std.proofs.Common.{le_of_eq, lt_of_lt_of_le, arith, ◌∙◌, ext_get_or, get_or-take, length-take-le}
use Rattle.std.specs.Prelude.{◌≡◌, refl, true, false, length, take, T}
use Rattle.std.proofs.Math.Path.{sym, ap}
use Rattle.std.proofs.Math.Bool.{Bool}
use mathlib.Core.List.{List, map}
use Rattle.std.proofs.Math.ListN.{get_or-eq_default}
use Rattle.std.proofs.Math.Arith.{lt-one}
use Rattle.model.specs.declared.Edge.{Edge}
use Rattle.model.specs.Lists.{one, every, any}
use Rattle.model.specs.Crossings.{linked, crossings, unit_weight, edge_weight}
use Rattle.model.specs.Layouts.{vertex_order, table_weight, weight, crossings_of, each_once, valid}
use Rattle.model.specs.Charts.{edge_within, joins, table_in, layout_with}
use Rattle.laws.specs.Orders.Permutations.{Permutation}
use Rattle.laws.specs.Sums.Pairs.{Symmetric}
use Rattle.laws.specs.Layouts.Validity.{each_once_lem, sound_valid, weight_loopless}
use Rattle.laws.specs.Sums.Lists.{All}
use Rattle.laws.specs.Tables.Fits.{Fits, IsWeight, fits_symmetric}
use Rattle.laws.specs.Tables.Counts.{counted, counted_crossings}
use Rattle.laws.specs.Charts.Ends.{Ends, joins_none, joins_swap, within_mono}
use Rattle.laws.specs.Charts.Weights.{table_weighed, weighed_fits}
use Rattle.laws.specs.Charts.Words.{word_of_below, adjacency_of, adjacency_at, adjacency_linked}
use Rattle.laws.specs.Charts.Padded.{padded, padded_length, padded_at}

-- edges whose ends are below n, with weights that are W of their ends, and an order that holds each vertex once
pub record Accepted (n : ℕ) (es : List Edge) (W : ℕ → ℕ → ℕ) (o : List ℕ) : Type 0 where
  pub few : n ≤ 64
  pub within : every (edge_within n) es ≡ true
  pub long : length o ≡ n
  pub each : each_once n o ≡ true
  pub weighs : All (λ e. IsWeight (edge_weight W e)) es

module _ {n : ℕ} {es : List Edge} {W : ℕ → ℕ → ℕ} {o : List ℕ} (a : Accepted n es W o) where
  abbrev ws : List ℕ
  ws = map (edge_weight W) es

  fits : Fits n (adjacency_of es) (table_in es ws)
  fits = weighed_fits a.few a.within a.weighs (table_weighed es (within_mono n 64 a.few es a.within))

  permutation : Permutation n o
  permutation = each_once_lem n o (le_of_eq a.long) (rw a.each tt)

  none_outside : (u v : ℕ) → (Ends n u v → ⊥) → any (joins u v) es ≡ false
  none_outside u v = joins_none n u v es a.within

  adj : List ℕ
  adj = adjacency_of es

  linked_joins : (u v : ℕ) → u < n → v < n → linked adj u v ≡ any (joins u v) es
  unfolding adj
  linked_joins u v h l = adjacency_linked es u v (lt_of_lt_of_le h a.few) (lt_of_lt_of_le l a.few)

  symmetry : Symmetric n (unit_weight adj)
  unfolding one
  symmetry =
      record {
        swap = λ u v h l. ap one (linked_joins u v h l ∙ joins_swap u v es ∙ sym (linked_joins v u l h));
        diagonal = λ v h. ap one (linked_joins v v h h ∙ none_outside v v (λ e. e.differ refl));
      }

  -- the first n places of the array
  pub front : take n (padded o) ≡ o
  front =
      ext_get_or 0 (take n (padded o)) o (sized ∙ sym a.long)
      (λ i l.
      (let below : i < n = omega (arith, sized) in
      get_or-take n (padded o) i 0 below ∙ padded_at o i (lt_of_lt_of_le below a.few)))
    where
      sized : length (take n (padded o)) ≡ n
      sized = length-take-le n (padded o) (omega (arith, padded_length o, a.few))

  -- what the counter counts
  pub count_read : counted n (padded o) (table_weight (table_in es ws)) ≡ (layout_with n es ws o).count
  unfolding adj weight
  count_read =
      counted_crossings (padded o) a.few (rw front permutation) (fits_symmetric fits (weight_loopless n adj symmetry))
      ∙ ap (λ (x : List ℕ). crossings n x (table_weight (table_in es ws))) front

  pub count_true : (layout_with n es ws o).count ≡ crossings_of (layout_with n es ws o)
  unfolding crossings_of vertex_order weight
  count_true = ap (λ (x : List ℕ). crossings n x (table_weight (table_in es ws))) (sym front)

  -- the layout is valid
  pub valid_read : T (valid (layout_with n es ws o))
  unfolding vertex_order adj
  valid_read =
      sound_valid (layout_with n es ws o)
      (record {
        small = a.few;
        permutation = rw front permutation;
        places = λ i l h. padded_at o i h ∙ get_or-eq_default o 0 (omega (arith, a.long));
        words = symmetry;
        bits = λ u h.
            rw (adjacency_at es u h)
            (word_of_below (joined u) n 64 a.few (λ v l. none_outside u v (λ e. omega (arith, e.second))));
        unused = λ u l h.
            adjacency_at es u h
            ∙ lt-one (word_of_below (joined u) 0 64 (omega arith) (λ v b. none_outside u v (λ e. omega (arith, e.first))));
        fits = fits;
      })
    where
      joined : ℕ → ℕ → Bool
      joined u v = any (joins u v) es
