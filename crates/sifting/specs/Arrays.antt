-- The ring as arrays alone: the first n places of an array hold the order, and a table holds the weights. A sift looks at nothing else of a layout.
use Rattle.std.specs.Prelude.{◌≡◌, ℕ, ◌-◌, ◌<◌, ◌≤◌, cond, List, [], ◌∷◌, ◌++◌, map, length, take, drop, ◌==◌, refl}
use Rattle.std.proofs.Common.{le_trans, le_of_eq, lt_of_lt_of_le, arith, ◌∙◌, take-append-drop, take_at}
use Rattle.std.proofs.Math.Path.{sym, ap}
use Rattle.std.proofs.lemmas.List.{length-map}
use Rattle.std.proofs.Math.Seq.{length_front}
use borrow.Author.Tests.{lt-ltb, le-ltb, eq-eqb, ne_eqb}
use Rattle.model.specs.Lists.{one}
use Rattle.model.specs.Crossings.{crossings}
use Rattle.model.specs.Edits.{moved_after}
use Rattle.model.specs.Search.{Search, least_cost, chosen, sift_best, sift_moves, best_candidates}
use Rattle.model.specs.Sifting.{clockwise_from}
use Rattle.laws.specs.Sums.Indicators.{less, same, more, order}
use Rattle.laws.specs.Sums.Lists.{All, all_mono}
use Rattle.laws.specs.Orders.Permutations.{at, Permutation, at_lt}
use Rattle.laws.specs.Crossings.Bound.{most_weighted}
use Rattle.laws.proofs.Crossings.Bound.{crossing_sum_bound}
use Rattle.laws.specs.Crossings.Counting.{placed}
use Rattle.laws.specs.Crossings.Edges.{crossings_sum}
use Rattle.laws.specs.Tables.Rows.{table_weight}
use Rattle.laws.specs.Tables.Drawn.{Weighted}
use Rattle.laws.specs.Sifting.LocalSearch.{least_same, count_same, chosen_same, chosen_least}
use Rattle.laws.specs.Sifting.Sweeps.{Lawful, best_most}
use Rattle.laws.specs.Sifting.Circles.{Reorders, circle_lawful}
use Rattle.laws.specs.Sifting.Candidates.{candidates, least_crossings, optima, improves, sifted_order, clockwise_length, all_candidates, candidate_permutation}
use Rattle.sift_walk.specs.declared.Walk.{Walk}
use Rattle.sift_walk.specs.Finding.{Found}
use Rattle.sift_walk.specs.Seats.{Walker}

module _ (n : ℕ) (ws : List ℕ) where
  -- the crossings of the order in the first n places
  abbrev pub array_crossings : List ℕ → ℕ
  array_crossings places = crossings n (take n places) (table_weight ws)

  -- another order put in, the unused places kept
  abbrev pub reordered : List ℕ → List ℕ → List ℕ
  reordered places o = o ++ drop n places

  -- as what is searched: like `ring` (`model`, Sifting)
  abbrev pub arrays : Search (List ℕ)
  arrays =
      record {
        size = λ places. n;
        cost = array_crossings;
        candidates = λ u places. map (λ v. reordered places (moved_after u v (take n places))) (clockwise_from u (take n places));
      }

  -- an array of 64 places with an order that can be drawn
  pub record Drawn (places : List ℕ) : Type 0 where
    pub size : length places ≡ 64
    pub weighted : Weighted n places ws

  reordered_order : (places o : List ℕ) → length o ≡ n → take n (reordered places o) ≡ o
  reordered_order places o e = take_at o (drop n places) n e

  reordered_drawn : (places o : List ℕ) → Drawn places → Permutation n o → Drawn (reordered places o)
  reordered_drawn places o d perm =
      let w = d.weighted in
      record {
        size = length_front places o n (perm.size ∙ sym w.permutation.size) ∙ d.size;
        weighted =
            record {
              small = w.small;
              permutation = rw (reordered_order places o perm.size) perm;
              symmetry = w.symmetry;
              blank = w.blank;
              light = w.light;
            };
      }

  reorders : Reorders (λ places. n) array_crossings (take n) reordered Drawn
  reorders =
      record {
        permuted = λ places d. d.weighted.permutation;
        keeps_valid = reordered_drawn;
        keeps_size = λ places o. refl;
        has_order = reordered_order;
        costs_same = λ places o p e f.
            ap (λ (x : List ℕ). crossings n x (table_weight ws)) (reordered_order (reordered places o) p f ∙ sym (reordered_order places p f));
      }

  pub arrays_lawful : Lawful arrays Drawn
  arrays_lawful = circle_lawful (λ places. n) array_crossings (take n) reordered Drawn reorders

pub map_map : {A B C : Type 0} (g : B → C) (f : A → B) (xs : List A) → map g (map f xs) ≡ map (λ x. g (f x)) xs
map_map g f [] = refl
map_map {C = C} g f (x ∷ xs) = ap (λ (ys : List C). g (f x) ∷ ys) (map_map g f xs)

module _ {n : ℕ} {ws places : List ℕ} (d : Drawn n ws places) where
  abbrev W : ℕ → ℕ → ℕ
  W = table_weight ws

  abbrev o : List ℕ
  o = take n places

  abbrev perm : Permutation n (take n places)
  perm = d.weighted.permutation

  abbrev small : n ≤ 64
  small = d.weighted.small

  -- 41,315,324,400
  pub drawn_bound : array_crossings n ws places ≤ most_weighted
  drawn_bound =
      le_trans (le_of_eq (crossings_sum perm W d.weighted.symmetry))
      (crossing_sum_bound n 255 (placed o W) small
      (λ i j a b. d.weighted.light (at o i) (at o j) (lt_of_lt_of_le (at_lt perm i (omega arith)) small)
      (lt_of_lt_of_le (at_lt perm j b) small)))

  module _ {u : ℕ} (h : u < n) where
    -- what the walk starts from
    pub walker : Walker n places ws u
    walker =
        record {
          size = d.size;
          few = small;
          permutation = perm;
          symmetry = d.weighted.symmetry;
          blank = λ x y l. d.weighted.blank x y (lt_of_lt_of_le l small);
          vertex = h;
        }

    -- the candidates, as orders
    as_orders : (arrays n ws).candidates u places ≡ map (reordered n ws places) (candidates u o)
    unfolding candidates
    as_orders = sym (map_map (reordered n ws places) (λ v. moved_after u v o) (clockwise_from u o))

    as_crossings : All (λ c. array_crossings n ws (reordered n ws places c) ≡ crossings n c W) (candidates u o)
    as_crossings =
        all_mono (all_candidates perm u h)
        (λ c k. ap (λ (x : List ℕ). crossings n x W) (take_at c (drop n places) n (candidate_permutation perm u h k).size))

    least_order : least_cost (array_crossings n ws) places ((arrays n ws).candidates u places) ≡ least_crossings n W u o
    unfolding least_crossings
    least_order = rw as_orders (least_same (λ c. crossings n c W) (array_crossings n ws) (reordered n ws places) (crossings n o W) as_crossings)

    sifted_array : sift_best (arrays n ws) places u ≡ sifted_order n W u o ++ drop n places
    unfolding sift_best sifted_order improves least_crossings
    sifted_array =
        ap (λ (cs : List (List ℕ)). chosen (array_crossings n ws) places cs) as_orders
        ∙ ap (λ (x : List ℕ). chosen (array_crossings n ws) x (map (reordered n ws places) (candidates u o))) (sym (take-append-drop n places))
        ∙ chosen_same (λ c. crossings n c W) (array_crossings n ws) (reordered n ws places) o
        (ap (λ (x : List ℕ). crossings n x W) (take_at o (drop n places) n perm.size)) as_crossings

    sifted_least : array_crossings n ws (sift_best (arrays n ws) places u) ≡ least_crossings n W u o
    unfolding sift_best
    sifted_least = chosen_least (array_crossings n ws) places ((arrays n ws).candidates u places) ∙ least_order

    -- fewer than there are vertices
    pub best_few : best_candidates (arrays n ws) places u ≤ 63
    best_few =
        omega (
          arith,
          best_most (arrays n ws) places u,
          length-map (clockwise_from u o) (λ v. reordered n ws places (moved_after u v o)),
          clockwise_length perm u h,
          small,
        )

    -- what the walk finds
    module _ {best : Walk} (found : Found n places ws u best) where
      pub found_order : best.order ≡ sift_best (arrays n ws) places u
      found_order = found.order ∙ sym sifted_array

      pub found_saving : best.saving ≡ array_crossings n ws places - array_crossings n ws (sift_best (arrays n ws) places u)
      found_saving = omega (arith, found.saving, sifted_least)

      -- a vertex moves exactly where its sift takes crossings away
      pub found_moved : cond (best.saving == 0) 0 1 ≡ one (sift_moves (arrays n ws) places u)
      unfolding sift_moves one
      found_moved =
          rw least_order
          (elim (order (least_crossings n W u o) (crossings n o W)) [
            | less l ↦ rw (lt-ltb _ _ l, ne_eqb best.saving 0 (λ e. omega (arith, found.saving)))
            | same e ↦ rw (le-ltb _ _ (le_of_eq (sym e)), eq-eqb best.saving 0 (omega (arith, found.saving)))
            | more l ↦ absurd (omega (arith, found.saving))
          ])

      pub found_optima : best.optima ≡ best_candidates (arrays n ws) places u
      unfolding best_candidates optima
      found_optima =
          found.optima_are
          ∙ sym
          (rw (least_order, as_orders)
          (count_same (λ c. crossings n c W) (array_crossings n ws) (reordered n ws places) (least_crossings n W u o) as_crossings))
