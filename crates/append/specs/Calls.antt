-- What an accepted call answers.
use Rattle.std.specs.Prelude.{ℕ, ◌≤◌, ◌<◌, ◌≡◌, T}
use Rattle.std.proofs.Common.{lt_of_lt_of_le, arith, ◌∙◌, subst, take_at}
use Rattle.std.proofs.Math.Path.{sym, ap}
use mathlib.Core.List.{List, ◌++◌}
use Rattle.std.proofs.Math.ListN.{drop}
use Rattle.model.specs.declared.Layout.{Layout}
use Rattle.model.specs.Crossings.{crossings}
use Rattle.model.specs.Layouts.{weight, valid, reordered, uncounted, vertex_order, crossings_of}
use Rattle.model.specs.GreedyAppend.{Placing, unplaced, waiting, isolated, has_edges, place_at_back, place_all, lay_answer}
use Rattle.laws.specs.Sums.Lists.{keep_split, keep_whole}
use Rattle.laws.specs.Orders.Permutations.{Permutation}
use Rattle.laws.specs.Tables.Rows.{table_weight}
use Rattle.laws.specs.Layouts.Validity.{sound, valid_symmetric}
use Rattle.laws.specs.Layouts.Recount.{carried_to, carried_changed}
use Rattle.laws.specs.Layouts.Weights.{WithinWords, weight_within_words}
use Rattle.laws.specs.Append.Isolated.{isolated_at_back}
use Rattle.laws.proofs.Append.Calls.{lay_permutation, lay_met}
use Rattle.append_line.specs.declared.Line.{Line}
use Rattle.append.specs.declared.steps.Partial.{Partial}
use Rattle.append_line.specs.Lines.{entries, entries_length, rest_of, written_over, over_start}
use Rattle.append.specs.Rest.{Extended, rest_put}
use Rattle.append.specs.Steps.{Graph, placing_of, LinkedPlaced}

-- a valid layout's words and weights
pub graph_valid : (l : Layout) → T (valid l) → Graph l.n l.adjacency l.weights
unfolding weight
graph_valid l t =
    let right = sound l t in
    record {
      words = record { small = right.small; bits = λ v h. right.bits v (lt_of_lt_of_le h right.small) };
      symmetry = valid_symmetric l t;
      blank = λ u v h. right.fits.columns u v (lt_of_lt_of_le h right.small);
    }

-- those with edges are placed, and then the rest: the list and the tally are those of the definition
module _ {n : ℕ} (small : n ≤ 64) {adj ws : List ℕ} (within : WithinWords n adj (table_weight ws)) {s : ℕ} {r : Partial}
    (linked : LinkedPlaced n adj ws s r) where
  abbrev line : Line
  line = rest_of r.line r.placed n

  rest : Extended r.line line (unplaced n (entries r.line))
  rest = rest_put small linked.part

  -- the rest are the isolated ones
  rest_isolated : waiting n (isolated adj) (entries r.line) ≡ unplaced n (entries r.line)
  unfolding waiting has_edges
  rest_isolated =
      let us = unplaced n (entries r.line) in
      keep_whole (isolated adj) us (omega (arith, linked.none_left, keep_split (isolated adj) us))

  all_placed : record { placed = entries line; tally = r.tally } ≡ place_all n adj (table_weight ws) s
  unfolding place_all placing_of
  all_placed =
      ap (λ (xs : List ℕ). record { placed = xs; tally = r.tally })
      (rest.entries_are ∙ ap (λ (vs : List ℕ). entries r.line ++ vs) (sym rest_isolated))
      ∙ sym (isolated_at_back within (placing_of r) linked.part.order.below)
      ∙ ap (λ (x : Placing). place_at_back n (table_weight ws) x (waiting n (isolated adj) x.placed)) linked.placing

module _ (l : Layout) (s : ℕ) (t : T (valid l)) (h : s < l.n) {r : Partial} (linked : LinkedPlaced l.n l.adjacency l.weights s r) where
  abbrev done : Line
  done = rest_of r.line r.placed l.n

  abbrev laid : List ℕ
  laid = entries done

  placing : record { placed = laid; tally = r.tally } ≡ place_all l.n l.adjacency (weight l) s
  unfolding weight
  placing = all_placed (sound l t).small (weight_within_words l t) linked

  permutation : Permutation l.n laid
  permutation = subst (λ (x : Placing). Permutation l.n x.placed) (sym placing) (lay_permutation l s t h)

  -- the order, with the vertices as they were placed in its first n places
  laid_order : List ℕ
  laid_order = laid ++ drop l.n l.order

  laid_written : written_over done l.order ≡ laid_order
  unfolding laid_order weight
  laid_written =
      let centred = (rest (sound l t).small (weight_within_words l t) linked).centred in
      let size = sym (entries_length centred) ∙ permutation.size in
      over_start centred l.order ∙ ap (λ (k : ℕ). laid ++ drop k l.order) size

  -- the tally is its crossings
  laid_crossings : r.tally ≡ crossings_of (uncounted l.n laid_order l.adjacency l.weights)
  unfolding laid_order crossings_of vertex_order weight
  laid_crossings =
      rw (take_at laid (drop l.n l.order) l.n permutation.size)
      (subst (λ (x : Placing). x.tally ≡ crossings l.n x.placed (weight l)) (sym placing) (lay_met l s t h))

  pub laid_right : {last : Line} {order : List ℕ} {m : Layout} → last ≡ rest_of r.line r.placed l.n → order ≡ written_over last l.order
      → m ≡ carried_to l l.n order l.adjacency l.weights r.tally
      → record { refusal = 0; layout = m; tally = r.tally } ≡ lay_answer l (place_all l.n l.adjacency (weight l) s)
  unfolding reordered laid_order
  laid_right {last} {order} {m} filled e c =
      ap (λ (k : Layout). record { refusal = 0; layout = k; tally = r.tally })
      (c
      ∙ ap (λ (o : List ℕ). carried_to l l.n o l.adjacency l.weights r.tally)
      (e ∙ ap (λ (x : Line). written_over x l.order) filled ∙ laid_written)
      ∙ carried_changed l l.n laid_order l.adjacency l.weights t laid_crossings)
      ∙ ap (lay_answer l) placing
