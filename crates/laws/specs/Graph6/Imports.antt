-- What an import gives (document 02, Note 4): a valid layout in the order 0, 1, 2 and so on, with its true crossings.
use Rattle.std.specs.Prelude.{ℕ, ◌≤◌, ◌≡◌, refl, true, length, drop, replicate, T}
use Rattle.std.proofs.Common.{arith, sym, ◌∙◌, lit<}
use Rattle.std.proofs.Math.Path.{ap, subst}
use mathlib.Core.List.{List, [], ◌∷◌, map}
use Rattle.std.proofs.Math.Dec.{eqb}
use borrow.Author.Tests.{eq-eqb, eqb-true}
use Rattle.model.specs.declared.Edge.{Edge}
use Rattle.model.specs.declared.Layout.{Layout}
use Rattle.model.specs.Answers.{LayoutRead}
use Rattle.model.specs.Lists.{upto, every}
use Rattle.model.specs.Crossings.{edge_weight}
use Rattle.model.specs.Charts.{layout_with}
use Rattle.model.specs.Layouts.{vertex_order, crossings_of, each_once, valid}
use Rattle.model.specs.Checks.{refusal}
use Rattle.model.specs.Graph6.{holds_six, bytes_for, pairs_by_higher, unpacked, starts_with_size, graph6_size, graph6_data, graph6_edges, graph6_size_checks}
use Rattle.model.specs.Graph6.{data_checks, padding_checks, graph6_checks, graph6_layout, import_of}
use Rattle.laws.specs.Sums.Indicators.{T_true, both_left, both_right}
use Rattle.laws.specs.Sums.Lists.{All, none, also, length_upto}
use Rattle.laws.specs.Orders.Permutations.{upto_permutation}
use Rattle.laws.specs.Layouts.Sizes.{Sized}
use Rattle.laws.specs.Layouts.Validity.{permutation_each_once}
use Rattle.laws.specs.Layouts.Refusals.{Numbered, all_pass}
use Rattle.laws.specs.Graph6.Pairs.{chosen_within}
use Rattle.laws.specs.Graph6.Sizes.{size_accepted, size_found_lem}
use Rattle.laws.specs.Charts.Words.{adjacency_length}
use Rattle.laws.specs.Charts.Weights.{table_size}
use Rattle.laws.specs.Tables.Fits.{IsWeight}
use Rattle.laws.specs.Charts.Padded.{padded_length}
use Rattle.laws.specs.Charts.Layouts.{Accepted, front, valid_read, count_true}
use Rattle.laws.specs.Charts.Passes.{accepted_read, refused_read, read_as_number, read_as_accepted, read_as_refused, read_as_sized}

pub import_number : (s : List ℕ) → (import_of s).refusal ≡ refusal (graph6_checks s)
unfolding import_of
import_number s = read_as_number (graph6_checks s) (graph6_layout s)

pub import_is : (s : List ℕ) → (import_of s).refusal ≡ 0 → import_of s ≡ accepted_read (graph6_layout s)
unfolding import_of
import_is s e = read_as_accepted (graph6_checks s) (graph6_layout s) e

pub import_refused : (s : List ℕ) → ((import_of s).refusal ≡ 0 → ⊥) → import_of s ≡ refused_read (import_of s).refusal
unfolding import_of
import_refused s d = read_as_refused (graph6_checks s) (graph6_layout s) d

-- the arrays of a layout that is imported have their places
pub imported_sized : (s : List ℕ) → Sized (import_of s).layout
unfolding import_of graph6_layout
imported_sized s =
    read_as_sized (graph6_checks s) (graph6_layout s)
    (let es = graph6_edges (graph6_size s) (graph6_data s) in
    record { places = padded_length (upto (graph6_size s)); words = adjacency_length es; table = table_size es (replicate (length es) 1) })

numbered : (s : List ℕ) → Numbered (graph6_checks s)
unfolding graph6_checks graph6_size_checks data_checks padding_checks
numbered s = also (lit< tt) (also (lit< tt) (also (lit< tt) none))

-- ---- an accepted import

-- what the questions ask: a size part, then as many bytes as the pairs take, each of six bits, and no padding bit set
pub record Graph6 (s : List ℕ) : Type 0 where
  pub few : graph6_size s ≤ 64
  pub starts : starts_with_size s (graph6_size s) ≡ true
  pub long : length (graph6_data s) ≡ bytes_for (length (pairs_by_higher (graph6_size s)))
  pub six : every holds_six (graph6_data s) ≡ true
  pub unset : every (eqb 0) (drop (length (pairs_by_higher (graph6_size s))) (unpacked (graph6_data s))) ≡ true

pub all_asked : {s : List ℕ} → Graph6 s → refusal (graph6_checks s) ≡ 0
unfolding graph6_checks graph6_size_checks data_checks padding_checks refusal
all_asked {s} g =
    rw (
      (size_found_lem s (graph6_size s) g.few g.starts).0,
      eq-eqb (length (graph6_data s)) (bytes_for (length (pairs_by_higher (graph6_size s)))) g.long,
      g.six,
      g.unset,
    )

-- every edge weighs 1
abbrev pub unit : ℕ → ℕ → ℕ
unit a b = 1

pub unit_listed : (es : List Edge) → replicate (length es) 1 ≡ map (edge_weight unit) es
unit_listed [] = refl
unit_listed (e ∷ es) = ap (λ (ws : List ℕ). 1 ∷ ws) (unit_listed es)

unit_weighs : (es : List Edge) → All (λ e. IsWeight (edge_weight unit e)) es
unit_weighs [] = none
unit_weighs (e ∷ es) = also {x = e} (record { some = lit< tt; few = omega arith }) (unit_weighs es)

-- the edges that some bytes give, in the order 0, 1, 2 and so on
pub edges_accepted : (n : ℕ) (bytes : List ℕ) → n ≤ 64 → Accepted n (graph6_edges n bytes) unit (upto n)
unfolding graph6_edges
edges_accepted n bytes few =
    record {
      few = few;
      within = chosen_within (unpacked bytes) n;
      long = length_upto n;
      each = T_true (each_once n (upto n)) (permutation_each_once (upto_permutation n));
      weighs = unit_weighs (graph6_edges n bytes);
    }

module _ (s : List ℕ) (e : (import_of s).refusal ≡ 0) where
  pub imported_graph6 : Graph6 s
  unfolding graph6_checks graph6_size_checks data_checks padding_checks
  imported_graph6 = from (all_pass (numbered s) (sym (import_number s) ∙ e))
    where
      from : All (λ c. c.passes ≡ true) (graph6_checks s) → Graph6 s
      from (also size (also bytes (also padding none))) =
          let long = eqb (length (graph6_data s)) (bytes_for (length (pairs_by_higher (graph6_size s)))) in
          let six = every holds_six (graph6_data s) in
          record {
            few = (size_accepted s size).0;
            starts = (size_accepted s size).1;
            long = eqb-true (length (graph6_data s)) (bytes_for (length (pairs_by_higher (graph6_size s)))) (both_left long six bytes);
            six = both_right long six bytes;
            unset = padding;
          }

  accepted : Accepted (graph6_size s) (graph6_edges (graph6_size s) (graph6_data s)) unit (upto (graph6_size s))
  accepted = edges_accepted (graph6_size s) (graph6_data s) imported_graph6.few

  layout_is : (import_of s).layout
      ≡ (let es = graph6_edges (graph6_size s) (graph6_data s) in layout_with (graph6_size s) es (map (edge_weight unit) es) (upto (graph6_size s)))
  unfolding graph6_layout
  layout_is =
      let es = graph6_edges (graph6_size s) (graph6_data s) in
      ap (λ (r : LayoutRead). r.layout) (import_is s e)
      ∙ ap (λ (ws : List ℕ). layout_with (graph6_size s) es ws (upto (graph6_size s))) (unit_listed es)

  -- "and the true count"
  pub imported_valid : T (valid (import_of s).layout) × ((import_of s).layout.count ≡ crossings_of (import_of s).layout)
  imported_valid =
      subst (λ (l : Layout). T (valid l) × (l.count ≡ crossings_of l)) (sym layout_is) (valid_read accepted, count_true accepted)

  -- "gives the order 0, 1, 2 and so on"
  pub imported_order : vertex_order (import_of s).layout ≡ upto (import_of s).layout.n
  unfolding vertex_order
  imported_order = subst (λ (l : Layout). vertex_order l ≡ upto l.n) (sym layout_is) (front accepted)
