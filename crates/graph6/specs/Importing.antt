-- Importing a graph in graph6: the passes together.
use Rattle.std.specs.Prelude.{Result, Ok, Err, ℕ, ◌-◌, ◌≤◌, min, ◌≡◌, length, get_or, take, drop, replicate}
use Rattle.std.proofs.Math.Nat.{min-eq_left}
use Rattle.std.proofs.Math.Path.{refl, ap}
use Rattle.std.proofs.Common.{sym, ◌∙◌, lit<}
use mathlib.Core.List.{List, [], ◌∷◌, ◌++◌, map}
use Rattle.model.specs.declared.Edge.{Edge}
use Rattle.model.specs.declared.Layout.{Layout}
use Rattle.model.specs.declared.refusal.Refusal.{Refusal}
use Rattle.model.specs.Answers.{LayoutRead, told_by}
use Rattle.model.specs.Lists.{upto}
use Rattle.model.specs.Crossings.{edge_weight}
use Rattle.model.specs.Checks.{Check, refusal, by_refusal, checked}
use Rattle.model.specs.Charts.{accept, refuse, asked, size_found, answer, table_in, layout_with, as_read}
use Rattle.model.specs.Graph6.{size_part, graph6_size, graph6_data, graph6_size_checks, data_checks, padding_checks, graph6_checks, graph6_edges, graph6_layout}
use Rattle.model.specs.Graph6.{import_of, graph6_size_answer}
use Rattle.laws.specs.Sums.Lists.{none, also, rest_whole}
use Rattle.laws.specs.Layouts.Refusals.{Numbered, all_pass}
use Rattle.laws.specs.Graph6.Sizes.{starts_long, size_accepted}
use Rattle.laws.specs.Charts.Words.{adjacency_of}
use Rattle.laws.specs.Charts.Padded.{padded}
use Rattle.laws.specs.Charts.Layouts.{Accepted, count_read}
use Rattle.laws.specs.Charts.Ends.{within_mono}
use Rattle.laws.specs.Graph6.Imports.{unit, unit_listed, edges_accepted}
use Rattle.laws.specs.Charts.Passes.{refused_read, accepted_read, counted_layout, answer_accepted, pass_accepted, pass_refused, asked_on, asked_back}
use Rattle.laws.specs.Charts.Passes.{last_passes}
use Rattle.weights.specs.Units.{unit_table, units_listed}

-- what is imported once the number of vertices is known
unfoldable pub import_bits : ℕ → List ℕ → LayoutRead
import_bits n bytes =
    let es = graph6_edges n bytes in
    checked (data_checks n bytes ++ padding_checks n bytes) (accepted_read (layout_with n es (replicate (length es) 1) (upto n))) refused_read

bits_numbered : (n : ℕ) (bytes : List ℕ) → Numbered (data_checks n bytes ++ padding_checks n bytes)
unfolding data_checks padding_checks
bits_numbered n bytes = also (lit< tt) (also (lit< tt) none)

module _ {n : ℕ} (few : n ≤ 64) (bytes : List ℕ) where
  -- the code takes n as at most 64
  same_checks : answer (data_checks (min n 64) bytes ++ padding_checks (min n 64) bytes) [] ≡ answer (data_checks n bytes ++ padding_checks n bytes) []
  same_checks = ap (λ (k : ℕ). answer (data_checks k bytes ++ padding_checks k bytes) []) (min-eq_left few)

  module _ {r : Result (Unit {0}) Refusal} (said : asked r ≡ answer (data_checks (min n 64) bytes ++ padding_checks (min n 64) bytes) []) where
    pub bits_refused : {e : Refusal} → r ≡ Err e → as_read (Err e) ≡ import_bits n bytes
    unfolding import_bits data_checks padding_checks as_read told_by refused_read
    bits_refused told = asked_back (bits_numbered n bytes) [] _ told (said ∙ same_checks)

    pub bits_accepted : {x : Unit {0}} → r ≡ Ok x → {order adj ws : List ℕ} → order ≡ padded (upto n) → adj ≡ adjacency_of (graph6_edges (min n 64) bytes)
        → ws ≡ unit_table adj → {l : Layout} → l ≡ counted_layout n order adj ws → as_read (Ok l) ≡ import_bits n bytes
    unfolding import_bits data_checks padding_checks checked by_refusal refusal as_read told_by
    bits_accepted told p q w c =
        let words : _ ≡ adjacency_of es = q ∙ ap (λ (k : ℕ). adjacency_of (graph6_edges k bytes)) (min-eq_left few) in
        let table = w ∙ ap unit_table words ∙ units_listed es (within_mono n 64 few es accepted.within) in
        rw (c, p, words, table)
        (ap counted_as (count_read accepted)
        ∙ ap (λ (ones : List ℕ). accepted_read (layout_with n es ones (upto n))) (sym (unit_listed es))
        ∙ asked_on (bits_numbered n bytes) [] (accepted_read (layout_with n es (replicate (length es) 1) (upto n))) told (said ∙ same_checks))
      where
        es : List Edge
        es = graph6_edges n bytes

        accepted : Accepted n es unit (upto n)
        accepted = edges_accepted n bytes few

        counted_as : ℕ → LayoutRead
        counted_as k =
            accepted_read (record { n = n; order = padded (upto n); adjacency = adjacency_of es; weights = table_in es (map (edge_weight unit) es); count = k })

-- ---- question 20

module _ (s : List ℕ) where
  size_numbered : Numbered (graph6_size_checks s)
  unfolding graph6_size_checks
  size_numbered = also (lit< tt) none

  value : List ℕ
  value = graph6_size s ∷ []

  rest : List Check
  rest = data_checks (graph6_size s) (graph6_data s) ++ padding_checks (graph6_size s) (graph6_data s)

  pub size_refused : {r : Result ℕ Refusal} {e : Refusal} → r ≡ Err e → size_found r ≡ graph6_size_answer s → as_read (Err e) ≡ import_of s
  unfolding as_read told_by import_of refused_read graph6_checks graph6_size_answer size_found refuse value rest graph6_size_checks data_checks
  size_refused told said = pass_refused size_numbered value rest (accepted_read (graph6_layout s)) (ap size_found (sym told) ∙ said) refl

-- it found n
pub record SizeRead (s : List ℕ) (n : ℕ) : Type 0 where
  pub small : n ≤ 64
  pub inside : length (size_part n) ≤ length s
  pub left : import_bits n (drop (length (size_part n)) s) ≡ import_of s

pub size_read : {s : List ℕ} {r : Result ℕ Refusal} {n : ℕ} → r ≡ Ok n → size_found r ≡ graph6_size_answer s → SizeRead s n
unfolding import_bits import_of refused_read graph6_checks graph6_size_answer graph6_size_checks graph6_layout graph6_data data_checks size_found accept value rest
size_read {s} {r} {n} told said =
    let size_said : size_found (Ok n) ≡ graph6_size_answer s = ap size_found (sym told) ∙ said in
    let passed = answer_accepted (graph6_size_checks s) (value s) size_said refl in
    let is : n ≡ graph6_size s = ap (λ (x : List ℕ). get_or x 0 0) passed.1 in
    let found = size_accepted s (last_passes (all_pass (size_numbered s) passed.0)) in
    record {
      small = rw is found.0;
      inside = rw is (starts_long s (graph6_size s) found.1);
      left = rw is (pass_accepted (size_numbered s) (value s) (rest s) (accepted_read (graph6_layout s)) size_said refl);
    }

-- the bytes from the place behind the size part on
pub behind_size : {s : List ℕ} {n k : ℕ} → SizeRead s n → k ≡ length (size_part n) → import_bits n (take (length s - k) (drop k s)) ≡ import_of s
behind_size {s} {n} {k} r e = ap (import_bits n) (rest_whole s k ∙ ap (λ (i : ℕ). drop i s) e) ∙ r.left
