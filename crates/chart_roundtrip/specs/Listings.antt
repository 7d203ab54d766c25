-- A chart written from n, a list of edges in any sequence with their weights, and an order: it is of bytes, and what reading it gives.
use Rattle.std.specs.Prelude.{ℕ, ◌+◌, ◌%◌, ◌≤◌, ◌<◌, ◌≡◌, ◌||◌, get_or, replicate, leb}
use Rattle.std.proofs.Math.Nat.{mul-mod_right}
use Rattle.std.proofs.Common.{le_of_lt, sym, ◌∙◌, subst}
use native.Mathlib.Omega.{arith}
use Rattle.std.proofs.Math.Path.{refl, ap}
use Rattle.std.proofs.Math.Bool.{true, cond}
use mathlib.Core.List.{List, [], ◌∷◌, map, flat_map, append_assoc}
use Rattle.std.proofs.Math.ListN.{length, length-append}
use Rattle.std.proofs.Math.Dec.{T}
use borrow.Author.Tests.{le-leb, eq-eqb}
use Rattle.model.specs.declared.Edge.{Edge}
use Rattle.model.specs.declared.Layout.{Layout}
use Rattle.model.specs.Lists.{every, no_repeats}
use Rattle.model.specs.Layouts.{each_once, is_weight}
use Rattle.model.specs.Checks.{refusal}
use Rattle.model.specs.Charts.{Field, Fields, fields_of, body_of, chart_size, chart_edges, chart_order, edges_in, same_edge, edge_within, layout_with}
use Rattle.model.specs.Charts.{tags_of, has_weights, chart_weights, same_list, chart_tags, weighted_tags}
use Rattle.model.specs.Charts.{chart_checks, size_checks, end_checks, repeat_checks, place_checks, weight_checks, chart_layout, read_of}
use Rattle.model.specs.WrittenCharts.{field_bytes, edge_bytes}
use Rattle.laws.specs.Sums.Indicators.{T_true}
use Rattle.laws.specs.Tables.Fits.{is_weight_lem}
use Rattle.laws.specs.Sums.Lists.{All, none, also, all_append, all_mono, all_places}
use Rattle.laws.specs.Sums.Every.{every_all, all_every}
use Rattle.laws.specs.Orders.Permutations.{Permutation, at_lt}
use Rattle.laws.specs.Layouts.Validity.{permutation_each_once}
use Rattle.laws.specs.Crossings.Bound.{most_edges}
use Rattle.laws.specs.Buffers.EdgeBytes.{edge_bytes_length}
use Rattle.laws.specs.Buffers.Charts.{chart_with, chart_length}
use Rattle.laws.specs.Charts.Reading.{read_number, read_is}
use Rattle.chart_roundtrip.specs.Fields.{field_of, field_bytes_lem, all_bytes, fields_read}
use Rattle.laws.specs.Crossings.Edges.{edge_rises, edge_below}
use Rattle.laws.specs.Charts.EdgeLists.{edge_bytes_all, edge_bytes_read}

-- what stands behind the order: nothing where each edge weighs 1, or the field with the weights
pub data Closes (es : List Edge) : List ℕ → List Field → Type 0 where
  no_field : Closes es (replicate (length es) 1) []
  in_field : {ws : List ℕ} → Closes es ws (field_of 0x57 ws ∷ [])

-- the fields
abbrev fields_with : ℕ → List Edge → List ℕ → List Field → List Field
fields_with n es o last = field_of 0x44 (n ∷ []) ∷ field_of 0x4C (edge_bytes es) ∷ field_of 0x52 o ∷ last

fields_written : (n : ℕ) (es : List Edge) (o : List ℕ) (last : List Field) → chart_with n es o (all_bytes last) ≡ all_bytes (fields_with n es o last)
unfolding chart_with all_bytes flat_map
fields_written n es o last = simp append_assoc

-- what the questions ask of them
pub record Proper (n : ℕ) (es : List Edge) (ws o : List ℕ) : Type 0 where
  pub few : n ≤ 64
  pub few_edges : length es ≤ most_edges
  pub within : All (λ e. edge_within n e ≡ true) es
  pub once : no_repeats same_edge es ≡ true
  pub permutation : Permutation n o
  pub many : length ws ≡ length es
  pub weigh : every is_weight ws ≡ true

module _ {es : List Edge} {ws : List ℕ} {last : List Field} (c : Closes es ws last) where
  -- question 3
  tags_pass : (n : ℕ) (o : List ℕ)
      → (same_list (map (λ f. f.tag) (fields_with n es o last)) chart_tags || same_list (map (λ f. f.tag) (fields_with n es o last)) weighted_tags) ≡ true
  unfolding same_list
  tags_pass n o = by_case c
    where
      by_case : {vs : List ℕ} {fs : List Field} → Closes es vs fs
          → (same_list (map (λ f. f.tag) (fields_with n es o fs)) chart_tags || same_list (map (λ f. f.tag) (fields_with n es o fs)) weighted_tags) ≡ true
      by_case no_field = refl
      by_case in_field = refl

  -- how long it is, and that it is of bytes
  last_length : length (all_bytes last) ≤ 3 + length ws
  unfolding all_bytes flat_map field_bytes
  last_length = by_case c
    where
      by_case : {vs : List ℕ} {fs : List Field} → Closes es vs fs → length (all_bytes fs) ≤ 3 + length vs
      by_case no_field = omega arith
      by_case (in_field {ws = xs}) = omega (arith, length-append xs [])

  last_bytes : length ws < 65536 → every is_weight ws ≡ true → All (λ b. b < 256) (all_bytes last)
  unfolding all_bytes flat_map
  last_bytes = by_case c
    where
      small : {vs : List ℕ} → every is_weight vs ≡ true → All (λ b. b < 256) vs
      small {vs} t = all_mono (all_every is_weight vs t) (λ w p. omega (arith, (is_weight_lem {w = w} (subst T (sym p) tt)).few))

      by_case : {vs : List ℕ} {fs : List Field} → Closes es vs fs → length vs < 65536 → every is_weight vs ≡ true → All (λ b. b < 256) (all_bytes fs)
      by_case no_field h t = none
      by_case in_field h t = all_append (field_bytes_lem 0x57 (omega arith) h (small t)) none

module _ (n : ℕ) (es : List Edge) (ws o : List ℕ) (last : List Field) (p : Proper n es ws o) (c : Closes es ws last) where
  chart : List ℕ
  chart = chart_with n es o (all_bytes last)

  -- each number is a byte
  pub chart_bytes : All (λ b. b < 256) (chart_with n es o (all_bytes last))
  unfolding chart_with
  chart_bytes =
      all_append
      (all_append
      (all_append (field_bytes_lem 0x44 (omega arith) (omega arith) (also (omega (arith, p.few)) none))
      (field_bytes_lem 0x4C (omega arith) (omega (arith, edge_bytes_length es, p.few_edges)) (edge_bytes_all (all_mono p.within ends))))
      (field_bytes_lem 0x52 (omega arith) (omega (arith, p.permutation.size, p.few)) (all_places o places)))
      (last_bytes c (omega (arith, p.many, p.few_edges)) p.weigh)
    where
      ends : (e : Edge) → edge_within n e ≡ true → (e.low < 256) × (e.high < 256)
      ends e h = (omega (arith, p.few, edge_rises n e h, edge_below n e h), omega (arith, p.few, edge_below n e h))

      places : (i : ℕ) → i < length o → get_or o i 0 < 256
      places i l = omega (arith, p.few, at_lt p.permutation i (rw p.permutation.size at l))

  -- the longest has 6,125 bytes
  pub chart_short : length (chart_with n es o (all_bytes last)) ≤ 6125
  chart_short =
      omega (arith, chart_length n es o (all_bytes last), last_length c, p.many, p.few_edges, p.few, p.permutation.size)

  -- ---- the questions

  fields : fields_of chart ≡ record { complete = true; fields = fields_with n es o last }
  unfolding chart
  fields = ap fields_of (fields_written n es o last) ∙ fields_read (fields_with n es o last)

  body : (i : ℕ) → body_of chart i ≡ (get_or (fields_with n es o last) i (field_of 0 [])).body
  unfolding body_of
  body i = ap (λ (fs : Fields). (get_or fs.fields i (field_of 0 [])).body) fields

  even : length (edge_bytes es) % 2 ≡ 0
  even = ap (λ (k : ℕ). k % 2) (edge_bytes_length es) ∙ mul-mod_right 2 (length es)

  listed : edges_in (edge_bytes es) ≡ es
  listed = edge_bytes_read (all_mono p.within (λ e h. le_of_lt (edge_rises n e h)))

  tags : (same_list (tags_of chart) chart_tags || same_list (tags_of chart) weighted_tags) ≡ true
  tags = rw fields (tags_pass c n o)

  -- the weights are read as they were written
  weights : chart_weights chart ≡ ws
  unfolding chart_weights has_weights chart_edges
  weights = rw (fields, body 1, body 3, listed) (by_case c)
    where
      by_case : {vs : List ℕ} {fs : List Field} → Closes es vs fs
          → cond (leb 4 (length (fields_with n es o fs))) (get_or (fields_with n es o fs) 3 (field_of 0 [])).body (replicate (length es) 1) ≡ vs
      by_case no_field = refl
      by_case in_field = refl

  short : length chart ≤ 6125
  unfolding chart
  short = chart_short

  -- all pass
  accepted : refusal (chart_checks chart) ≡ 0
  unfolding refusal chart_checks size_checks end_checks repeat_checks place_checks weight_checks chart_size chart_order
  accepted =
      rw (
        le-leb (length chart) 8192 (omega (arith, short)),
        ap (λ (fs : Fields). fs.complete) fields,
        tags,
        body 0,
        body 1,
        body 2,
        weights,
        le-leb n 64 p.few,
        eq-eqb (length (edge_bytes es) % 2) 0 even,
        listed,
        every_all p.within,
        p.once,
        eq-eqb (length o) n p.permutation.size,
        T_true (each_once n o) (permutation_each_once p.permutation),
        eq-eqb (length ws) (length es) p.many,
        p.weigh,
      )

  -- ---- so the layout has the vertices, the order, the edges and the weights that were written, and their crossings

  layout_read : chart_layout chart ≡ layout_with n es ws o
  unfolding chart_layout chart_size chart_edges chart_order
  layout_read = rw (weights, body 0, body 1, body 2, listed)

  pub chart_read : read_of (chart_with n es o (all_bytes last)) ≡ record { refusal = 0; layout = layout_with n es ws o }
  unfolding chart
  chart_read = read_is chart (read_number chart ∙ accepted) ∙ ap (λ (l : Layout). record { refusal = 0; layout = l }) layout_read
