-- Charts written and read back (document 02, Note 1).
use Rattle.std.specs.Prelude.{ℕ, ◌≤◌, ◌<◌, ◌≡◌, refl, Bool, true, false, ◌&&◌, get_or, take, replicate, T, eqb}
use Rattle.std.proofs.Math.Decide.{dec_lt}
use Rattle.std.proofs.Common.{arith, sym, ap, ap₂, ◌∙◌, subst, length-take, ext_get_or, get_or-take, eqb-true, ltb-true}
use mathlib.Core.List.{List, [], ◌∷◌, map, flat_map, append-nil}
use Rattle.std.proofs.Math.ListN.{length, get_or-eq_default}
use Rattle.std.proofs.lemmas.List.{length-map}
use Rattle.model.specs.declared.Edge.{Edge}
use Rattle.model.specs.declared.Layout.{Layout}
use Rattle.model.specs.Answers.{LayoutRead}
use Rattle.model.specs.Lists.{every, any}
use Rattle.model.specs.Crossings.{linked, edges, edge_weight, crossings}
use Rattle.model.specs.Layouts.{vertex_order, table_weight, weight, crossings_of, is_weight, valid}
use Rattle.model.specs.Checks.{refusal}
use Rattle.model.specs.Charts.{Field, body_of, chart_size, chart_edges, chart_order, has_weights, chart_weights, same_edge, chart_checks, read_of}
use Rattle.model.specs.WrittenCharts.{weights_of, unit_weighted, weight_field, chart_of, with_true_count}
use Rattle.laws.specs.Sums.Indicators.{T_true, both_left, both_right}
use Rattle.laws.specs.Sums.Lists.{All, none, also}
use Rattle.laws.specs.Crossings.Bound.{edges_few}
use Rattle.laws.specs.Buffers.Charts.{chart_with, chart_edges_lem}
pub use Rattle.laws.specs.Buffers.Charts.{chart_size_lem}
use Rattle.laws.specs.Layouts.Sizes.{Sized}
use Rattle.laws.specs.Layouts.Validity.{sound}
use Rattle.laws.specs.Tables.Fits.{weight_is}
use Rattle.laws.specs.Crossings.Agreeing.{EndsBelow, edges_below, edges_linked}
use Rattle.laws.specs.Charts.EdgeWeights.{table_again}
use Rattle.laws.specs.Charts.Padded.{padded, padded_length, padded_at}
use Rattle.laws.specs.Charts.Reading.{chart_weight, same_charts}
use Rattle.laws.specs.Charts.Sequence.{Rewritten, as_is, rewriting_free}
use Rattle.laws.specs.Crossings.Edges.{edges_within}
use Rattle.laws.specs.Charts.EdgeLists.{edges_once, edges_words}
use Rattle.chart_roundtrip.specs.Fields.{field_of, all_bytes}
use Rattle.chart_roundtrip.specs.Listings.{Closes, no_field, in_field, Proper, chart_bytes, chart_short, chart_read}

-- a list that is 0 from place n on is its first n entries, filled up with 0
padded_again : (n : ℕ) (o : List ℕ) → length o ≡ 64 → ((i : ℕ) → n ≤ i → i < 64 → get_or o i 0 ≡ 0) → padded (take n o) ≡ o
padded_again n o long zeros =
    ext_get_or 0 (padded (take n o)) o (padded_length (take n o) ∙ sym long)
    (λ i l. (let below : i < 64 = omega (arith, padded_length (take n o)) in padded_at (take n o) i below ∙ at_place i below))
  where
    at_place : (i : ℕ) → i < 64 → get_or (take n o) i 0 ≡ get_or o i 0
    at_place i below =
        elim (dec_lt i n) [
          | yes l ↦ get_or-take n o i 0 l
          | no l ↦ get_or-eq_default (take n o) 0 (omega (arith, length-take n o)) ∙ sym (zeros i (omega arith) below)
        ]

-- ---- what stands behind the order

ones_replicated : (ws : List ℕ) → every (eqb 1) ws ≡ true → ws ≡ replicate (length ws) 1
unfolding every
ones_replicated [] t = refl
ones_replicated (w ∷ ws) t =
    ap₂ (λ (x : ℕ) (xs : List ℕ). x ∷ xs) (sym (eqb-true 1 w (both_left (eqb 1 w) (every (eqb 1) ws) t)))
    (ones_replicated ws (both_right (eqb 1 w) (every (eqb 1) ws) t))

weights_many : (l : Layout) → length (weights_of l) ≡ length (edges l.n l.adjacency)
unfolding weights_of
weights_many l = length-map (edges l.n l.adjacency) (edge_weight (weight l))

-- the fields that a layout's weights take: none, or one
record Last (l : Layout) : Type 0 where
  fields : List Field
  bytes : weight_field l ≡ all_bytes fields
  closes : Closes (edges l.n l.adjacency) (weights_of l) fields

last_field : (l : Layout) → Last l
unfolding weight_field unit_weighted all_bytes flat_map
last_field l = by_test (unit_weighted l) refl
  where
    by_test : (b : Bool) → unit_weighted l ≡ b → Last l
    by_test true e =
        record {
          fields = [];
          bytes = rw e;
          closes =
              subst (λ (ws : List ℕ). Closes (edges l.n l.adjacency) ws [])
              (sym (ones_replicated (weights_of l) e ∙ ap (λ (k : ℕ). replicate k 1) (weights_many l))) no_field;
        }
    by_test false e = record { fields = field_of 0x57 (weights_of l) ∷ []; bytes = rw e (sym (append-nil _)); closes = in_field }

-- each is a weight
weights_weigh : (l : Layout) → T (valid l) → every is_weight (weights_of l) ≡ true
unfolding weights_of weight every
weights_weigh l t = from (edges_below l.n l.adjacency) (edges_linked l.n l.adjacency)
  where
    there : (e : Edge) → EndsBelow l.n e → linked l.adjacency e.low e.high ≡ true → is_weight (table_weight l.weights e.low e.high) ≡ true
    there e b k =
        let f = (sound l t).fits in
        T_true (is_weight (table_weight l.weights e.low e.high))
        (weight_is
        (record {
          some = ltb-true 0 (table_weight l.weights e.low e.high) (f.edges e.low e.high b.0 b.1 ∙ k);
          few = f.light e.low e.high b.0 b.1;
        }))

    from : {es : List Edge} → All (EndsBelow l.n) es → All (λ e. linked l.adjacency e.low e.high ≡ true) es
        → every is_weight (map (edge_weight (table_weight l.weights)) es) ≡ true
    from none none = refl
    from (also {x = e} b bs) (also k ks) = ap₂ (λ (x y : Bool). x && y) (there e b k) (from bs ks)

-- ---- the length, of which chart_size_lem says the number, and that each entry is a byte

module _ (l : Layout) (t : T (valid l)) where
  proper : Proper l.n (edges l.n l.adjacency) (weights_of l) (vertex_order l)
  proper =
      record {
        few = (sound l t).small;
        few_edges = edges_few l.n l.adjacency (sound l t).small;
        within = edges_within l.n l.adjacency;
        once = edges_once l.n l.adjacency;
        permutation = (sound l t).permutation;
        many = weights_many l;
        weigh = weights_weigh l t;
      }

  chart_is : chart_of l ≡ chart_with l.n (edges l.n l.adjacency) (vertex_order l) (all_bytes (last_field l).fields)
  chart_is = chart_edges_lem l ∙ ap (chart_with l.n (edges l.n l.adjacency) (vertex_order l)) (last_field l).bytes

  -- the longest has 6,125 bytes, and 4,106 where each edge weighs 1
  pub written_length : length (chart_of l) ≤ 6125
  written_length =
      rw chart_is (chart_short l.n (edges l.n l.adjacency) (weights_of l) (vertex_order l) (last_field l).fields proper (last_field l).closes)

  pub unit_length : T (unit_weighted l) → length (chart_of l) ≤ 4106
  unfolding weight_field
  unit_length w =
      let none_written : length (weight_field l) ≡ 0 = rw (T_true (unit_weighted l) w) in
      omega (arith, chart_size_lem l t, none_written, proper.few, proper.few_edges)

  -- each number is a byte
  pub written_bytes_lem : All (λ b. b < 256) (chart_of l)
  written_bytes_lem =
      rw chart_is (chart_bytes l.n (edges l.n l.adjacency) (weights_of l) (vertex_order l) (last_field l).fields proper (last_field l).closes)

-- ---- read back

-- "Reading a written chart gives the ring with its true count.", weights included
pub written_read : (l : Layout) → Sized l → T (valid l) → read_of (chart_of l) ≡ record { refusal = 0; layout = with_true_count l }
unfolding with_true_count crossings_of vertex_order weight
written_read l s t =
    ap read_of (chart_is l t)
    ∙ chart_read l.n (edges l.n l.adjacency) (weights_of l) (vertex_order l) (last_field l).fields (proper l t) (last_field l).closes
    ∙ read_alike
    (padded_again l.n l.order s.places (sound l t).places)
    (edges_words l.n l.adjacency (sound l t).words (sound l t).bits (sound l t).unused (sound l t).small s.words)
    (table_again l t s)
  where
    reread : List ℕ → List ℕ → List ℕ → LayoutRead
    reread o adj ws =
        record {
          refusal = 0;
          layout = record { n = l.n; order = o; adjacency = adj; weights = ws; count = crossings l.n (vertex_order l) (table_weight ws) };
        }

    read_alike : {o p adj bdj ws vs : List ℕ} → o ≡ p → adj ≡ bdj → ws ≡ vs → reread o adj ws ≡ reread p bdj vs
    read_alike e f g = rw (e, f, g)

-- the count is not written
pub count_unwritten : (l : Layout) → chart_of (with_true_count l) ≡ chart_of l
unfolding chart_of with_true_count vertex_order weight_field unit_weighted weights_of weight
count_unwritten l = refl

-- ---- "Two charts of the same ring, however their links were listed, give the same written bytes."

-- two layouts that differ in the carried count alone, and two accepted charts that give the same layout
pub same_written : (l m : Layout) → with_true_count l ≡ with_true_count m → chart_of l ≡ chart_of m
same_written l m e = sym (count_unwritten l) ∙ ap chart_of e ∙ count_unwritten m

pub charts_written : (s t : List ℕ) → (read_of s).refusal ≡ 0 → (read_of t).refusal ≡ 0
    → (read_of s).layout ≡ (read_of t).layout → chart_of (read_of s).layout ≡ chart_of (read_of t).layout
charts_written s t p q e = ap chart_of e

-- two accepted charts of the same vertices, order, edges and weights
pub listed_anyhow : (s t : List ℕ) → (read_of s).refusal ≡ 0 → (read_of t).refusal ≡ 0 → chart_size s ≡ chart_size t → chart_order s ≡ chart_order t
    → ((e : Edge) → any (same_edge e) (chart_edges s) ≡ any (same_edge e) (chart_edges t))
    → ((e : Edge) → edge_weight (chart_weight s) e ≡ edge_weight (chart_weight t) e) → chart_of (read_of s).layout ≡ chart_of (read_of t).layout
listed_anyhow s t p q sizes orders links weights = ap (λ (r : LayoutRead). chart_of r.layout) (same_charts s t p q sizes orders links weights)

-- links in another sequence, each with its weight, ends either way round
pub rewritten_written : (s t : List ℕ) → refusal (take 3 (chart_checks s)) ≡ 0 → refusal (take 3 (chart_checks t)) ≡ 0
    → body_of s 0 ≡ body_of t 0 → Rewritten (body_of s 1) (chart_weights s) (body_of t 1) (chart_weights t) → body_of s 2 ≡ body_of t 2
    → chart_of (read_of s).layout ≡ chart_of (read_of t).layout
rewritten_written s t p q sizes links orders = ap (λ (r : LayoutRead). chart_of r.layout) (rewriting_free s t p q sizes links orders)

-- a chart without field 57, and the same with ones there
pub ones_alike : (s t : List ℕ) → refusal (take 3 (chart_checks s)) ≡ 0 → refusal (take 3 (chart_checks t)) ≡ 0 → has_weights s ≡ false → has_weights t ≡ true
    → body_of s 0 ≡ body_of t 0 → body_of s 1 ≡ body_of t 1 → body_of s 2 ≡ body_of t 2 → body_of t 3 ≡ replicate (length (chart_edges t)) 1 → read_of s ≡ read_of t
unfolding chart_weights chart_edges
ones_alike s t p q without with' sizes links orders ones =
    rewriting_free s t p q sizes
    (subst (λ (x : List ℕ). Rewritten (body_of s 1) (chart_weights s) x (chart_weights t)) links
    (subst (Rewritten (body_of s 1) (chart_weights s) (body_of s 1)) same_weights as_is))
    orders
  where
    same_weights : chart_weights s ≡ chart_weights t
    same_weights = rw (without, with', ones, links)
