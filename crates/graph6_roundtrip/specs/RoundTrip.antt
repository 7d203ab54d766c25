-- Graphs exported and imported, and imported and exported (document 02, Note 4).
use Prim.Native.Nat.{ℕ, ◌≤◌}
use Rattle.std.proofs.Common.{arith, ◌∙◌}
use Rattle.std.specs.Prelude.{◌≡◌, true, get_or, take, replicate, T, eqb}
use Rattle.std.proofs.Math.Path.{sym, ap, ap₂}
use mathlib.Core.List.{List, ◌++◌}
use Rattle.std.proofs.Math.ListN.{length, drop, get_or-eq_default}
use Rattle.std.proofs.Math.Seq.{drop-append_seam}
use Rattle.model.specs.declared.Edge.{Edge}
use Rattle.model.specs.declared.Layout.{Layout}
use Rattle.model.specs.Answers.{LayoutRead}
use Rattle.model.specs.Lists.{upto, every, keep}
use Rattle.model.specs.Crossings.{linked, edges, crossings}
use Rattle.model.specs.Layouts.{table_weight, weight, valid}
use Rattle.model.specs.Charts.{edge_within, layout_with}
use Rattle.model.specs.WrittenCharts.{unit_weighted}
use Rattle.model.specs.Graph6.{bytes_for, packed, unpacked, size_part, pairs_by_higher, pair_bits, graph6_of, starts_with_size, graph6_size, graph6_data}
use Rattle.model.specs.Graph6.{graph6_edges, graph6_layout, import_of, in_rising_order}
use Rattle.laws.specs.Sums.Lists.{All, all_keep}
use Rattle.laws.specs.Sums.Every.{every_all}
use Rattle.laws.specs.Layouts.Sizes.{Sized}
use Rattle.laws.specs.Layouts.Validity.{sound}
use Rattle.laws.specs.Graph6.Packing.{packed_in, packed_in_same, unpacked_length, unpacked_bits}
use Rattle.laws.specs.Graph6.Pairs.{pairs_within, chosen_ext, pair_bits_bits, pair_bits_length}
use Rattle.laws.specs.Graph6.Sizes.{size_starts, starts_with, size_found_lem}
use Rattle.laws.specs.Charts.Ends.{within_mono}
use Rattle.laws.specs.Charts.Words.{adjacency_of}
use Rattle.laws.specs.Charts.Padded.{padded}
use Rattle.laws.specs.Charts.Passes.{accepted_read}
use Rattle.laws.specs.Graph6.Imports.{Graph6, all_asked, import_number, import_is, imported_graph6}
use Rattle.laws.specs.Charts.Reading.{same_words}
use Rattle.laws.specs.Charts.Sequence.{same_member}
use Rattle.laws.specs.Charts.EdgeLists.{edges_words}
use Rattle.graph6_roundtrip.specs.Bits.{Six, all_six, six_all, unset_from, unpadded, unpacked_packed, packed_unpacked}
use Rattle.graph6_roundtrip.specs.Edges.{own_chosen, own_edges, chosen_bits}
use Rattle.graph6_roundtrip.specs.Ones.{ones_again}
use Rattle.graph6_roundtrip.specs.Exports.{bit_bytes, export_parts, bit_bytes_length, bit_bytes_six}

-- ---- exported and imported

-- a size, and as many bytes of six bits as the pairs take, no padding bit set
module _ {n : ℕ} {bytes : List ℕ} (few : n ≤ 64) (long : length bytes ≡ bytes_for (length (pairs_by_higher n))) (six : All Six bytes)
    (unset : every (eqb 0) (drop (length (pairs_by_higher n)) (unpacked bytes)) ≡ true) where
  graph : List ℕ
  graph = size_part n ++ bytes

  size_is : graph6_size graph ≡ n
  unfolding graph
  size_is = (size_found_lem graph n few (size_starts n bytes)).1

  data_is : graph6_data graph ≡ bytes
  unfolding graph6_data graph
  data_is = ap (λ (k : ℕ). drop (length (size_part k)) graph) size_is ∙ drop-append_seam (size_part n) bytes

  is_graph6 : Graph6 graph
  unfolding graph
  is_graph6 =
      record {
        few = rw size_is few;
        starts = ap (starts_with_size graph) size_is ∙ size_starts n bytes;
        long = rw (size_is, data_is) long;
        six = rw data_is (six_all six);
        unset = rw (size_is, data_is) unset;
      }

  parts_imported : import_of (size_part n ++ bytes)
      ≡ (let es = graph6_edges n bytes in record { refusal = 0; layout = layout_with n es (replicate (length es) 1) (upto n) })
  unfolding graph graph6_layout
  parts_imported = import_is graph (import_number graph ∙ all_asked is_graph6) ∙ rw (size_is, data_is)

-- the bits that are packed and unpacked again are those of the graph, and 0 behind them
module _ (n : ℕ) (adj : List ℕ) where
  bits_again : (k : ℕ) → get_or (unpacked (bit_bytes n adj)) k 0 ≡ get_or (pair_bits n adj) k 0
  unfolding bit_bytes bytes_for
  bits_again = unpacked_packed (bytes_for (length (pairs_by_higher n))) (pair_bits_bits n adj) (omega (arith, pair_bits_length n adj))

  padding_unset : every (eqb 0) (drop (length (pairs_by_higher n)) (unpacked (bit_bytes n adj))) ≡ true
  padding_unset =
      unset_from (length (pairs_by_higher n)) (unpacked (bit_bytes n adj))
      (λ i h. bits_again i ∙ get_or-eq_default (pair_bits n adj) 0 (omega (arith, pair_bits_length n adj)))

  -- they choose the pairs that are joined
  edges_again : graph6_edges n (bit_bytes n adj) ≡ keep (λ e. linked adj e.low e.high) (pairs_by_higher n)
  unfolding graph6_edges pair_bits
  edges_again =
      chosen_ext (unpacked (bit_bytes n adj)) (pair_bits n adj) (pairs_by_higher n) bits_again
      ∙ own_chosen (λ e. linked adj e.low e.high) (pairs_by_higher n)

-- the pairs that are joined, and the layout in which each weighs 1
abbrev joined : Layout → List Edge
joined l = keep (λ e. linked l.adjacency e.low e.high) (pairs_by_higher l.n)

abbrev with_ones : Layout → LayoutRead
with_ones l = accepted_read (layout_with l.n (joined l) (replicate (length (joined l)) 1) (upto l.n))

-- the export of a valid layout, imported, whatever its edges weigh
module _ (l : Layout) (z : Sized l) (t : T (valid l)) where
  bytes_imported : import_of (graph6_of l) ≡ with_ones l
  bytes_imported =
      let n = l.n in
      let adj = l.adjacency in
      ap import_of (export_parts l)
      ∙ parts_imported (sound l t).small (bit_bytes_length n adj) (bit_bytes_six n adj) (padding_unset n adj)
      ∙ ap (λ (es : List Edge). accepted_read (layout_with n es (replicate (length es) 1) (upto n))) (edges_again n adj)

  words_again : adjacency_of (joined l) ≡ l.adjacency
  words_again =
      let n = l.n in
      let adj = l.adjacency in
      let whole = sound l t in
      same_words (joined l) (edges n adj) (same_member (own_edges n adj))
      ∙ edges_words n adj whole.words whole.bits whole.unused whole.small z.words

  joined_within : every (edge_within 64) (joined l) ≡ true
  joined_within =
      within_mono l.n 64 (sound l t).small (joined l)
      (every_all (all_keep (λ e. linked l.adjacency e.low e.high) (pairs_within l.n)))

  -- "Export then import keeps n and every link": where each edge weighs 1, all of the layout but its order and its count
  pub exported_imported : T (unit_weighted l) → import_of (graph6_of l) ≡ record { refusal = 0; layout = in_rising_order l }
  unfolding in_rising_order weight
  exported_imported w =
      bytes_imported ∙ ap₂ reread words_again (ones_again l t z w (joined l) joined_within (same_member (own_edges l.n l.adjacency)))
    where
      reread : List ℕ → List ℕ → LayoutRead
      reread adj ws =
          accepted_read
          (record { n = l.n; order = padded (upto l.n); adjacency = adj; weights = ws; count = crossings l.n (upto l.n) (table_weight ws) })

  -- in plain terms
  pub links_kept : ((import_of (graph6_of l)).layout.n ≡ l.n)
      × ((u v : ℕ) → linked (import_of (graph6_of l)).layout.adjacency u v ≡ linked l.adjacency u v)
  links_kept = (
    ap (λ (r : LayoutRead). r.layout.n) bytes_imported,
    λ u v.
        (ap (λ (r : LayoutRead). linked r.layout.adjacency u v) bytes_imported ∙ ap (λ (adj : List ℕ). linked adj u v) words_again),
  )

-- ---- imported and exported

module _ {s : List ℕ} (g : Graph6 s) where
  -- the bits of the graph that is imported, without the padding
  bits_are : pair_bits (graph6_size s) (adjacency_of (graph6_edges (graph6_size s) (graph6_data s)))
      ≡ take (length (pairs_by_higher (graph6_size s))) (unpacked (graph6_data s))
  unfolding graph6_edges bytes_for
  bits_are = chosen_bits g.few (unpacked_bits (graph6_data s)) (omega (arith, unpacked_length (graph6_data s), g.long))

  bytes_again : bit_bytes (graph6_size s) (adjacency_of (graph6_edges (graph6_size s) (graph6_data s))) ≡ graph6_data s
  unfolding bit_bytes
  bytes_again =
      let pairs = length (pairs_by_higher (graph6_size s)) in
      let bits = unpacked (graph6_data s) in
      ap (packed_in (bytes_for pairs)) bits_are
      ∙ packed_in_same (bytes_for pairs) (take pairs bits) bits (unpadded pairs bits g.unset)
      ∙ ap (λ (m : ℕ). packed_in m bits) (sym g.long)
      ∙ packed_unpacked (all_six (graph6_data s) g.six)

  layout_exported : graph6_of (graph6_layout s) ≡ s
  unfolding graph6_layout graph6_data
  layout_exported =
      export_parts (graph6_layout s)
      ∙ ap (λ (x : List ℕ). size_part (graph6_size s) ++ x) bytes_again
      ∙ sym (starts_with s (graph6_size s) g.starts)

-- "an accepted import, then export, keeps every byte"
pub imported_exported : (s : List ℕ) → (import_of s).refusal ≡ 0 → graph6_of (import_of s).layout ≡ s
imported_exported s e = ap (λ (r : LayoutRead). graph6_of r.layout) (import_is s e) ∙ layout_exported (imported_graph6 s e)

-- ---- what follows

-- "Export drops the order": layouts of the same vertices and edges have the same export, whatever their orders and counts
pub order_dropped : (l m : Layout) → l.n ≡ m.n → l.adjacency ≡ m.adjacency → graph6_of l ≡ graph6_of m
unfolding graph6_of
order_dropped l m sizes words = ap₂ (λ (n : ℕ) (adj : List ℕ). size_part n ++ packed (pair_bits n adj)) sizes words

-- and the export tells the vertices and the edges
pub exports_tell : (l m : Layout) → Sized l → T (valid l) → Sized m → T (valid m) → graph6_of l ≡ graph6_of m → (l.n ≡ m.n) × (l.adjacency ≡ m.adjacency)
exports_tell l m s t r u e = (
  ap (λ (x : LayoutRead). x.layout.n) same,
  sym (words_again l s t) ∙ ap (λ (x : LayoutRead). x.layout.adjacency) same ∙ words_again m r u,
)
  where
    same : with_ones l ≡ with_ones m
    same = sym (bytes_imported l s t) ∙ ap import_of e ∙ bytes_imported m r u
