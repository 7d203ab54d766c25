-- The ring before its links had weights, as document 01 and Notes 1 to 7 of document 02 define it: for the claim that "a ring whose weights are and stay 1
-- behaves as before but for the wider numbers and modulus" (Note 8), and for nothing else; no code runs these. What does not speak of a layout (orders,
-- moves, the choices of lay, sweeps, fields) is shared with the present definitions.
use Rattle.std.specs.Prelude.{ℕ, suc, ◌+◌, ◌-◌, ◌%◌, ◌^◌, Bool, false, cond, not, ◌&&◌, length, take, drop, set, replicate, eqb, leb, ltb}
use mathlib.Core.List.{List, [], ◌∷◌, ◌++◌, map, flat_map}
use Rattle.model.specs.declared.Edge.{Edge}
use Rattle.model.specs.declared.Call.{Call}
use Rattle.model.specs.declared.Call.TheVariants as call
use Rattle.model.specs.Lists.{one, upto, sum_over}
use Rattle.model.specs.Crossings.{linked, edges, crosses, crossing_pairs, unit_weight}
use Rattle.model.specs.Layouts.{capacity, each_once, zero_from, symmetric, loopless, bits_below}
use Rattle.model.specs.Checks.{Check, refusal, by_refusal, checked, differ, limit_fits, room_for}
use Rattle.model.specs.Edits.{with_bit, without_bit, at_both_ends, moved_after}
use Rattle.model.specs.Reading.{Shown, first_pair}
use Rattle.model.specs.GreedyAppend.{place_all}
use Rattle.model.specs.Search.{Search, Sift, Round, sift_best, best_candidates, sifts_of_all, rounds_within, reached, saved_in, moved_in, last_still}
use Rattle.model.specs.Runs.{Calls}
use Rattle.model.specs.Sifting.{clockwise_from}
use Rattle.model.specs.Charts.{fields_of, tags_of, body_of, chart_size, chart_edges, chart_order, same_list, chart_tags, word_in, padded}
use Rattle.model.specs.Charts.{size_checks, end_checks, repeat_checks, place_checks}
use Rattle.model.specs.WrittenCharts.{field_bytes, edge_bytes}
use Rattle.model.specs.Graph6.{size_part, packed, pair_bits, graph6_size, graph6_data, graph6_edges, graph6_checks}
use Rattle.model.specs.Histories.{sweep_of}
use Rattle.model.specs.Listing.{text, line, spaced}

-- ---- the ring

pub record FormerLayout : Type 0 where
  pub n : ℕ
  pub order : List ℕ
  pub adjacency : List ℕ
  pub count : ℕ

abbrev pub former_order : FormerLayout → List ℕ
former_order l = take l.n l.order

-- "The crossings of a ring are the unordered pairs of links that cross."
unfoldable pub former_crossings : FormerLayout → ℕ
former_crossings l = crossing_pairs l.n (former_order l) l.adjacency

unfoldable pub former_empty : FormerLayout
former_empty = record { n = 0; order = replicate capacity 0; adjacency = replicate capacity 0; count = 0 }

unfoldable pub former_valid : FormerLayout → Bool
former_valid l =
    leb l.n capacity
    && each_once l.n (former_order l)
    && zero_from l.n l.order
    && symmetric l.n l.adjacency
    && loopless l.n l.adjacency
    && bits_below l.n l.adjacency
    && zero_from l.n l.adjacency

-- "The ring carries a 32-bit count."
abbrev pub former_modulus : ℕ
former_modulus = 2 ^ 32

unfoldable pub former_carried : ℕ → ℕ → ℕ → ℕ
former_carried count before after = (count + after + (former_modulus - before % former_modulus)) % former_modulus

unfoldable pub former_changed : FormerLayout → ℕ → List ℕ → List ℕ → FormerLayout
former_changed l n order adj =
    record {
      n = n;
      order = order;
      adjacency = adj;
      count = former_carried l.count (former_crossings l) (crossing_pairs n (take n order) adj);
    }

unfoldable pub former_reordered : FormerLayout → List ℕ → FormerLayout
former_reordered l o = former_changed l l.n (o ++ drop l.n l.order) l.adjacency

-- ---- checks and answers

unfoldable pub was_valid : FormerLayout → Check
was_valid l = record { passes = former_valid l; code = 11 }

unfoldable pub was_vertex : FormerLayout → ℕ → Check
was_vertex l v = record { passes = ltb v l.n; code = 12 }

unfoldable pub was_unlinked : FormerLayout → ℕ → ℕ → Check
was_unlinked l a b = record { passes = not (linked l.adjacency a b); code = 14 }

unfoldable pub was_linked : FormerLayout → ℕ → ℕ → Check
was_linked l a b = record { passes = linked l.adjacency a b; code = 15 }

-- the refusal code, the layout, and up to four further numbers, as Histories has them
pub record FormerOutcome : Type 0 where
  pub refusal : ℕ
  pub layout : FormerLayout
  pub first : ℕ
  pub second : ℕ
  pub third : ℕ
  pub fourth : ℕ

abbrev pub former_outcome : ℕ → FormerLayout → ℕ → ℕ → ℕ → ℕ → FormerOutcome
former_outcome refusal l a b c d = record { refusal = refusal; layout = l; first = a; second = b; third = c; fourth = d }

-- accepted, this; refused, the layout as it came
abbrev pub formerly_checked : FormerLayout → List Check → FormerOutcome → FormerOutcome
formerly_checked l checks accepted = checked checks accepted (λ r. former_outcome r l 0 0 0 0)

-- ---- add, link, unlink, move

unfoldable pub former_add : FormerLayout → FormerOutcome
former_add l =
    formerly_checked l (was_valid l ∷ record { passes = ltb l.n capacity; code = 16 } ∷ [])
    (former_outcome 0 (former_changed l (suc l.n) (set l.order l.n l.n) l.adjacency) l.n 0 0 0)

unfoldable pub former_link : FormerLayout → ℕ → ℕ → FormerOutcome
former_link l a b =
    formerly_checked l (was_valid l ∷ was_vertex l a ∷ was_vertex l b ∷ differ a b ∷ was_unlinked l a b ∷ [])
    (former_outcome 0 (former_changed l l.n l.order (at_both_ends with_bit l.adjacency a b)) 0 0 0 0)

unfoldable pub former_unlink : FormerLayout → ℕ → ℕ → FormerOutcome
former_unlink l a b =
    formerly_checked l (was_valid l ∷ was_vertex l a ∷ was_vertex l b ∷ differ a b ∷ was_linked l a b ∷ [])
    (former_outcome 0 (former_changed l l.n l.order (at_both_ends without_bit l.adjacency a b)) 0 0 0 0)

unfoldable pub former_move : FormerLayout → ℕ → ℕ → FormerOutcome
former_move l a b =
    formerly_checked l (was_valid l ∷ was_vertex l a ∷ was_vertex l b ∷ differ a b ∷ [])
    (former_outcome 0 (former_reordered l (moved_after a b (former_order l))) 0 0 0 0)

-- ---- lay: each link counts one

unfoldable pub former_lay : FormerLayout → ℕ → FormerOutcome
former_lay l s =
    let done = place_all l.n l.adjacency (unit_weight l.adjacency) s in
    formerly_checked l (was_valid l ∷ was_vertex l s ∷ []) (former_outcome 0 (former_reordered l done.placed) done.tally 0 0 0)

-- ---- sift, round, settle

unfoldable pub former_candidates : ℕ → FormerLayout → List FormerLayout
former_candidates u l = map (λ v. former_reordered l (moved_after u v (former_order l))) (clockwise_from u (former_order l))

abbrev pub former_ring : Search FormerLayout
former_ring = record { size = λ l. l.n; cost = former_crossings; candidates = former_candidates }

unfoldable pub former_optima : List (Sift FormerLayout) → ℕ
former_optima xs = sum_over (λ x. best_candidates former_ring x.before x.vertex) xs

unfoldable pub former_sift : FormerLayout → ℕ → FormerOutcome
former_sift l u =
    let m = sift_best former_ring l u in
    formerly_checked l (was_valid l ∷ was_vertex l u ∷ [])
    (former_outcome 0 m (former_crossings l - former_crossings m) (best_candidates former_ring l u) 0 0)

unfoldable pub former_round : FormerLayout → FormerOutcome
former_round l =
    let xs = sifts_of_all former_ring l in
    formerly_checked l (was_valid l ∷ [])
    (former_outcome 0 (reached (λ x. x.after) l xs) (saved_in former_ring xs) (moved_in xs) (former_optima xs) 0)

unfoldable pub former_settle : FormerLayout → ℕ → FormerOutcome
former_settle l limit =
    let rs = rounds_within former_ring limit l in
    let xs = flat_map (λ (r : Round FormerLayout). sifts_of_all former_ring r.before) rs in
    formerly_checked l (was_valid l ∷ limit_fits limit ∷ [])
    (former_outcome 0 (reached (λ r. r.after) l rs) (saved_in former_ring xs) (length rs) (one (last_still rs)) (former_optima xs))

-- ---- every call: a link names no weight

unfoldable pub former_answer : FormerLayout → Call → FormerOutcome
former_answer l call.AddVertex = former_add l
former_answer l (call.AddEdge a b w) = former_link l a b
former_answer l (call.RemoveEdge a b) = former_unlink l a b
former_answer l (call.MoveAfter a b) = former_move l a b
former_answer l (call.GreedyAppend s) = former_lay l s
former_answer l (call.Sift u) = former_sift l u
former_answer l call.SiftingRound = former_round l
former_answer l (call.Converge limit) = former_settle l limit

abbrev pub former_calls : Calls FormerLayout Call FormerOutcome
former_calls = record { search = former_ring; answers = former_answer; code = λ a. a.refusal; after = λ a. a.layout; sweep = sweep_of }

-- ---- the calls that only read

-- the refusal code, and the count
unfoldable pub former_count : FormerLayout → List ℕ
former_count l = checked (was_valid l ∷ []) (0 ∷ l.count ∷ []) (λ r. r ∷ 0 ∷ [])

-- the refusal code, and the buffer's bytes after the call
unfoldable pub former_order_checks : FormerLayout → List ℕ → List Check
former_order_checks l buffer = was_valid l ∷ record { passes = leb l.n (length buffer); code = 18 } ∷ []

unfoldable pub former_order_bytes : FormerLayout → List ℕ → List ℕ
former_order_bytes l buffer = checked (former_order_checks l buffer) (former_order l ++ drop l.n buffer) (λ r. buffer)

unfoldable pub former_first_crossing : FormerLayout → Shown
former_first_crossing l =
    let pair = first_pair (former_order l) (edges l.n l.adjacency) in
    checked (was_valid l ∷ [])
    (record { refusal = 0; none = eqb (length pair) 0; pair = pair })
    (λ r. record { refusal = r; none = false; pair = [] })

-- ---- what fills a lent buffer: a chart, a graph in graph6, the crossings of every edge

module _ (entries : FormerLayout → List ℕ) (short : ℕ) (l : FormerLayout) (buffer : List ℕ) where
  abbrev pub former_fill_checks : List Check
  former_fill_checks = was_valid l ∷ room_for short (entries l) buffer ∷ []

  abbrev pub former_filled : List ℕ
  former_filled = checked former_fill_checks (entries l ++ drop (length (entries l)) buffer) (λ r. buffer)

  abbrev pub former_fill_answer : {A : Type 0} → (ℕ → ℕ → A) → A
  former_fill_answer answer = checked former_fill_checks (answer 0 (length (entries l))) (λ r. answer r 0)

unfoldable pub former_chart : FormerLayout → List ℕ
former_chart l =
    field_bytes 0x44 (l.n ∷ [])
    ++ field_bytes 0x4C (edge_bytes (edges l.n l.adjacency))
    ++ field_bytes 0x52 (former_order l)

unfoldable pub former_graph6 : FormerLayout → List ℕ
former_graph6 l = size_part l.n ++ packed (pair_bits l.n l.adjacency)

unfoldable pub former_table : FormerLayout → List ℕ
former_table l = let es = edges l.n l.adjacency in map (λ e. sum_over (λ f. one (crosses (former_order l) e f)) es) es

-- ---- charts and graphs read: the refusal code, and the layout

pub record FormerRead : Type 0 where
  pub refusal : ℕ
  pub layout : FormerLayout

abbrev pub former_read_as : List Check → FormerLayout → FormerRead
former_read_as checks l = checked checks (record { refusal = 0; layout = l }) (λ r. record { refusal = r; layout = former_empty })

abbrev pub former_layout_with : ℕ → List Edge → List ℕ → FormerLayout
former_layout_with n es o =
    let adj = map (word_in es) (upto capacity) in
    record { n = n; order = padded o; adjacency = adj; count = crossing_pairs n o adj }

unfoldable pub former_chart_checks : List ℕ → List Check
former_chart_checks s =
    record { passes = leb (length s) 8192; code = 1 }
    ∷ record { passes = (fields_of s).complete; code = 2 }
    ∷ record { passes = same_list (tags_of s) chart_tags; code = 3 }
    ∷ (size_checks (body_of s 0) ++ end_checks (chart_size s) (body_of s 1) ++ repeat_checks (body_of s 1) ++ place_checks (chart_size s) (chart_order s))

unfoldable pub former_read_of : List ℕ → FormerRead
former_read_of s = former_read_as (former_chart_checks s) (former_layout_with (chart_size s) (chart_edges s) (chart_order s))

unfoldable pub former_import_of : List ℕ → FormerRead
former_import_of s =
    former_read_as (graph6_checks s)
    (former_layout_with (graph6_size s) (graph6_edges (graph6_size s) (graph6_data s)) (upto (graph6_size s)))

-- ---- "It settles the chart's order with limit 50 and prints": the third number of a settling says whether it converged

unfoldable pub former_listing : FormerLayout → List ℕ
former_listing l =
    let r = former_settle l 50 in
    line "devices" (spaced l.n)
    ++ line "links" (spaced (length (edges l.n l.adjacency)))
    ++ line "before" (spaced (former_crossings l))
    ++ line "after" (spaced (former_crossings r.layout))
    ++ line "rounds" (spaced r.second)
    ++ line "settled" (text (cond (eqb r.third 1) " yes" " no"))
    ++ line "order" (flat_map spaced (former_order r.layout))

unfoldable pub former_listing_of : List ℕ → List ℕ
former_listing_of chart =
    let r = former_read_of chart in
    by_refusal r.refusal (former_listing r.layout) (λ refused. line "refused" (spaced refused))
