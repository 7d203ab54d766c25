-- The search for a crossing pair: the edges listed in an array, the places of the vertices, and how far the search is.
use Rattle.std.specs.Prelude.{ℕ, suc, ◌+◌, ◌*◌, ◌/◌, ◌≤◌, ◌<◌, ◌≡◌, refl, Bool, true, false, cond, ◌&&◌, length, get_or, take, T, eqb}
use Rattle.std.proofs.Common.{add-one, arith, sym, ◌∙◌}
use Rattle.std.proofs.Math.Path.{ap}
use mathlib.Core.List.{List, [], ◌∷◌}
use Rattle.std.proofs.Math.ListN.{drop}
use Rattle.model.specs.declared.Edge.{Edge}
use Rattle.model.specs.declared.Layout.{Layout}
use Rattle.model.specs.Lists.{no_repeats}
use Rattle.model.specs.Crossings.{alternate, crosses}
use Rattle.model.specs.Layouts.{vertex_order, valid}
use Rattle.model.specs.Reading.{Shown, pair_with, or_else, first_pair, first_crossing_of}
use Rattle.model.specs.WrittenCharts.{edge_bytes}
use Rattle.laws.specs.Orders.Permutations.{Permutation}
use Rattle.laws.specs.Crossings.Edges.{Within}
use Rattle.laws.specs.Crossings.Bound.{most_edges}
use Rattle.laws.specs.Layouts.Validity.{sound}
use Rattle.laws.specs.Layouts.FirstCrossing.{found, found_valid}
use Rattle.laws.specs.Buffers.EdgeBytes.{edge_at}
use Rattle.text.specs.Room.{Put}
use Rattle.edge_list.specs.Rows.{listed_edges}
use Rattle.edge_list.specs.Listed.{listed, listed_from, listed_beyond, listed_within, all_listed, all_fit}
use Rattle.places.specs.AllPlaces.{PlacesOf}

-- ---- the search

-- whether two edges cross, by a list of places
unfoldable pub cross_at : List ℕ → Edge → Edge → Bool
cross_at places e f =
    no_repeats eqb (e.low ∷ e.high ∷ f.low ∷ f.high ∷ [])
    && alternate (get_or places e.low 0) (get_or places e.high 0) (get_or places f.low 0) (get_or places f.high 0)

cross_places : {n : ℕ} {order places : List ℕ} {e f : Edge} → PlacesOf n order places → Within n e → Within n f
    → cross_at places e f ≡ crosses (take n order) e f
unfolding cross_at crosses
cross_places {e = e} {f = f} p i j = rw (p.stands e.low i.0, p.stands e.high i.1, p.stands f.low j.0, p.stands f.high j.1)

-- count edges are listed, between vertices that stand in the order once
pub record Searchable (n : ℕ) (order : List ℕ) (count : ℕ) (ends : List ℕ) : Type 0 where
  pub small : n ≤ 64
  pub permutation : Permutation n (take n order)
  pub fits : 2 * count ≤ length ends
  pub within : (i : ℕ) → i < count → Within n (edge_at ends i)

module _ {n : ℕ} {order : List ℕ} {count : ℕ} {ends : List ℕ} (s : Searchable n order count ends) {i : ℕ} (h : i < count) where
  pub in_array : 2 * i + 1 < length ends
  in_array = omega (arith, s.fits)

  pub ends_below : {e : Edge} → e ≡ edge_at ends i → (e.low < 64) × (e.high < 64)
  ends_below {e} at_i =
      let ends : Within n e = rw at_i (s.within i h) in
      (omega (arith, s.small), omega (arith, s.small))

-- no edge before place first crosses one behind it
pub record FirstsPassed (n : ℕ) (order : List ℕ) (count : ℕ) (ends : List ℕ) (first : ℕ) : Type 0 where
  pub inside : first ≤ count
  pub rest : first_pair (take n order) (listed ends count) ≡ first_pair (take n order) (drop first (listed ends count))

-- the edge at place first crosses none between it and place second
pub record SecondsPassed (n : ℕ) (order : List ℕ) (count : ℕ) (ends : List ℕ) (first second : ℕ) : Type 0 where
  pub later : first < second
  pub inside : second ≤ count
  pub rest : pair_with (take n order) (edge_at ends first) (drop (suc first) (listed ends count))
      ≡ pair_with (take n order) (edge_at ends first) (drop second (listed ends count))

module _ {n : ℕ} {order : List ℕ} {count : ℕ} {ends : List ℕ} where
  pub firsts_start : FirstsPassed n order count ends 0
  firsts_start = record { inside = omega arith; rest = refl }

  pub firsts_end : {first : ℕ} → FirstsPassed n order count ends first → count ≤ first
      → first_pair (take n order) (listed ends count) ≡ []
  unfolding first_pair
  firsts_end {first} r h = r.rest ∙ ap (first_pair (take n order)) (listed_beyond ends count first h)

  pub seconds_start : {first : ℕ} → first < count → SecondsPassed n order count ends first (first + 1)
  seconds_start {first} h = rw (add-one first) (record { later = omega arith; inside = h; rest = refl })

  -- what is left, by whether the edge at place first crosses one that is left for it
  row_left : {first second : ℕ} → FirstsPassed n order count ends first → SecondsPassed n order count ends first second → first < count
      → let es = listed ends count in
      first_pair (take n order) es
      ≡ or_else (pair_with (take n order) (edge_at ends first) (drop second es)) (first_pair (take n order) (drop (suc first) es))
  unfolding first_pair
  row_left {first} r q h =
      r.rest
      ∙ ap (first_pair (take n order)) (listed_from ends count first h)
      ∙ ap (λ (es : List Edge). or_else es (first_pair (take n order) (drop (suc first) (listed ends count)))) q.rest

  pub firsts_next : {first second : ℕ} → FirstsPassed n order count ends first → SecondsPassed n order count ends first second
      → first < count → count ≤ second → FirstsPassed n order count ends (first + 1)
  unfolding pair_with or_else
  firsts_next {first} {second} r q h l =
      rw (add-one first) (record { inside = h; rest = row_left r q h ∙ rw (listed_beyond ends count second l) })

  module _ (s : Searchable n order count ends) {places : List ℕ} (p : PlacesOf n order places) {first second : ℕ} (i : first < count) (j : second < count)
      {e f : Edge} (at_first : e ≡ edge_at ends first) (at_second : f ≡ edge_at ends second) {t : Bool} (test : t ≡ cross_at places e f) where
    -- the edge at second is the first that crosses, or not
    second_tested : pair_with (take n order) e (drop second (listed ends count))
        ≡ cond t (e ∷ f ∷ []) (pair_with (take n order) e (drop (suc second) (listed ends count)))
    unfolding pair_with
    second_tested =
        ap (pair_with (take n order) e)
        (listed_from ends count second j ∙ ap (λ (g : Edge). g ∷ drop (suc second) (listed ends count)) (sym at_second))
        ∙ rw (test ∙ cross_places p (rw at_first (s.within first i)) (rw at_second (s.within second j)))

    pub seconds_next : SecondsPassed n order count ends first second → t ≡ false → SecondsPassed n order count ends first (second + 1)
    seconds_next q z =
        rw (add-one second)
        (record { later = omega (arith, q.later); inside = j; rest = q.rest ∙ rw (← at_first) (second_tested ∙ rw z) })

    pub pair_found : FirstsPassed n order count ends first → SecondsPassed n order count ends first second → t ≡ true
        → first_pair (take n order) (listed ends count) ≡ e ∷ f ∷ []
    unfolding or_else
    pair_found r q z = row_left r q i ∙ rw (← at_first, second_tested, z)

-- ---- the edges of a layout

-- they were put into an array that has room for the most
module _ (l : Layout) (t : T (valid l)) {start ends : List ℕ} {end : ℕ} (size : length start ≡ 2 * most_edges)
    (put : let es = listed_edges l.n l.adjacency in Put (2 * length es) start 0 (edge_bytes es) ends end) where
  pub searchable : Searchable l.n l.order (end / 2) ends
  unfolding vertex_order
  searchable =
      record {
        small = (sound l t).small;
        permutation = (sound l t).permutation;
        fits = all_fit l.n l.adjacency (sound l t).small size put;
        within = listed_within l.n l.adjacency ends (all_listed l.n l.adjacency (sound l t).small size put);
      }

  pub search_shown : {s : Shown} → s ≡ found (first_pair (take l.n l.order) (listed ends (end / 2))) → s ≡ first_crossing_of l
  unfolding vertex_order
  search_shown e =
      e
      ∙ ap (λ (es : List Edge). found (first_pair (vertex_order l) es)) (all_listed l.n l.adjacency (sound l t).small size put)
      ∙ found_valid l t
