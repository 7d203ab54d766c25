-- The crossings of the listed edges, each its weight times what the table of chords has for the places of its ends.
use Prim.Native.Nat.{ℕ, suc, ◌+◌, ◌*◌, ◌/◌, ◌%◌, ◌≤◌, ◌<◌}
use Rattle.std.proofs.Math.Nat.{mod-eq_of_lt}
use Rattle.std.proofs.Common.{lt_of_lt_of_le, le_of_lt, le_antisymm, add-one, arith, ap₂, ◌∙◌}
use Rattle.std.specs.Prelude.{◌≡◌, refl, true, cond, length, set, ltb}
use Rattle.std.proofs.Math.Path.{sym, ap}
use mathlib.Core.List.{List, [], ◌∷◌, ◌++◌, map, map-append, map-map}
use Rattle.std.proofs.Math.ListN.{get_or, take}
use borrow.Author.Tests.{lt-ltb, le-ltb}
use Rattle.model.specs.declared.Edge.{Edge}
use Rattle.model.specs.Lists.{upto, place}
use Rattle.model.specs.Crossings.{edges, edge_weight, weighted_edges}
use Rattle.model.specs.Layouts.{table_weight}
use Rattle.model.specs.Charts.{edge_within}
use Rattle.model.specs.WrittenCharts.{edge_bytes}
use Rattle.model.specs.EdgeCrossings.{crossings_with}
use Rattle.laws.specs.Sums.Indicators.{less, same, more, order as which}
use Rattle.laws.specs.Sums.Lists.{map_ext}
use Rattle.laws.specs.Orders.Permutations.{at, Permutation, place_below, at_of_place}
use Rattle.laws.specs.Crossings.Edges.{Within, edges_within, edge_rises, edge_ends}
use Rattle.laws.specs.Crossings.Bound.{most_edges}
use Rattle.laws.proofs.Crossings.Chords.{edge_chord, edge_chord_back}
use Rattle.laws.specs.Tables.Drawn.{Weighted}
use Rattle.laws.specs.Buffers.Writing.{Written, written_none, written_byte, written_size, written_step}
use Rattle.laws.specs.Buffers.EdgeBytes.{edge_at}
use Rattle.text.specs.Room.{Put}
use Rattle.edge_list.specs.Rows.{listed_edges}
use Rattle.edge_list.specs.Listed.{listed, length_listed, all_listed, all_fit}
use Rattle.places.specs.AllPlaces.{PlacesOf}
use Rattle.chords.specs.Chords.{ChordsOf}

-- an order and a table that can be drawn, and words that hold the edges of the table
pub record Drawable (n : ℕ) (order adj ws : List ℕ) : Type 0 where
  pub weighted : Weighted n order ws
  pub same_edges_lem : weighted_edges n (table_weight ws) ≡ edges n adj

-- ---- by any bytes

unfoldable pub place_at : List ℕ → ℕ → ℕ
place_at places v = get_or places (v % 64) 0 % 64

unfoldable pub chord_at : List ℕ → List ℕ → ℕ → ℕ → ℕ
chord_at chords places low high =
    let p = place_at places low in
    let q = place_at places high in
    cond (ltb p q) (get_or chords (p * 64 + q) 0) (get_or chords (q * 64 + p) 0)

module _ (chords places : List ℕ) (low high : ℕ) {p q : ℕ} (e : p ≡ place_at places low) (f : q ≡ place_at places high) where
  pub chord_forth : p < q → get_or chords (p * 64 + q) 0 ≡ chord_at chords places low high
  unfolding chord_at
  chord_forth l = rw (← e, ← f, lt-ltb p q l)

  pub chord_back : q ≤ p → get_or chords (q * 64 + p) 0 ≡ chord_at chords places low high
  unfolding chord_at
  chord_back l = rw (← e, ← f, le-ltb p q l)

-- "a crossing counts the product of its two weights"
unfoldable pub number_of : List ℕ → List ℕ → List ℕ → ℕ → ℕ → ℕ
number_of chords places ws low high = table_weight ws (low % 64) (high % 64) * chord_at chords places low high

pub number_is : (chords places ws : List ℕ) (low high : ℕ) {w x r : ℕ} → w ≡ table_weight ws (low % 64) (high % 64) → x ≡ chord_at chords places low high
    → r ≡ w * x → r ≡ number_of chords places ws low high
unfolding number_of
number_is chords places ws low high e f g = g ∙ ap₂ ◌*◌ e f

-- of the first count edges
unfoldable pub numbered : List ℕ → List ℕ → List ℕ → List ℕ → ℕ → List ℕ
numbered chords places ws ends count = map (λ i. number_of chords places ws (get_or ends (2 * i) 0) (get_or ends (2 * i + 1) 0)) (upto count)

-- the crossings of every edge of n vertices
unfoldable pub numbers_of : ℕ → List ℕ → List ℕ → List ℕ → List ℕ
numbers_of n order adj ws = let es = edges n adj in map (crossings_with (table_weight ws) (take n order) es) es

-- ---- one after the other

numbered_next : (chords places ws ends : List ℕ) (i : ℕ)
    → numbered chords places ws ends (suc i)
    ≡ numbered chords places ws ends i ++ (number_of chords places ws (get_or ends (2 * i) 0) (get_or ends (2 * i + 1) 0) ∷ [])
unfolding numbered upto
numbered_next chords places ws ends i =
    map-append (λ j. number_of chords places ws (get_or ends (2 * j) 0) (get_or ends (2 * j + 1) 0)) (upto i) (i ∷ [])

-- the first i are in the table
pub record NumberedUpTo (chords places ws ends start : List ℕ) (count : ℕ) (table : List ℕ) (i : ℕ) : Type 0 where
  pub inside : i ≤ count
  pub room : count ≤ length start
  pub held : Written start 0 (numbered chords places ws ends i) table i

module _ {chords places ws ends start : List ℕ} {count : ℕ} where
  pub each_start : count ≤ length start → NumberedUpTo chords places ws ends start count start 0
  unfolding numbered upto
  each_start room = record { inside = omega arith; room = room; held = written_none start 0 }

  module _ {table : List ℕ} {i : ℕ} (r : NumberedUpTo chords places ws ends start count table i) where
    pub table_size : length table ≡ length start
    table_size = written_size r.held (omega (arith, r.inside, r.room))

    pub each_next : i < count → {x : ℕ} → x ≡ number_of chords places ws (get_or ends (2 * i) 0) (get_or ends (2 * i + 1) 0)
        → NumberedUpTo chords places ws ends start count (set table i x) (i + 1)
    each_next h {x} e =
        let one_more = ap (numbered chords places ws ends) (add-one i) ∙ numbered_next chords places ws ends i in
        record {
          inside = omega arith;
          room = r.room;
          held =
              rw (one_more, ← e)
              (written_step r.held (x ∷ []) (omega (arith, r.room)) (written_byte table i x (omega (arith, table_size, r.room))) refl);
        }

    pub each_end : count ≤ i → Written start 0 (numbered chords places ws ends count) table i
    each_end h = rw (le_antisymm h r.inside) r.held

-- ---- of a valid layout

module _ {n : ℕ} {order adj ws chords places : List ℕ} (r : Drawable n order adj ws) (c : ChordsOf n order ws chords) (p : PlacesOf n order places) where
  abbrev d : Weighted n order ws
  d = r.weighted

  place_right : (v : ℕ) → v < n → place_at places v ≡ place (take n order) v
  unfolding place_at
  place_right v h =
      let small = d.small in
      let stands = ap (λ (u : ℕ). get_or places u 0) (mod-eq_of_lt (lt_of_lt_of_le h small)) ∙ p.stands v h in
      ap (λ (x : ℕ). x % 64) stands ∙ mod-eq_of_lt (lt_of_lt_of_le (place_below d.permutation v h) small)

  -- the weight of the edge, times what the table has
  number_right : (e : Edge) → edge_within n e ≡ true
      → number_of chords places ws e.low e.high ≡ crossings_with (table_weight ws) (take n order) (edges n adj) e
  unfolding number_of chord_at
  number_right e h =
      rw (← r.same_edges_lem, place_right e.low ends.0, place_right e.high ends.1, below e.low ends.0, below e.high ends.1)
      (elim (which (place o e.low) (place o e.high)) [
        | less l ↦
            rw (lt-ltb (place o e.low) (place o e.high) l)
            (ap (λ (k : ℕ). edge_weight W e * k) (c.number (place o e.low) (place o e.high) l (place_below perm e.high ends.1))
            ∙ sym (edge_chord perm W d.symmetry e ends l))
        | same q ↦ absurd (omega (arith, edge_rises n e h, sym (at_of_place perm e.low ends.0) ∙ ap (at o) q ∙ at_of_place perm e.high ends.1))
        | more l ↦
            rw (le-ltb (place o e.low) (place o e.high) (le_of_lt l))
            (ap (λ (k : ℕ). edge_weight W e * k) (c.number (place o e.high) (place o e.low) l (place_below perm e.low ends.0))
            ∙ sym (edge_chord_back perm W d.symmetry e ends l))
      ])
    where
      o : List ℕ
      o = take n order

      W : ℕ → ℕ → ℕ
      W = table_weight ws

      perm : Permutation n o
      perm = d.permutation

      ends : Within n e
      ends = edge_ends n e h

      below : (v : ℕ) → v < n → v % 64 ≡ v
      below v l = mod-eq_of_lt (lt_of_lt_of_le l d.small)

  pub all_numbered : (ends : List ℕ) (count : ℕ) → listed ends count ≡ edges n adj → numbered chords places ws ends count ≡ numbers_of n order adj ws
  unfolding numbered numbers_of listed edge_at
  all_numbered ends count e =
      sym (map-map number (edge_at ends) (upto count))
      ∙ ap (map number) e
      ∙ map_ext number (crossings_with (table_weight ws) (take n order) (edges n adj)) (edges_within n adj) number_right
    where
      number : Edge → ℕ
      number f = number_of chords places ws f.low f.high

-- the edges were listed in an array that has room for the most
module _ {n : ℕ} {order adj ws : List ℕ} (r : Drawable n order adj ws) {start ends : List ℕ} {end : ℕ} (size : length start ≡ 2 * most_edges)
    (put : let es = listed_edges n adj in Put (2 * length es) start 0 (edge_bytes es) ends end) where
  whole : listed ends (end / 2) ≡ edges n adj
  whole = all_listed n adj r.weighted.small size put

  pub each_fits : {long : ℕ} → length (edges n adj) ≤ long → (2 * (end / 2) ≤ length ends) × (end / 2 ≤ long)
  each_fits room = (all_fit n adj r.weighted.small size put, omega (arith, room, length_listed ends (end / 2), ap length whole))

  pub numbers_right : {chords places : List ℕ} → ChordsOf n order ws chords → PlacesOf n order places → {table after : List ℕ} {to : ℕ}
      → Written table 0 (numbered chords places ws ends (end / 2)) after to → Written table 0 (numbers_of n order adj ws) after to
  numbers_right c p w = rw (← (all_numbered r c p ends (end / 2) whole)) w
