-- The weights of the listed edges, by the bytes of their ends, written one after the other.
use Prim.Native.Nat.{ℕ, suc, ◌+◌, ◌*◌, ◌/◌, ◌%◌, ◌≤◌, ◌<◌}
use Rattle.std.proofs.Common.{mod-eq_of_lt, le_antisymm, le_of_eq, add-zero, add-one, arith, ◌∙◌}
use Rattle.std.proofs.Math.Decide.{dec_lt}
use Rattle.std.specs.Prelude.{◌≡◌, Bool, true, false, List, [], ◌∷◌, ◌++◌, map, length, get_or, set, ltb}
use Rattle.std.proofs.Math.Path.{sym, ap, ap₂}
use Rattle.std.proofs.lemmas.List.{map-append, length-map}
use Rattle.std.proofs.lemmas.Simd.{map-map}
use Rattle.model.specs.declared.Edge.{Edge}
use Rattle.model.specs.Lists.{upto}
use Rattle.model.specs.Crossings.{edge_weight}
use Rattle.model.specs.Layouts.{table_weight}
use Rattle.model.specs.WrittenCharts.{edge_bytes}
use Rattle.laws.specs.Sums.Lists.{All, none, all_mono, map_ext}
use Rattle.laws.specs.Crossings.Edges.{Within, all_edges}
use Rattle.laws.specs.Crossings.Bound.{most_edges, edges_few}
use Rattle.laws.specs.Buffers.Writing.{Written, written_none, written_byte, written_size, written_step, written_whole}
use Rattle.laws.specs.Buffers.EdgeBytes.{edge_at, edge_bytes_length}
use Rattle.text.specs.Room.{Put, put_full, put_fits, no_room, has_room_lem}
use Rattle.edge_list.specs.Rows.{listed_edges, listed_few, listed_many}
use Rattle.edge_list.specs.Listed.{listed, listed_bytes_lem}

-- of the first count edges
unfoldable pub weighed : List ℕ → List ℕ → ℕ → List ℕ
weighed ws ends count = map (λ i. table_weight ws (get_or ends (2 * i) 0 % 64) (get_or ends (2 * i + 1) 0 % 64)) (upto count)

-- ---- one after the other

weighed_next : (ws ends : List ℕ) (i : ℕ)
    → weighed ws ends (suc i) ≡ weighed ws ends i ++ (table_weight ws (get_or ends (2 * i) 0 % 64) (get_or ends (2 * i + 1) 0 % 64) ∷ [])
unfolding weighed upto
weighed_next ws ends i = map-append (λ j. table_weight ws (get_or ends (2 * j) 0 % 64) (get_or ends (2 * j + 1) 0 % 64)) (upto i) (i ∷ [])

-- the first i are written, from a place on
pub record WeighedUpTo (ws ends start : List ℕ) (at count : ℕ) (bytes : List ℕ) (i : ℕ) : Type 0 where
  pub inside : i ≤ count
  pub room : at + count ≤ length start
  pub held : Written start at (weighed ws ends i) bytes (at + i)

module _ {ws ends start : List ℕ} {at count : ℕ} where
  pub each_start : at + count ≤ length start → WeighedUpTo ws ends start at count start 0
  unfolding weighed upto
  each_start room = record { inside = omega arith; room = room; held = rw (add-zero at) (written_none start at) }

  module _ {bytes : List ℕ} {i : ℕ} (r : WeighedUpTo ws ends start at count bytes i) where
    pub each_size : length bytes ≡ length start
    each_size = written_size r.held (omega (arith, r.inside, r.room))

    pub each_next : i < count → {x : ℕ} → x ≡ table_weight ws (get_or ends (2 * i) 0 % 64) (get_or ends (2 * i + 1) 0 % 64)
        → WeighedUpTo ws ends start at count (set bytes (at + i) x) (i + 1)
    each_next h {x} e =
        let one_more = ap (weighed ws ends) (add-one i) ∙ weighed_next ws ends i in
        record {
          inside = omega arith;
          room = r.room;
          held =
              rw (one_more, ← e)
              (written_step r.held (x ∷ []) (omega (arith, r.room)) (written_byte bytes (at + i) x (omega (arith, each_size, r.room))) (omega arith));
        }

    pub each_end : count ≤ i → Written start at (weighed ws ends count) bytes (at + i)
    each_end h = rw (le_antisymm h r.inside) r.held

-- ---- those of all edges

module _ (n : ℕ) (adj : List ℕ) where
  few : length (listed_edges n adj) ≤ most_edges
  few =
      elim (dec_lt 64 n) [
        | yes l ↦ rw (listed_many n adj l) (omega arith)
        | no l ↦ rw (listed_few n adj (omega arith)) (edges_few n adj (omega arith))
      ]

  below : All (Within 64) (listed_edges n adj)
  below =
      elim (dec_lt 64 n) [
        | yes l ↦ rw (listed_many n adj l) none
        | no l ↦ rw (listed_few n adj (omega arith)) (all_mono (all_edges n adj) (λ e w. (omega (arith, w.0), omega (arith, w.1))))
      ]

  -- the edges were put into an array that has room for the most
  module _ {start ends : List ℕ} {end : ℕ} (size : length start ≡ 2 * most_edges)
      (put : let es = listed_edges n adj in Put (2 * length es) start 0 (edge_bytes es) ends end) where
    all_put : Written start 0 (edge_bytes (listed_edges n adj)) ends end
    all_put = put.fits (omega (arith, few, size))

    pub count_is : end / 2 ≡ length (listed_edges n adj)
    count_is = omega (arith, (written_whole all_put).1, edge_bytes_length (listed_edges n adj))

    pub ends_inside : 2 * (end / 2) ≤ length ends
    ends_inside =
        let inside : end ≤ length start = omega (arith, few, size, (written_whole all_put).1, edge_bytes_length (listed_edges n adj)) in
        omega (arith, inside, written_size all_put inside)

    all_weighed : (ws : List ℕ) → weighed ws ends (end / 2) ≡ map (edge_weight (table_weight ws)) (listed_edges n adj)
    unfolding weighed listed edge_at
    all_weighed ws =
        sym (map-map wrapped (edge_at ends) (upto (end / 2)))
        ∙ ap (map wrapped) (listed_bytes_lem (listed_edges n adj) all_put)
        ∙ map_ext wrapped (edge_weight (table_weight ws)) below (λ e w. ap₂ (table_weight ws) (mod-eq_of_lt w.0) (mod-eq_of_lt w.1))
      where
        wrapped : Edge → ℕ
        wrapped e = table_weight ws (e.low % 64) (e.high % 64)

    -- what the call does, by the test for room
    module _ (ws : List ℕ) {out : List ℕ} {at : ℕ} {lacks : Bool} (e : lacks ≡ ltb (length out) (at + end / 2)) where
      pub weights_full : lacks ≡ true → Put (length (listed_edges n adj)) out at (map (edge_weight (table_weight ws)) (listed_edges n adj)) out at
      weights_full q = put_full _ (rw (← count_is) (no_room e q))

      pub weights_put : lacks ≡ false → {bytes : List ℕ} {to : ℕ} → Written out at (weighed ws ends (end / 2)) bytes to
          → Put (length (listed_edges n adj)) out at (map (edge_weight (table_weight ws)) (listed_edges n adj)) bytes to
      weights_put q w =
          put_fits (rw (← count_is) (has_room_lem e q)) (le_of_eq (length-map (listed_edges n adj) (edge_weight (table_weight ws)))) (rw (← (all_weighed ws)) w)
