-- The edges from a vertex to higher ones, and all edges row by row: how many there are, and written into a buffer.
use Prim.Native.Nat.{ℕ, zero, suc, ◌+◌, ◌*◌, ◌-◌, ◌^◌, ◌≤◌, ◌<◌, min}
use Rattle.std.proofs.Common.{le_refl, le_antisymm, le_of_eq, mul_comm, not-suc-le-zero, add-one, sym, ap₂, ◌∙◌, subst, length-append, le-leb, lt-ltb, le-ltb}
use Rattle.std.proofs.Math.Nat.{min-eq_left}
use native.Mathlib.Omega.{arith}
use Rattle.std.specs.Prelude.{◌≡◌, Bool, ◌&&◌, get_or, set, eqb, leb, ltb}
use Rattle.std.proofs.Math.Path.{refl, ap}
use Rattle.std.proofs.Math.Bool.{true, false, cond}
use mathlib.Core.List.{List, [], ◌∷◌, ◌++◌, map, flat_map, map-append, append-nil}
use Rattle.std.proofs.Math.ListN.{length}
use Rattle.std.proofs.Math.Pow.{ones_lt}
use Rattle.std.proofs.lemmas.Bool.{lt-leb}
use Rattle.model.specs.declared.Edge.{Edge}
use Rattle.model.specs.Lists.{one, upto, keep}
use Rattle.model.specs.Crossings.{bit, linked, edges}
use Rattle.model.specs.WrittenCharts.{edge_bytes}
use Rattle.laws.specs.Sums.Indicators.{Order, less, same, more, order, one_lt, one_ge}
use Rattle.laws.specs.Sums.Ranges.{sum, sum_ext, sum_const, sum_below, sum_mono}
use Rattle.laws.specs.Sums.Lists.{keep_append, flat_map_append}
use Rattle.laws.specs.Sums.Bits.{bit_lt, bit_beyond, masked_ones}
use Rattle.laws.specs.Crossings.Edges.{edge}
use Rattle.laws.specs.Crossings.Masks.{bit_full, weight_bit}
use Rattle.laws.specs.Buffers.Writing.{Written, written, written_none, written_byte, written_more, written_size, written_step, written_length}
use Rattle.laws.specs.Buffers.EdgeBytes.{edge_bytes_append, edge_bytes_length}

-- ---- the edges, row by row

-- v is higher than a, and joined to it by the word of a
abbrev higher : ℕ → ℕ → ℕ → Bool
higher word a v = ltb a v && eqb (bit word v) 1

-- the edges from a to vertices below b
unfoldable pub row_edges : ℕ → ℕ → ℕ → List Edge
row_edges word a b = map (edge a) (keep (higher word a) (upto b))

-- the rows of the vertices below a
unfoldable pub rows_below : ℕ → List ℕ → ℕ → List Edge
rows_below n adj a = flat_map (λ u. row_edges (get_or adj u 0) u n) (upto a)

-- all rows are all edges
all_rows : (n : ℕ) (adj : List ℕ) → rows_below n adj n ≡ edges n adj
unfolding rows_below row_edges edges linked
all_rows n adj = refl

-- the edges that are listed: those of at most 64 vertices
unfoldable pub listed_edges : ℕ → List ℕ → List Edge
listed_edges n adj = cond (leb n 64) (edges n adj) []

pub listed_few : (n : ℕ) (adj : List ℕ) → n ≤ 64 → listed_edges n adj ≡ edges n adj
unfolding listed_edges
listed_few n adj h = rw (le-leb n 64 h)

pub listed_many : (n : ℕ) (adj : List ℕ) → 64 < n → listed_edges n adj ≡ []
unfolding listed_edges
listed_many n adj h = rw (lt-leb n 64 h)

-- a list that grows by what is put behind it
grown : (f g : ℕ → List Edge) → ((k : ℕ) → f (suc k) ≡ f k ++ g k) → (a b : ℕ) → a ≤ b → length (f a) ≤ length (f b)
grown f g e a zero h = le_of_eq (ap (λ (k : ℕ). length (f k)) (le_antisymm h (omega arith)))
grown f g e a (suc b) h =
    elim (order a (suc b)) [
      | less l ↦ omega (arith, grown f g e a b (omega arith), ap length (e b), length-append (f b) (g b))
      | same q ↦ rw q (le_refl (length (f (suc b))))
      | more l ↦ absurd (omega arith)
    ]

-- ---- one row

module _ (word a : ℕ) where
  -- one vertex further
  last_edge : ℕ → List Edge
  last_edge b = map (edge a) (keep (higher word a) (b ∷ []))

  row_grows : (b : ℕ) → row_edges word a (suc b) ≡ row_edges word a b ++ last_edge b
  unfolding row_edges upto keep last_edge
  row_grows b =
      ap (map (edge a)) (keep_append (higher word a) (upto b) (b ∷ []))
      ∙ map-append (edge a) (keep (higher word a) (upto b)) (keep (higher word a) (b ∷ []))

  row_next : (b : ℕ) {t : Bool} → a < b → t ≡ eqb (bit word b) 1 → row_edges word a (suc b) ≡ row_edges word a b ++ cond t (edge a b ∷ []) []
  unfolding keep last_edge
  row_next b {t} l e = row_grows b ∙ rw (lt-ltb a b l, ← e) (by_test t)
    where
      by_test : (t : Bool) → row_edges word a b ++ map (edge a) (cond t (b ∷ []) []) ≡ row_edges word a b ++ cond t (edge a b ∷ []) []
      by_test true = refl
      by_test false = refl

  row_none : (b : ℕ) → b ≤ suc a → row_edges word a b ≡ []
  unfolding row_edges upto keep last_edge
  row_none zero h = refl
  row_none (suc b) h = row_grows b ∙ rw (le-ltb a b (omega arith), row_none b (omega arith))

  -- as many as there are ones in the word from a on
  row_length : (b : ℕ) → a < b → length (row_edges word a b) + sum (suc a) (bit word) ≡ sum b (bit word)
  unfolding sum one linked
  row_length zero h = absurd (not-suc-le-zero h)
  row_length (suc b) h = by_order (order a b) (row_length b)
    where
      ones : (t : Bool) → length (cond t (edge a b ∷ []) []) ≡ one t
      ones true = refl
      ones false = refl

      last : length (cond (eqb (bit word b) 1) (edge a b ∷ []) []) ≡ bit word b
      last = ones (eqb (bit word b) 1) ∙ weight_bit (word ∷ []) 0 b

      by_order : Order a b → (a < b → length (row_edges word a b) + sum (suc a) (bit word) ≡ sum b (bit word))
          → length (row_edges word a (suc b)) + sum (suc a) (bit word) ≡ sum (suc b) (bit word)
      by_order (less l) r =
          omega (arith, r l, last, ap length (row_next b l refl), length-append (row_edges word a b) (cond (eqb (bit word b) 1) (edge a b ∷ []) []))
      by_order (same e) r = rw (← e, row_none (suc a) (le_refl (suc a))) (omega arith)
      by_order (more l) r = absurd (omega arith)

  -- no more than there are vertices
  row_few : (b : ℕ) → a < b → length (row_edges word a b) ≤ b
  row_few b h =
      let ones = sum_mono b (bit word) (λ i. 1) (λ i l. omega (arith, bit_lt word i)) in
      omega (arith, row_length b h, ones, sum_const b 1)

-- the ones of a word among its n lowest bits
low_ones : (n word : ℕ) → n ≤ 64 → masked_ones word (2 ^ n - 1) ≡ sum n (bit word)
unfolding masked_ones
low_ones n word h =
    sum_ext 64 (λ i. bit word i * bit (2 ^ n - 1) i) (λ i. one (ltb i n) * bit word i) (λ i l. term i)
    ∙ sum_below 64 n (bit word) h
  where
    beyond : (i : ℕ) → n ≤ i → bit word i * bit (2 ^ n - 1) i ≡ one (ltb i n) * bit word i
    beyond i l = rw (bit_beyond n (2 ^ n - 1) i (ones_lt n) l, one_ge i n l) (mul_comm (bit word i) 0)

    term : (i : ℕ) → bit word i * bit (2 ^ n - 1) i ≡ one (ltb i n) * bit word i
    term i =
        elim (order i n) [
          | less l ↦ rw (bit_full n i l, one_lt i n l) (mul_comm (bit word i) 1)
          | same e ↦ beyond i (omega arith)
          | more l ↦ beyond i (omega arith)
        ]

-- the ones of a word under the mask of its n lowest bits
masked : (word : ℕ) {n mask count : ℕ} → n ≤ 64 → mask ≡ 2 ^ min n 64 - 1 → count ≡ masked_ones word mask → count ≡ sum n (bit word)
masked word {n} h m e = e ∙ ap (masked_ones word) (m ∙ ap (λ (k : ℕ). 2 ^ k - 1) (min-eq_left h)) ∙ low_ones n word h

-- the ones below n, and those up to a, each counted under its mask
pub record RowCounted (word a n below lower : ℕ) : Type 0 where
  pub inside : lower ≤ below
  pub counted : below - lower ≡ length (row_edges word a n)

pub row_counted : {word a n all first below lower : ℕ} → n ≤ 64 → a < n
    → all ≡ 2 ^ min n 64 - 1 → below ≡ masked_ones word all → first ≡ 2 ^ min (a + 1) 64 - 1 → lower ≡ masked_ones word first
    → RowCounted word a n below lower
row_counted {word} {a} {n} h l m e k f =
    let ones = masked word h m e in
    let few : a + 1 ≤ 64 = omega arith in
    let low = rw (add-one a) at (masked word few k f) in
    record { inside = omega (arith, ones, low, row_length word a n l); counted = omega (arith, ones, low, row_length word a n l) }

-- ---- all rows, counted

-- the rows of the vertices below a have total edges
pub record RowsCounted (n : ℕ) (adj : List ℕ) (total a : ℕ) : Type 0 where
  pub few : n ≤ 64
  pub inside : a ≤ n
  pub counted : total ≡ length (rows_below n adj a)
  pub bounded : total ≤ 64 * a

rows_grow : (n : ℕ) (adj : List ℕ) (a : ℕ) → rows_below n adj (suc a) ≡ rows_below n adj a ++ row_edges (get_or adj a 0) a n
unfolding rows_below upto flat_map
rows_grow n adj a =
    flat_map_append (λ u. row_edges (get_or adj u 0) u n) (upto a) (a ∷ [])
    ∙ ap (λ (es : List Edge). rows_below n adj a ++ es) (append-nil (row_edges (get_or adj a 0) a n))

module _ {n : ℕ} {adj : List ℕ} where
  pub count_none : n ≤ 64 → RowsCounted n adj 0 0
  unfolding rows_below upto flat_map
  count_none few = record { few = few; inside = omega arith; counted = refl; bounded = omega arith }

  pub count_next : {total a row : ℕ} → RowsCounted n adj total a → a < n → row ≡ length (row_edges (get_or adj a 0) a n) → RowsCounted n adj (total + row) (a + 1)
  count_next {total} {a} {row} s l e =
      rw (add-one a)
      (record {
        few = s.few;
        inside = l;
        counted =
            ap₂ (λ (x y : ℕ). x + y) s.counted e
            ∙ sym (ap length (rows_grow n adj a) ∙ length-append (rows_below n adj a) (row_edges (get_or adj a 0) a n));
        bounded = omega (arith, s.few, s.bounded, e, row_few (get_or adj a 0) a n l);
      })

  pub count_all : {total a : ℕ} → RowsCounted n adj total a → n ≤ a → total ≡ length (listed_edges n adj)
  count_all {total} {a} s l =
      s.counted ∙ ap (λ (k : ℕ). length (rows_below n adj k)) (le_antisymm s.inside l) ∙ ap length (all_rows n adj ∙ sym (listed_few n adj s.few))

-- ---- a row, written

-- the edges from a to vertices below b, written over start from place at on
pub record RowPut (word a n : ℕ) (start : List ℕ) (at : ℕ) (bytes : List ℕ) (to b : ℕ) : Type 0 where
  pub few : n ≤ 64
  pub later : a < b
  pub inside : b ≤ n
  pub room : at + 2 * length (row_edges word a n) ≤ length start
  pub held : Written start at (edge_bytes (row_edges word a b)) bytes to

-- two bytes, one behind the other
two_bytes : (xs : List ℕ) (at a b : ℕ) → at + 2 ≤ length xs → set (set xs at a) (at + 1) b ≡ written xs at (a ∷ b ∷ [])
two_bytes xs at a b h =
    ap (λ (ys : List ℕ). set ys (at + 1) b) (written_byte xs at a (omega arith))
    ∙ written_byte (written xs at (a ∷ [])) (at + 1) b (omega (arith, written_length xs at (a ∷ []) (omega arith)))
    ∙ written_more xs at (a ∷ []) (b ∷ []) (omega arith)

module _ {word a n : ℕ} {start : List ℕ} {at : ℕ} where
  pub row_start : n ≤ 64 → a < n → at + 2 * length (row_edges word a n) ≤ length start → RowPut word a n start at start at (a + 1)
  unfolding edge_bytes flat_map
  row_start few l room =
      rw (add-one a)
      (record {
        few = few;
        later = omega arith;
        inside = l;
        room = room;
        held = rw (row_none word a (suc a) (le_refl (suc a))) (written_none start at);
      })

  module _ {bytes : List ℕ} {to b : ℕ} (r : RowPut word a n start at bytes to b) where
    -- how far the buffer is filled
    row_place : to ≡ at + 2 * length (row_edges word a b)
    row_place = omega (arith, r.held.place, edge_bytes_length (row_edges word a b))

    to_inside : to ≤ length start
    to_inside = omega (arith, r.room, row_place, grown (row_edges word a) (last_edge word a) (row_grows word a) b n r.inside)

    pub row_size : length bytes ≡ length start
    row_size = written_size r.held to_inside

    module _ (l : b < n) {t : Bool} (e : t ≡ eqb (bit word b) 1) where
      -- b is not joined to a
      pub row_skip : t ≡ false → RowPut word a n start at bytes to (b + 1)
      row_skip f =
          rw (add-one b)
          (record {
            few = r.few;
            later = omega (arith, r.later);
            inside = l;
            room = r.room;
            held = rw (row_next word a b r.later e, f, append-nil (row_edges word a b)) r.held;
          })

      module _ (f : t ≡ true) where
        one_more : row_edges word a (suc b) ≡ row_edges word a b ++ (edge a b ∷ [])
        one_more = row_next word a b r.later e ∙ rw f

        -- there is room for the edge to b
        pub row_room : to + 2 ≤ length bytes
        row_room =
            let longer = grown (row_edges word a) (last_edge word a) (row_grows word a) (suc b) n l in
            let more_by_one = ap length one_more ∙ length-append (row_edges word a b) (edge a b ∷ []) in
            omega (arith, row_size, r.room, row_place, longer, more_by_one)

        -- and it is written
        pub row_put : RowPut word a n start at (set (set bytes to a) (to + 1) b) (to + 2) (b + 1)
        unfolding edge_bytes flat_map
        row_put =
            rw (add-one b)
            (record {
              few = r.few;
              later = omega (arith, r.later);
              inside = l;
              room = r.room;
              held =
                  rw (one_more, edge_bytes_append (row_edges word a b) (edge a b ∷ []))
                  (written_step r.held (a ∷ b ∷ []) to_inside (two_bytes bytes to a b row_room) refl);
            })

    pub row_end : n ≤ b → Written start at (edge_bytes (row_edges word a n)) bytes to
    row_end h = rw (← (le_antisymm r.inside h)) r.held

-- ---- all rows, written

-- the rows of the vertices below a, written over start from place at on
pub record RowsPut (n : ℕ) (adj start : List ℕ) (at : ℕ) (bytes : List ℕ) (to a : ℕ) : Type 0 where
  pub few : n ≤ 64
  pub inside : a ≤ n
  pub room : at + 2 * length (edges n adj) ≤ length start
  pub held : Written start at (edge_bytes (rows_below n adj a)) bytes to

module _ {n : ℕ} {adj start : List ℕ} {at : ℕ} where
  pub rows_start : n ≤ 64 → at + 2 * length (edges n adj) ≤ length start → RowsPut n adj start at start at 0
  unfolding rows_below upto flat_map edge_bytes
  rows_start few room = record { few = few; inside = omega arith; room = room; held = written_none start at }

  module _ {bytes : List ℕ} {to a : ℕ} (r : RowsPut n adj start at bytes to a) where
    rows_place : to ≡ at + 2 * length (rows_below n adj a)
    rows_place = omega (arith, r.held.place, edge_bytes_length (rows_below n adj a))

    rows_longer : (b : ℕ) → b ≤ n → length (rows_below n adj b) ≤ length (edges n adj)
    rows_longer b h =
        subst (λ (k : ℕ). length (rows_below n adj b) ≤ k) (ap length (all_rows n adj))
        (grown (rows_below n adj) (λ u. row_edges (get_or adj u 0) u n) (rows_grow n adj) b n h)

    rows_inside : to ≤ length start
    rows_inside = omega (arith, r.room, rows_place, rows_longer a r.inside)

    pub rows_size : length bytes ≡ length start
    rows_size = written_size r.held rows_inside

    -- there is room for the row of a
    pub rows_room : a < n → to + 2 * length (row_edges (get_or adj a 0) a n) ≤ length bytes
    rows_room l =
        let more_by_row = ap length (rows_grow n adj a) ∙ length-append (rows_below n adj a) (row_edges (get_or adj a 0) a n) in
        omega (arith, rows_size, r.room, rows_place, rows_longer (suc a) l, more_by_row)

    pub rows_next : a < n → {next : List ℕ} {end : ℕ} → Written bytes to (edge_bytes (row_edges (get_or adj a 0) a n)) next end
        → RowsPut n adj start at next end (a + 1)
    rows_next l w =
        rw (add-one a)
        (record {
          few = r.few;
          inside = l;
          room = r.room;
          held =
              rw (rows_grow n adj a, edge_bytes_append (rows_below n adj a) (row_edges (get_or adj a 0) a n))
              (written_step r.held (edge_bytes (row_edges (get_or adj a 0) a n)) rows_inside w.held w.place);
        })

    pub rows_end : n ≤ a → Written start at (edge_bytes (edges n adj)) bytes to
    rows_end h =
        let all : rows_below n adj a ≡ edges n adj = ap (rows_below n adj) (le_antisymm r.inside h) ∙ all_rows n adj in
        rw (← all) r.held
