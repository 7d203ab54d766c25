-- The loops over the chords: the numbers of the rows so far, and of the places so far in a row.
use Rattle.std.specs.Prelude.{◌≡◌, ℕ, suc, ◌+◌, ◌-◌, ◌*◌, ◌%◌, ◌^◌, ◌<◌, ◌≤◌, List, ◌++◌, length, take, drop, replicate, slice_index, slice_index_or, slice_set, refl}
use Rattle.std.proofs.Common.{lt_of_le_of_lt, lt_of_lt_of_le, mul-le-mul, mod-eq_of_lt, add-one, sym, ap₂, ◌∙◌, lit<, take-append-drop, length-append, length-set, drop-drop, get_or-set_same, get_or-set_other}
use native.Mathlib.Omega.{arith}
use Rattle.std.proofs.Math.Path.{ap}
use Rattle.std.proofs.Math.ListN.{length-take, length-drop}
use Rattle.std.proofs.lemmas.List.{length-replicate, get_or-replicate}
use Rattle.model.specs.Lists.{sum_over}
use Rattle.laws.specs.Sums.Indicators.{less, same, more, order as which}
use Rattle.laws.specs.Sums.Lists.{sum_over_ext, sum_over_append, sum_over_last, sum_over_split}
use Rattle.laws.specs.Sums.Wrapping.{exact_less}
use Rattle.laws.specs.Orders.Permutations.{at, Permutation, at_lt, from_place}
use Rattle.laws.specs.Crossings.Masks.{vertex_at}
use Rattle.laws.specs.Crossings.Chords.{joining, inside, beyond, chord_crossings, inside_below, beyond_below, inside_none, inside_next}
use Rattle.laws.specs.Crossings.Chords.{chord_closed, chord_opened}
use Rattle.laws.specs.Tables.Rows.{table_weight, RowsOf, AddedRow}
use Rattle.laws.specs.Tables.Drawn.{Weighted, weighted_vertex, weighted_row, weighted_towards, weighted_joining}
use Rattle.chords.specs.declared.Chord.{Chord}

-- the number of each chord, places i < k at entry i * 64 + k, and 0 at all others
pub record ChordsOf (n : ℕ) (order ws chords : List ℕ) : Type 0 where
  pub size : length chords ≡ 4096
  pub number : (i k : ℕ) → i < k → k < n → slice_index chords (i * 64 + k) ≡ chord_crossings (table_weight ws) (take n order) i k
  pub others : (i k : ℕ) → i < 64 → k < 64 → (i < k → k < n → ⊥) → slice_index chords (i * 64 + k) ≡ 0

-- ---- the next chord

-- x is what it crosses, and y what leaves from its end: the weight of the vertex there, without that of the edges to its start and to between its places
pub record NextChord (outgoing ending row start : ℕ) (next : Chord) : Type 0 where
  pub exact : (x y : ℕ) → outgoing ≡ x + ending → row ≡ y + start + ending → x + y < 2 ^ 32 → (next.crossed ≡ x) × (next.outgoing ≡ x + y)

-- differences and a sum that wrap, where they need not
pub next_exact : {outgoing row crossed others leaving sum : ℕ} (ending start : ℕ) → crossed < 2 ^ 32 → others < 2 ^ 32 → leaving < 2 ^ 32
    → outgoing < 2 ^ 32 → row < 2 ^ 32
    → (crossed + ending) % 2 ^ 32 ≡ outgoing → (others + ending) % 2 ^ 32 ≡ row → (leaving + start) % 2 ^ 32 ≡ others → sum ≡ (crossed + leaving) % 2 ^ 32
    → (x y : ℕ) → outgoing ≡ x + ending → row ≡ y + start + ending → x + y < 2 ^ 32 → (crossed ≡ x) × (sum ≡ x + y)
next_exact ending start hc ho hl a b c d e f x y p q m =
    let here = exact_less ending x hc a c p in
    let left = exact_less start y hl ho e (exact_less ending (y + start) ho b d q) in
    (here, f ∙ ap (λ (k : ℕ). k % 2 ^ 32) (ap₂ (λ (a b : ℕ). a + b) here left) ∙ mod-eq_of_lt m)

-- ---- one row

-- the chords from place i are numbered, and all other entries are as they were
pub record RowOf (n : ℕ) (order ws : List ℕ) (i : ℕ) (before after : List ℕ) : Type 0 where
  pub size : length after ≡ length before
  pub kept : (j k : ℕ) → k < 64 → (j ≡ i → i < k → k < n → ⊥) → slice_index after (j * 64 + k) ≡ slice_index before (j * 64 + k)
  pub number : Weighted n order ws → (k : ℕ) → i < k → k < n → slice_index after (i * 64 + k) ≡ chord_crossings (table_weight ws) (take n order) i k

-- when place k is next: the weight of those between i and k towards each, and that of all edges from between to before i, to k and behind it
pub record ChordAt (n : ℕ) (order ws : List ℕ) (i k : ℕ) (passed : List ℕ) (outgoing : ℕ) : Type 0 where
  pub passed_is : (y : ℕ) → y < 64 → slice_index passed y ≡ sum_over (λ a. table_weight ws a y) (inside (take n order) i k)
  pub outgoing_is : outgoing ≡ joining (table_weight ws) (inside (take n order) i k) (take i (take n order) ++ drop k (take n order))

-- an order is what stands beyond places i and k, between them, and at them
module _ {n : ℕ} {o : List ℕ} (perm : Permutation n o) (f : ℕ → ℕ) (i k : ℕ) (ik : i < k) (kn : k < n) where
  behind_start : sum_over f (drop (suc i) o) ≡ sum_over f (inside o i k) + (f (at o k) + sum_over f (drop (suc k) o))
  unfolding inside sum_over
  behind_start =
      let there : suc i + (k - suc i) ≡ k = omega arith in
      ap (sum_over f) (sym (take-append-drop (k - suc i) (drop (suc i) o)))
      ∙ sum_over_append f (inside o i k) (drop (k - suc i) (drop (suc i) o))
      ∙ ap (λ (xs : List ℕ). sum_over f (inside o i k) + sum_over f xs)
      (drop-drop (k - suc i) (suc i) o ∙ ap (λ (m : ℕ). drop m o) there ∙ from_place perm k kn)

  order_parts : sum_over f o ≡ sum_over f (beyond o i k) + f (at o i) + (sum_over f (inside o i k) + f (at o k))
  order_parts =
      omega (
        arith,
        sum_over_split f o i (omega (arith, perm.size)),
        behind_start,
        sum_over_append f (take i o) (drop (suc k) o),
      )

module _ {n : ℕ} {order ws : List ℕ} (d : Weighted n order ws) (i : ℕ) where
  abbrev o : List ℕ
  o = take n order

  abbrev W : ℕ → ℕ → ℕ
  W = table_weight ws

  abbrev perm : Permutation n (take n order)
  perm = d.permutation

  few_inside : (k : ℕ) → length (inside o i k) ≤ 64
  unfolding inside
  few_inside k = omega (arith, d.small, perm.size, length-take (k - suc i) (drop (suc i) o), length-drop (suc i) o)

  -- a chord crosses little
  outgoing_few : (k : ℕ) → joining W (inside o i (suc k)) (beyond o i k) < 2 ^ 32
  outgoing_few k =
      let few_beyond : 255 * length (beyond o i k) ≤ 255 * 128 =
      omega (arith, d.small, perm.size, length-append (take i o) (drop (suc k) o), length-take i o, length-drop (suc k) o) in
      lt_of_le_of_lt (weighted_joining d (inside_below perm i (suc k)) (beyond_below perm i k))
      (lt_of_le_of_lt (mul-le-mul few_beyond (few_inside (suc k))) (lit< tt))

  chord_start : ChordAt n order ws i (suc i) (replicate 64 0) 0
  unfolding joining sum_over
  chord_start =
      record { passed_is = λ y l. rw (inside_none perm i) (get_or-replicate 64 y 0 0 l); outgoing_is = rw (inside_none perm i) }

  module _ {k : ℕ} {passed : List ℕ} {outgoing : ℕ} (c : ChordAt n order ws i k passed outgoing) (ik : i < k) (kn : k < n)
      {v : ℕ} (at-k : v ≡ vertex_at order k) {first : ℕ} (at_i : first ≡ vertex_at order i)
      {rows : List ℕ} (all : RowsOf ws rows) {start : ℕ} (towards : start ≡ table_weight ws (v % 64) (first % 64))
      {next : Chord} (p : NextChord outgoing (slice_index passed v) (slice_index rows v) start next) where
    here : v ≡ at o k
    here = at-k ∙ weighted_vertex d k kn

    small : at o k < 64
    small = lt_of_lt_of_le (at_lt perm k kn) d.small

    -- the row of v
    same_row : v % 64 ≡ at o k
    same_row = ap (λ (x : ℕ). x % 64) here ∙ mod-eq_of_lt small

    start_is : start ≡ W (at o k) (at o i)
    start_is =
        towards
        ∙ ap₂ W same_row
        (ap (λ (x : ℕ). x % 64) (at_i ∙ weighted_vertex d i (omega arith))
        ∙ mod-eq_of_lt (lt_of_lt_of_le (at_lt perm i (omega arith)) d.small))

    -- the edges that end at k
    ending : slice_index_or passed v 0 ≡ sum_over (λ a. W a (at o k)) (inside o i k)
    ending = ap (λ (x : ℕ). slice_index passed x) here ∙ c.passed_is (at o k) small

    -- those that leave from there, with those towards i and between
    parted : slice_index_or rows v 0 ≡ sum_over (W (at o k)) (beyond o i k) + start + slice_index passed v
    parted =
        omega (
          arith,
          ap (λ (x : ℕ). slice_index rows x) here ∙ all.row_is (at o k) small ∙ weighted_row d (at o k) small ∙ order_parts perm (W (at o k)) i k ik kn,
          start_is,
          ending,
          sum_over_ext (W (at o k)) (λ a. W a (at o k)) (inside_below perm i k) (λ a l. d.symmetry.swap (at o k) a (at_lt perm k kn) l),
          d.symmetry.diagonal (at o k) (at_lt perm k kn),
        )

    onward : joining W (inside o i (suc k)) (beyond o i k) ≡ chord_crossings W o i k + sum_over (W (at o k)) (beyond o i k)
    onward = chord_opened perm i W k ik kn

    numbers : (next.crossed ≡ chord_crossings W o i k) × (next.outgoing ≡ chord_crossings W o i k + sum_over (W (at o k)) (beyond o i k))
    numbers =
        p.exact (chord_crossings W o i k) (sum_over (W (at o k)) (beyond o i k))
        (c.outgoing_is ∙ chord_closed perm i W k kn ∙ ap (λ (x : ℕ). chord_crossings W o i k + x) (sym ending))
        parted
        (rw (← onward) (outgoing_few k))

    pub crossed_is : next.crossed ≡ chord_crossings W o i k
    crossed_is = numbers.0

    pub chord_next : {grown : List ℕ} → AddedRow ws (v % 64) passed grown → ChordAt n order ws i (suc k) grown next.outgoing
    chord_next {grown} a =
        record {
          passed_is = λ y l.
              a.added y l
              ∙ ap₂ (λ (x u : ℕ). (x + W u y) % 65536) (c.passed_is y l) same_row
              ∙ mod-eq_of_lt (few y l)
              ∙ sym (ap (sum_over (λ u. W u y)) (inside_next perm i k ik kn) ∙ sum_over_last (at o k) (λ u. W u y) (inside o i k));
          outgoing_is = numbers.1 ∙ sym onward;
        }
      where
        few : (y : ℕ) → y < 64 → sum_over (λ u. W u y) (inside o i k) + W (at o k) y < 65536
        few y l = omega (arith, weighted_towards d y l (inside_below perm i k), few_inside k, d.light (at o k) y small l)

-- the chords from place i to those before k are numbered
pub record ChordsTo (n : ℕ) (order ws : List ℕ) (i : ℕ) (before chords passed : List ℕ) (outgoing k : ℕ) : Type 0 where
  pub few : n ≤ 64
  pub later : i < k
  pub within : k ≤ n
  pub size : length chords ≡ 4096
  pub passed_size : length passed ≡ 64
  pub kept : (j m : ℕ) → m < 64 → (j ≡ i → i < m → m < n → ⊥) → slice_index chords (j * 64 + m) ≡ slice_index before (j * 64 + m)
  pub present : Weighted n order ws → ChordAt n order ws i k passed outgoing
  pub number : Weighted n order ws → (j : ℕ) → i < j → j < k → slice_index chords (i * 64 + j) ≡ chord_crossings (table_weight ws) (take n order) i j

module _ {n : ℕ} {order ws : List ℕ} {i : ℕ} {before : List ℕ} where
  pub row_start : n ≤ 64 → i < n → length before ≡ 4096 → ChordsTo n order ws i before before (replicate 64 0) 0 (i + 1)
  row_start few h size =
      rw (add-one i)
      (record {
        few = few;
        later = omega arith;
        within = h;
        size = size;
        passed_size = length-replicate {A = ℕ} 64 0;
        kept = λ j m l other. refl;
        present = λ d. chord_start d i;
        number = λ d j l m. absurd (omega arith);
      })

  module _ {chords passed : List ℕ} {outgoing k : ℕ} (r : ChordsTo n order ws i before chords passed outgoing k) where
    pub row_next : k < n → {v first : ℕ} → v ≡ vertex_at order k → first ≡ vertex_at order i → {rows : List ℕ} → RowsOf ws rows
        → {start : ℕ} → start ≡ table_weight ws (v % 64) (first % 64) → {next : Chord} → NextChord outgoing (slice_index passed v) (slice_index rows v) start next
        → {grown : List ℕ} → AddedRow ws (v % 64) passed grown
        → ChordsTo n order ws i before (slice_set chords (i * 64 + k) next.crossed) grown next.outgoing (k + 1)
    row_next h e f all s {next} p a =
        rw (add-one k)
        (record {
          few = r.few;
          later = omega (arith, r.later);
          within = h;
          size = length-set chords (i * 64 + k) next.crossed ∙ r.size;
          passed_size = a.size;
          kept = λ j m l other.
              get_or-set_other chords (i * 64 + k) (j * 64 + m) next.crossed 0
              (λ q. other (omega (arith, r.few)) (omega (arith, r.few, r.later)) (omega (arith, r.few)))
              ∙ r.kept j m l other;
          present = λ d. chord_next d i (r.present d) r.later h e f all s p a;
          number = λ d j l m. elim (which j k) [ less b ↦ before_k d j l b | same q ↦ rw q (at_last d) | more b ↦ absurd (omega arith) ];
        })
      where
        at_last : Weighted n order ws → slice_index (slice_set chords (i * 64 + k) next.crossed) (i * 64 + k) ≡ chord_crossings (table_weight ws) (take n order) i k
        at_last d =
            get_or-set_same chords (i * 64 + k) next.crossed 0 (omega (arith, r.size, r.few, r.later))
            ∙ crossed_is d i (r.present d) r.later h e f all s p

        before_k : Weighted n order ws → (j : ℕ) → i < j → j < k
            → slice_index (slice_set chords (i * 64 + k) next.crossed) (i * 64 + j) ≡ chord_crossings (table_weight ws) (take n order) i j
        before_k d j l b = get_or-set_other chords (i * 64 + k) (i * 64 + j) next.crossed 0 (λ q. omega arith) ∙ r.number d j l b

    pub row_end : n ≤ k → length before ≡ 4096 → RowOf n order ws i before chords
    row_end h size = record { size = r.size ∙ sym size; kept = r.kept; number = λ d j l m. r.number d j l (omega (arith, r.within)) }

-- ---- all rows

-- the rows of the places before i
pub record ChordsUpTo (n : ℕ) (order ws chords : List ℕ) (i : ℕ) : Type 0 where
  pub few : n ≤ 64
  pub within : i ≤ n
  pub size : length chords ≡ 4096
  pub number : Weighted n order ws → (j k : ℕ) → j < i → j < k → k < n → slice_index chords (j * 64 + k) ≡ chord_crossings (table_weight ws) (take n order) j k
  pub others : (j k : ℕ) → j < 64 → k < 64 → (j < k → k < n → ⊥) → slice_index chords (j * 64 + k) ≡ 0

module _ {n : ℕ} {order ws : List ℕ} where
  pub rows_start : n ≤ 64 → ChordsUpTo n order ws (replicate 4096 0) 0
  rows_start few =
      record {
        few = few;
        within = omega arith;
        size = length-replicate {A = ℕ} 4096 0;
        number = λ d j k l. absurd (omega arith);
        others = λ j k l m none. get_or-replicate 4096 (j * 64 + k) 0 0 (omega arith);
      }

  module _ {chords : List ℕ} {i : ℕ} (r : ChordsUpTo n order ws chords i) where
    pub rows_next : i < n → {next : List ℕ} → RowOf n order ws i chords next → ChordsUpTo n order ws next (i + 1)
    rows_next h row =
        rw (add-one i)
        (record {
          few = r.few;
          within = h;
          size = row.size ∙ r.size;
          number = λ d j k l m b.
              elim (which j i) [
                | less q ↦ row.kept j k (omega (arith, r.few)) (λ e f g. omega arith) ∙ r.number d j k q m b
                | same q ↦ rw q (row.number d k (omega arith) b)
                | more q ↦ absurd (omega arith)
              ];
          others = λ j k l m none. row.kept j k m (λ e f g. none (omega arith) g) ∙ r.others j k l m none;
        })

    pub rows_end : n ≤ i → Weighted n order ws → ChordsOf n order ws chords
    rows_end h d = record { size = r.size; number = λ j k l m. r.number d j k (omega (arith, r.within)) l m; others = r.others }
