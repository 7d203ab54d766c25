-- A step of the code is a step of the definition, and as many as there are vertices with edges place them all.
use Prim.Native.Nat.{ℕ, suc, ◌+◌, ◌*◌, ◌%◌, ◌^◌, ◌≤◌, ◌<◌}
use Rattle.std.proofs.Common.{le_refl, mod-eq_of_lt, arith, ◌∙◌, length-append, lt-ltb, le-ltb}
use Rattle.std.specs.Prelude.{◌≡◌, Bool, length, ltb}
use Rattle.std.proofs.Math.Path.{refl, sym, ap, ap₂, subst}
use Rattle.std.proofs.Math.Bool.{cond}
use mathlib.Core.List.{List, [], ◌∷◌, ◌++◌}
use Rattle.model.specs.Edits.{with_bit}
use Rattle.model.specs.GreedyAppend.{Placing, waiting, has_edges, next_vertex, front_crossings, back_crossings}
use Rattle.model.specs.GreedyAppend.{alone, place_front, place_back, place_vertex, place_more, place_linked}
use Rattle.laws.specs.Sums.Bits.{set_lt}
use Rattle.laws.specs.Sums.Indicators.{less, same, more, order}
use Rattle.laws.specs.Sums.Pairs.{Symmetric}
use Rattle.laws.specs.Orders.Permutations.{occurrences_nil}
use Rattle.laws.specs.Tables.Rows.{table_weight, RowsOf, TakenRow}
use Rattle.laws.specs.Tables.Ends.{StillOpen, OpenOf, open_start, open_taken, open_front, open_back}
use Rattle.laws.specs.Append.Order.{Placed, placed_start, placed_front, placed_back, placed_count}
use Rattle.laws.specs.Append.Order.{Waiting, next_waiting}
use Rattle.append_line.specs.declared.Line.{Line}
use Rattle.append_line.specs.Lines.{entries, Centred, entries_length, alone_at, alone_centred, alone_entries, at_front, front_centred, front_entries, at_back}
use Rattle.append_line.specs.Lines.{back_centred, back_entries}
use Rattle.append_ends.specs.declared.Ends.{Ends}
use Rattle.append_ends.specs.Ends.{vertices, ends_of, most_at_end, ends_right}
use Rattle.append_choice.specs.Choices.{best_below}
use Rattle.append.specs.declared.steps.Partial.{Partial}
use Rattle.laws.specs.Append.Held.{Held, held_none, held_front, held_back}
use Rattle.append.specs.Masks.{Partly, Words}
use Rattle.append.specs.Choices.{next_found, next_none}

-- ---- what a step is

-- the words of n vertices, and their weights: equal both ways round, and 0 towards numbers that are no vertices
pub record Graph (n : ℕ) (adj ws : List ℕ) : Type 0 where
  pub words : Words n adj
  pub symmetry : Symmetric n (table_weight ws)
  pub blank : (u v : ℕ) → u < n → n ≤ v → v < 64 → table_weight ws u v ≡ 0

-- the list and the tally, as the definition has them
unfoldable pub placing_of : Partial → Placing
placing_of s = record { placed = entries s.line; tally = s.tally }

-- v at the end where it makes fewer crossings
unfoldable pub put_of : Partial → ℕ → ℕ → Ends → Partial
put_of s v next ends =
    cond (ltb ends.front ends.back)
    (record { line = at_front s.line v; placed = next; tally = s.tally + ends.front })
    (record { line = at_back s.line v; placed = next; tally = s.tally + ends.back })

-- with the crossings of the edges that it closes
unfoldable pub placed_of : List ℕ → List ℕ → Partial → ℕ → Partial
placed_of ws opens s v = put_of s v (with_bit s.placed v) (ends_of ws opens v (vertices s.line))

-- v is a vertex, and the tally has room for its crossings
pub record Fitting (s : Partial) (v : ℕ) : Type 0 where
  pub vertex : v < 64
  pub tally : s.tally ≤ most_at_end * 64

-- the crossings of a step are few
pub record Few (ends : Ends) : Type 0 where
  pub front : ends.front ≤ most_at_end
  pub back : ends.back ≤ most_at_end

-- some of n vertices are placed, with the weight of each one's open edges, and the tally has room for more
pub record Underway (n : ℕ) (ws : List ℕ) (s : Partial) (opens : List ℕ) : Type 0 where
  pub part : Partly n s.line s.placed
  pub open_edges : StillOpen n (table_weight ws) (entries s.line) opens
  pub size : length opens ≡ 64
  pub bounded : s.tally ≤ most_at_end * s.line.size

-- r is s with v placed
pub record Stepped (n : ℕ) (ws : List ℕ) (s : Partial) (v : ℕ) (opens : List ℕ) (r : Partial) : Type 0 where
  pub part : Partly n r.line r.placed
  pub open_edges : StillOpen n (table_weight ws) (entries r.line) opens
  pub size : r.line.size ≡ s.line.size + 1
  pub step : placing_of r ≡ place_vertex n (table_weight ws) (placing_of s) v

-- ---- one step

module _ {n : ℕ} {adj ws : List ℕ} {s : Partial} {opens : List ℕ} (g : Graph n adj ws) (u : Underway n ws s opens)
    {p : ℕ → Bool} {v : ℕ} (q : Waiting n p (entries s.line) v) where
  abbrev W : ℕ → ℕ → ℕ
  W = table_weight ws

  abbrev next : ℕ
  next = with_bit s.placed v

  below : v < 64
  below = omega (arith, q.below, g.words.small)

  at_front_lem : Placed n (v ∷ entries s.line)
  at_front_lem = placed_front u.part.order q.below q.free

  pub step_room : s.line.size < n
  step_room = omega (arith, entries_length u.part.centred, placed_count at_front_lem)

  room : s.line.size < 64
  room = omega (arith, step_room, g.words.small)

  step_fits : Fitting s v
  step_fits = record { vertex = below; tally = omega (arith, u.bounded, room) }

  fits : next < 2 ^ 64
  fits = set_lt 64 s.placed v u.part.held.fits below

  -- a line with v in it
  module _ {line : Line} (c : Centred line) {ys : List ℕ} (e : entries line ≡ ys) (one_more : length ys ≡ suc (length (entries s.line))) where
    grown_size : line.size ≡ s.line.size + 1
    grown_size = omega (arith, entries_length c, entries_length u.part.centred, ap length e)

    grown : Placed n ys → Held next ys → Partly n line next
    grown o h = record { centred = c; order = subst (Placed n) (sym e) o; held = subst (Held next) (sym e) h }

  -- the row of v is taken away
  module _ {left : List ℕ} (t : TakenRow ws (v % 64) opens left) where
    left_open : OpenOf n W (entries s.line) v left
    left_open =
        open_taken g.words.small (λ y l. g.symmetry.swap y v l q.below) q.below q.free u.open_edges
        (subst (λ (k : ℕ). TakenRow ws k opens left) (mod-eq_of_lt below) t)

    abbrev ends : Ends
    ends = ends_of ws left v (vertices s.line)

    ends_are : ends ≡ record { front = front_crossings n W (entries s.line) v; back = back_crossings n W (entries s.line) v }
    ends_are = ends_right ws g.words.small u.part.centred u.part.order.below left_open

    front_right : ends.front ≡ front_crossings n W (entries s.line) v
    front_right = ap (λ (e : Ends). e.front) ends_are

    back_right : ends.back ≡ back_crossings n W (entries s.line) v
    back_right = ap (λ (e : Ends). e.back) ends_are

    step_front : ends.front < ends.back
        → Stepped n ws s v left (record { line = at_front s.line v; placed = next; tally = s.tally + ends.front })
    unfolding placing_of place_vertex place_front
    step_front l =
        record {
          part = grown centred held refl at_front_lem (held_front v u.part.held q.free fits refl);
          open_edges = subst (λ (xs : List ℕ). StillOpen n W xs left) (sym held) (open_front left_open);
          size = grown_size centred held refl;
          step =
              ap₂ (λ (xs : List ℕ) (k : ℕ). record { placed = xs; tally = s.tally + k }) held front_right
              ∙ sym (ap (λ (b : Bool). cond b (place_front n W (placing_of s) v) (place_back n W (placing_of s) v))
              (lt-ltb _ _ (rw (front_right, back_right) at l)));
        }
      where
        centred : Centred (at_front s.line v)
        centred = front_centred u.part.centred room below

        held : entries (at_front s.line v) ≡ v ∷ entries s.line
        held = front_entries u.part.centred room below

    step_back : ends.back ≤ ends.front
        → Stepped n ws s v left (record { line = at_back s.line v; placed = next; tally = s.tally + ends.back })
    unfolding placing_of place_vertex place_back
    step_back l =
        record {
          part =
              grown centred held longer (placed_back u.part.order q.below q.free)
              (held_back v u.part.held q.free fits refl);
          open_edges = subst (λ (xs : List ℕ). StillOpen n W xs left) (sym held) (open_back left_open);
          size = grown_size centred held longer;
          step =
              ap₂ (λ (xs : List ℕ) (k : ℕ). record { placed = xs; tally = s.tally + k }) held back_right
              ∙ sym (ap (λ (b : Bool). cond b (place_front n W (placing_of s) v) (place_back n W (placing_of s) v))
              (le-ltb _ _ (rw (front_right, back_right) at l)));
        }
      where
        centred : Centred (at_back s.line v)
        centred = back_centred u.part.centred room below

        held : entries (at_back s.line v) ≡ entries s.line ++ (v ∷ [])
        held = back_entries u.part.centred room below

        longer : length (entries s.line ++ (v ∷ [])) ≡ suc (length (entries s.line))
        longer = length-append (entries s.line) (v ∷ []) ∙ omega arith

    pub step_right : Stepped n ws s v left (placed_of ws left s v)
    unfolding placed_of put_of
    step_right =
        elim (order ends.front ends.back) [
          | less l ↦ rw (lt-ltb ends.front ends.back l) (step_front l)
          | same e ↦ rw (le-ltb ends.front ends.back (omega arith)) (step_back (omega arith))
          | more l ↦ rw (le-ltb ends.front ends.back (omega arith)) (step_back (omega arith))
        ]

-- ---- all steps

-- those with edges that are not placed yet
abbrev pub to_come : ℕ → List ℕ → Partial → List ℕ
to_come n adj s = waiting n (has_edges adj) (entries s.line)

-- the first and all with edges are placed
pub record LinkedPlaced (n : ℕ) (adj ws : List ℕ) (first : ℕ) (r : Partial) : Type 0 where
  pub part : Partly n r.line r.placed
  pub none_left : length (to_come n adj r) ≡ 0
  pub placing : placing_of r ≡ place_linked n adj (table_weight ws) first

-- some are placed, and the rest is still to come
pub record PlacedUpTo (n : ℕ) (adj ws : List ℕ) (first : ℕ) (s : Partial) (opens : List ℕ) : Type 0 where
  pub underway : Underway n ws s opens
  pub rest : place_more n adj (table_weight ws) (has_edges adj) (length (to_come n adj s)) (placing_of s) ≡ place_linked n adj (table_weight ws) first

module _ {n : ℕ} {adj ws : List ℕ} (g : Graph n adj ws) {first : ℕ} where
  -- the row of the first is taken away from the weights of all rows
  first_open : {rows opens : List ℕ} → first < n → RowsOf ws rows → TakenRow ws (first % 64) rows opens
      → StillOpen n (table_weight ws) (first ∷ []) opens
  first_open {rows} {opens} h rows_are t =
      let vertex : first < 64 = omega (arith, g.words.small) in
      open_front
      (open_taken g.words.small (λ y l. g.symmetry.swap y first l h) h (occurrences_nil first)
      (open_start g.words.small g.blank rows_are)
      (subst (λ (k : ℕ). TakenRow ws k rows opens) (mod-eq_of_lt vertex) t))

  pub place_start : {line : Line} {m : ℕ} {rows opens : List ℕ} → first < n → line ≡ alone_at first → m < 2 ^ 64 → m ≡ with_bit 0 first
      → RowsOf ws rows → TakenRow ws (first % 64) rows opens
      → PlacedUpTo n adj ws first (record { line = line; placed = m; tally = 0 }) opens
  unfolding place_linked placing_of alone
  place_start {line} {m} {rows} {opens} h a l set rows_are t =
      let vertex : first < 64 = omega (arith, g.words.small) in
      let e : entries line ≡ first ∷ [] = ap entries a ∙ alone_entries first vertex in
      record {
        underway =
            record {
              part =
                  record {
                    centred = subst Centred (sym a) (alone_centred first);
                    order = subst (Placed n) (sym e) (placed_start h);
                    held = subst (Held _) (sym e) (held_front first held_none (occurrences_nil first) l set);
                  };
              open_edges = subst (λ (xs : List ℕ). StillOpen n (table_weight ws) xs opens) (sym e) (first_open h rows_are t);
              size = t.size;
              bounded = omega arith;
            };
        rest =
            ap
            (λ (xs : List ℕ).
            place_more n adj (table_weight ws) (has_edges adj) (length (waiting n (has_edges adj) xs)) (record { placed = xs; tally = 0 }))
            e;
      }

  module _ {s : Partial} {opens : List ℕ} (p : PlacedUpTo n adj ws first s opens) where
    module _ {v : ℕ} (found : v ≡ (best_below n adj s.placed n).vertex) (h : v < n) where
      pub next_is : (0 < length (to_come n adj s)) × (v ≡ next_vertex n adj (entries s.line) (to_come n adj s))
      next_is = next_found g.words p.underway.part.order p.underway.part.held found h

      pub next_waits : Waiting n (has_edges adj) (entries s.line) v
      next_waits = rw next_is.1 (next_waiting n (has_edges adj) (entries s.line) adj next_is.0)

      pub next_fits : Fitting s v
      next_fits = step_fits g p.underway next_waits

    pub place_end : n ≡ (best_below n adj s.placed n).vertex → LinkedPlaced n adj ws first s
    unfolding place_more
    place_end found =
        let none = next_none g.words p.underway.part.order p.underway.part.held found (le_refl n) in
        record {
          part = p.underway.part;
          none_left = none;
          placing = ap (λ (k : ℕ). place_more n adj (table_weight ws) (has_edges adj) k (placing_of s)) (sym none) ∙ p.rest;
        }
