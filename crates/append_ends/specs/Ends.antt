-- The crossings that a vertex makes at either end of a line's list, by its weights and by the weight of each vertex's open edges.
use Rattle.std.specs.Prelude.{ℕ, ◌+◌, ◌*◌, ◌%◌, ◌≤◌, ◌<◌, ◌≡◌, refl, List, ◌∷◌, map, length, get_or, take, drop}
use Rattle.std.proofs.Common.{mod-eq_of_lt, lt_of_lt_of_le, arith, ap₂, ◌∙◌, get_or-take}
use Rattle.std.proofs.Math.Path.{sym, ap}
use Rattle.std.proofs.Math.ListN.{length-map, length-drop, get_or-map}
use Rattle.std.proofs.Math.Seq.{length-take-le, get_or-drop}
use Rattle.model.specs.Lists.{sum_pairs}
use Rattle.model.specs.GreedyAppend.{front_crossings, back_crossings}
use Rattle.laws.specs.Sums.Lists.{All, none, also, all_mono}
use Rattle.laws.specs.Tables.Rows.{table_weight}
use Rattle.laws.specs.Tables.Ends.{OpenOf, front_open, back_open}
use Rattle.append_line.specs.declared.Line.{Line}
use Rattle.append_line.specs.Lines.{entries, placed_in, Centred}
use Rattle.append_ends.specs.Placed.{as_vertices}
use Rattle.append_ends.specs.declared.Ends.{Ends}

-- ---- the list of any line

-- size places from first on, each as a vertex
unfoldable pub vertices_from : List ℕ → ℕ → ℕ → List ℕ
vertices_from places first size = map (λ p. p % 64) (take size (drop first places))

abbrev pub vertices : Line → List ℕ
vertices l = vertices_from l.places (l.first % 65) (l.size % 65)

module _ (places : List ℕ) (first size : ℕ) where
  pub vertices_length : first + size ≤ length places → length (vertices_from places first size) ≡ size
  unfolding vertices_from
  vertices_length h =
      length-map (take size (drop first places)) (λ p. p % 64)
      ∙ length-take-le size (drop first places) (omega (arith, length-drop first places))

  pub vertex_at_lem : (i : ℕ) → i < size → get_or places (first + i) 0 % 64 ≡ get_or (vertices_from places first size) i 0
  unfolding vertices_from
  vertex_at_lem i h =
      sym (get_or-map (λ p. p % 64) (take size (drop first places)) i 0
      ∙ ap (λ (x : ℕ). x % 64) (get_or-take size (drop first places) i 0 h ∙ get_or-drop first places i 0))

all_vertices : {xs : List ℕ} → All (λ x. x < 64) xs → map (λ p. p % 64) xs ≡ xs
all_vertices none = refl
all_vertices (also l ls) = ap₂ (λ (x : ℕ) (xs : List ℕ). x ∷ xs) (mod-eq_of_lt l) (all_vertices ls)

-- for vertices around the middle it is the list that the line has grown to
pub vertices_entries : {l : Line} → Centred l → All (λ x. x < 64) (entries l) → vertices l ≡ entries l
unfolding vertices_from entries
vertices_entries {l} c below =
    let first : l.first % 65 ≡ l.first = omega (arith, c.left) in
    let size : l.size % 65 ≡ l.size = omega (arith, c.few) in
    rw (first, size) (all_vertices below)

-- they are the bytes that the line lends, as vertices
pub placed_vertices : (l : Line) → as_vertices (placed_in l) ≡ vertices l
unfolding as_vertices placed_in vertices_from
placed_vertices l = refl

-- ---- the crossings

-- the open edges of q and the closing edge of p: at the front q stands before p, at the back p before q
unfoldable pub ends_of : List ℕ → List ℕ → ℕ → List ℕ → Ends
ends_of ws opens v xs =
    record {
      front = sum_pairs (λ q p. table_weight ws v p * get_or opens q 0) xs;
      back = sum_pairs (λ p q. table_weight ws v p * get_or opens q 0) xs;
    }

-- of 64 vertices each a byte times 64 numbers of 16 bits
abbrev pub most_at_end : ℕ
most_at_end = 68449996800

-- in greedy append they are those of the definition
pub ends_right : (ws : List ℕ) {n v : ℕ} {opens : List ℕ} {l : Line} → n ≤ 64 → Centred l → All (λ x. x < n) (entries l)
    → OpenOf n (table_weight ws) (entries l) v opens
    → ends_of ws opens v (vertices l)
    ≡ record { front = front_crossings n (table_weight ws) (entries l) v; back = back_crossings n (table_weight ws) (entries l) v }
unfolding ends_of
ends_right ws {n} {v} {opens} {l} small c below o =
    ap (ends_of ws opens v) (vertices_entries c (all_mono below (λ x h. lt_of_lt_of_le h small)))
    ∙ ap₂ (λ (f b : ℕ). record { front = f; back = b }) (front_open below o) (back_open below o)
