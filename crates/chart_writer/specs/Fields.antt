-- A field written: its header, and the body behind it. A chart written: three fields, one behind the other, and the weights.
use Rattle.std.specs.Prelude.{Option, Some, None, ℕ, ◌+◌, ◌*◌, ◌/◌, ◌%◌, ◌≤◌, ◌<◌, ◌≡◌, refl}
use Rattle.std.proofs.Common.{Bor, mod-eq_of_lt, arith, ◌∙◌}
use Rattle.std.proofs.Math.Path.{ap}
use mathlib.Core.List.{List, [], ◌∷◌, ◌++◌, map, append-nil}
use Rattle.std.proofs.Math.ListN.{length, length-map}
use Rattle.model.specs.declared.Edge.{Edge}
use Rattle.model.specs.Crossings.{edges, edge_weight}
use Rattle.model.specs.Layouts.{table_weight}
use Rattle.model.specs.WrittenCharts.{field_bytes, edge_bytes}
use Rattle.laws.specs.Crossings.Bound.{edges_few}
use Rattle.laws.specs.Buffers.Writing.{Written, written_none, written_size}
use Rattle.laws.specs.Buffers.EdgeBytes.{edge_bytes_length}
use Rattle.laws.specs.Buffers.Charts.{chart_with, chart_length}
use Rattle.text.specs.Parts.{behind}
use Rattle.text.specs.Room.{Put, put_behind}
use Rattle.edge_list.specs.Rows.{listed_edges, listed_few}

-- ---- a field

-- the header of a body of size bytes
abbrev pub header : ℕ → ℕ → List ℕ
header tag size = tag ∷ size / 256 % 256 ∷ size % 256 ∷ []

-- with the body behind it, it is the field
header_body : (tag : ℕ) (body : List ℕ) {size : ℕ} → size ≡ length body → size < 65536 → header tag size ++ body ≡ field_bytes tag body
unfolding field_bytes
header_body tag body {size} e h =
    let high : size / 256 % 256 ≡ size / 256 = mod-eq_of_lt (omega arith) in
    ap (λ (k : ℕ). tag ∷ k ∷ size % 256 ∷ body) high ∙ ap (λ (k : ℕ). tag ∷ k / 256 ∷ k % 256 ∷ body) e

module _ {start : List ℕ} {at tag size : ℕ} {bytes : List ℕ} {to : ℕ} (h : Put 3 start at (header tag size) bytes to) where
  -- a body behind the header
  pub field_put : {room : ℕ} {body next : List ℕ} {end : ℕ} → size ≡ length body → size < 65536 → at + 3 + room ≤ length start
      → Put room bytes to body next end → Written start at (field_bytes tag body) next end
  field_put {room} {body} e small fits p =
      let headed = h.fits (omega arith) in
      rw (← (header_body tag body e small)) (put_behind headed p (omega (arith, headed.place)))

  -- the edges behind it, counted before
  pub links_put : (n : ℕ) (adj : List ℕ) {count : ℕ} {next : List ℕ} {end : ℕ} → n ≤ 64 → at + 3 + 2 * length (edges n adj) ≤ length start
      → count ≡ length (listed_edges n adj) → size ≡ 2 * count
      → (let es = listed_edges n adj in Put (2 * length es) bytes to (edge_bytes es) next end)
      → Written start at (field_bytes tag (edge_bytes (edges n adj))) next end
  links_put n adj few fits e twice p =
      let counted = e ∙ ap length (listed_few n adj few) in
      let bytes_long = edge_bytes_length (edges n adj) in
      field_put (omega (arith, twice, counted, bytes_long)) (omega (arith, twice, counted, edges_few n adj few)) fits (rw (listed_few n adj few) at p)

-- ---- a chart

-- the last field behind the others
chart_last : (n : ℕ) (es : List Edge) (o last : List ℕ) → chart_with n es o [] ++ last ≡ chart_with n es o last
unfolding chart_with
chart_last n es o last = rw append-nil

-- the table that is lent, or none
unfoldable pub lent : Option (Bor (List ℕ)) → Option (List ℕ)
lent None = None
lent (Some ws) = Some ws.now

-- the bytes of field 57: none where there are no weights to write
unfoldable pub weight_bytes : Option (List ℕ) → List Edge → List ℕ
weight_bytes None es = []
weight_bytes (Some ws) es = field_bytes 0x57 (map (edge_weight (table_weight ws)) es)

-- how many they are
abbrev pub weight_room : Option (List ℕ) → ℕ → ℕ
weight_room None edges = 0
weight_room (Some ws) edges = 3 + edges

pub room_small : (weights : Option (List ℕ)) (edges : ℕ) → weight_room weights edges ≤ 3 + edges
room_small None edges = omega arith
room_small (Some ws) edges = omega arith

pub weight_bytes_length : (weights : Option (List ℕ)) (es : List Edge) → length (weight_bytes weights es) ≡ weight_room weights (length es)
unfolding weight_bytes field_bytes
weight_bytes_length None es = refl
weight_bytes_length (Some ws) es = omega (arith, length-map es (edge_weight (table_weight ws)))

module _ (n : ℕ) (adj : List ℕ) {start : List ℕ} {at : ℕ} {weights : Option (List ℕ)} where
  pub weights_none : weights ≡ None → Written start at (weight_bytes weights (edges n adj)) start at
  unfolding weight_bytes
  weights_none e = rw e (written_none start at)

  -- the weights behind the header of field 57
  pub weights_put : {ws : List ℕ} → weights ≡ Some ws → n ≤ 64 → at + weight_room weights (length (edges n adj)) ≤ length start
      → {bytes next : List ℕ} {to count end : ℕ} → count ≡ length (listed_edges n adj) → Put 3 start at (header 0x57 count) bytes to
      → (let es = listed_edges n adj in Put (length es) bytes to (map (edge_weight (table_weight ws)) es) next end)
      → Written start at (weight_bytes weights (edges n adj)) next end
  unfolding weight_bytes
  weights_put {ws} some few room c h p =
      let counted = c ∙ ap length (listed_few n adj few) in
      let bytes_long = length-map (edges n adj) (edge_weight (table_weight ws)) in
      let fits = rw some at room in
      rw some
      (field_put h (omega (arith, counted, bytes_long)) (omega (arith, counted, edges_few n adj few)) (omega (arith, fits))
      (rw (listed_few n adj few) at p))

-- n vertices, and room for the first three fields of their chart
pub record FieldsFit (n : ℕ) (adj start : List ℕ) : Type 0 where
  pub few : n ≤ 64
  pub room : 10 + 2 * length (edges n adj) + n ≤ length start

-- and for all of it
pub record ChartFits (n : ℕ) (adj : List ℕ) (weights : Option (List ℕ)) (start : List ℕ) : Type 0 where
  pub few : n ≤ 64
  pub room : 10 + 2 * length (edges n adj) + n + weight_room weights (length (edges n adj)) ≤ length start

module _ {n : ℕ} {adj : List ℕ} {weights : Option (List ℕ)} {start : List ℕ} (f : ChartFits n adj weights start) where
  pub fields_fit : FieldsFit n adj start
  fields_fit = record { few = f.few; room = omega (arith, f.room) }

  module _ (o : List ℕ) {bytes : List ℕ} {at : ℕ} (long : length o ≡ n) (fields : Written start 0 (chart_with n (edges n adj) o []) bytes at) where
    at_is : at ≡ 10 + 2 * length (edges n adj) + n
    at_is = omega (arith, fields.place, chart_length n (edges n adj) o [], long)

    -- there is room for field 57
    pub weights_room : at + weight_room weights (length (edges n adj)) ≤ length bytes
    weights_room = omega (arith, f.room, at_is, written_size fields (omega (arith, f.room, at_is)))

    pub all_put : {next : List ℕ} {end : ℕ} → Written bytes at (weight_bytes weights (edges n adj)) next end
        → Written start 0 (chart_with n (edges n adj) o (weight_bytes weights (edges n adj))) next end
    all_put w = rw (← (chart_last n (edges n adj) o (weight_bytes weights (edges n adj)))) (behind fields w (omega (arith, f.room, at_is)))

module _ {n : ℕ} {adj start : List ℕ} (f : FieldsFit n adj start) {bytes : List ℕ} {at : ℕ}
    (size : Written start 0 (field_bytes 0x44 (n ∷ [])) bytes at) where
  at_four : at ≡ 4
  unfolding field_bytes
  at_four = size.place

  -- there is room for field 4C
  pub links_room : at + 3 + 2 * length (edges n adj) ≤ length bytes
  links_room = omega (arith, f.room, at_four, written_size size (omega (arith, f.room, at_four)))

  module _ {next : List ℕ} {to : ℕ} (links : Written bytes at (field_bytes 0x4C (edge_bytes (edges n adj))) next to) where
    both : Written start 0 (field_bytes 0x44 (n ∷ []) ++ field_bytes 0x4C (edge_bytes (edges n adj))) next to
    both = behind size links (omega (arith, f.room, at_four))

    to_is : to ≡ 7 + 2 * length (edges n adj)
    unfolding field_bytes
    to_is = omega (arith, links.place, at_four, edge_bytes_length (edges n adj))

    -- there is room for field 52
    pub order_room : to + 3 + n ≤ length next
    order_room = omega (arith, f.room, to_is, written_size both (omega (arith, f.room, to_is)))

    pub chart_put : (o : List ℕ) {last : List ℕ} {end : ℕ} → Written next to (field_bytes 0x52 o) last end
        → Written start 0 (chart_with n (edges n adj) o []) last end
    unfolding chart_with
    chart_put o w = rw append-nil (behind both w (omega (arith, f.room, to_is)))
