-- Charts: fields, the questions, and the layout that an accepted chart gives.
use Rattle.std.specs.Prelude.{Option, Some, None, Result, Ok, Err, ℕ, zero, suc, ◌+◌, ◌*◌, ◌^◌, ◌%◌, min, max, Bool, true, false, cond, ◌&&◌, ◌||◌, List, [], ◌∷◌, ◌++◌, map, length, get_or, take, drop, replicate, eqb, leb, ltb}
use Rattle.model.specs.declared.Edge.{Edge}
use Rattle.model.specs.declared.Layout.{Layout}
use Rattle.model.specs.Answers.{LayoutRead, number, told_by}
use Rattle.model.specs.declared.Header.{Header}
use Rattle.model.specs.declared.refusal.Refusal.{Refusal}
use Rattle.model.specs.Lists.{upto, every, any, sum_over, no_repeats}
use Rattle.model.specs.Crossings.{crossings}
use Rattle.model.specs.Layouts.{capacity, table_places, empty_layout, each_once, uncounted, is_weight, weight}
use Rattle.model.specs.Checks.{Check, checked}
use Rattle.model.specs.Edits.{both_ways}

-- ---- fields

-- "A chart is a run of fields: one-byte tag, two-byte length (high byte first), body."
pub record Field : Type 0 where
  pub tag : ℕ
  pub body : List ℕ

-- the fields at the start of the input, as far as they are complete, and whether the input ends with them
pub record Fields : Type 0 where
  pub complete : Bool
  pub fields : List Field

-- the length that a header gives to the body behind it
unfoldable pub body_length : List ℕ → ℕ
body_length s = 256 * get_or s 1 0 + get_or s 2 0

-- is there a header, and as much behind it as it says?
unfoldable pub starts_with_field : List ℕ → Bool
starts_with_field s = leb 3 (length s) && leb (3 + body_length s) (length s)

unfoldable pub first_field : List ℕ → Field
first_field s = record { tag = get_or s 0 0; body = take (body_length s) (drop 3 s) }

-- at most k fields
unfoldable pub fields_in : ℕ → List ℕ → Fields
fields_in zero s = record { complete = eqb (length s) 0; fields = [] }
fields_in (suc k) s =
    elim (starts_with_field s) [
      | true ↦
          (let rest = fields_in k (drop (3 + body_length s) s) in
          record { complete = rest.complete; fields = first_field s ∷ rest.fields })
      | false ↦ record { complete = eqb (length s) 0; fields = [] }
    ]

-- a field takes at least three bytes, so there are no more fields than bytes
unfoldable pub fields_of : List ℕ → Fields
fields_of s = fields_in (length s) s

-- the tags of the fields
abbrev pub tags_of : List ℕ → List ℕ
tags_of s = map (λ f. f.tag) (fields_of s).fields

-- the body of the i-th field, empty where there are not so many
unfoldable pub body_of : List ℕ → ℕ → List ℕ
body_of s i = (get_or (fields_of s).fields i (record { tag = 0; body = [] })).body

-- ---- what the fields hold

-- "Field 44 holds n in one byte."
unfoldable pub chart_size : List ℕ → ℕ
chart_size s = get_or (body_of s 0) 0 0

-- "Field 4C holds links, two bytes each, in any sequence, ends either way round.": each with its lower end first
unfoldable pub edges_in : List ℕ → List Edge
edges_in [] = []
edges_in (a ∷ []) = []
edges_in (a ∷ b ∷ rest) = record { low = min a b; high = max a b } ∷ edges_in rest

unfoldable pub chart_edges : List ℕ → List Edge
chart_edges s = edges_in (body_of s 1)

-- "Field 52 holds the order, n bytes."
unfoldable pub chart_order : List ℕ → List ℕ
chart_order s = body_of s 2

-- "A chart may have a fourth and last field, tag 57 hexadecimal" (document 02, Note 8)
unfoldable pub has_weights : List ℕ → Bool
has_weights s = leb 4 (length (fields_of s).fields)

-- "one byte per link in the sequence of field 4C"; "without it all weights are 1"
unfoldable pub chart_weights : List ℕ → List ℕ
chart_weights s = cond (has_weights s) (body_of s 3) (replicate (length (chart_edges s)) 1)

-- ---- the questions: "Each question is asked of the whole input before the next"

-- the entries of two lists of numbers are the same
unfoldable pub same_list : List ℕ → List ℕ → Bool
same_list [] [] = true
same_list [] (y ∷ ys) = false
same_list (x ∷ xs) [] = false
same_list (x ∷ xs) (y ∷ ys) = eqb x y && same_list xs ys

unfoldable pub same_edge : Edge → Edge → Bool
same_edge e f = eqb e.low f.low && eqb e.high f.high

-- both ends of an edge below n, and different
unfoldable pub edge_within : ℕ → Edge → Bool
edge_within n e = ltb e.low e.high && ltb e.high n

-- of the body of 44
unfoldable pub size_checks : List ℕ → List Check
size_checks body =
    -- "Is the body of 44 one byte, at most 64? 4"
    record { passes = eqb (length body) 1 && leb (get_or body 0 0) capacity; code = 4 }
    ∷ []

-- of the body of 4C, with n vertices
unfoldable pub end_checks : ℕ → List ℕ → List Check
end_checks n links =
    -- "Has the body of 4C an even length? 5"
    record { passes = eqb (length links % 2) 0; code = 5 }
    -- "Are the ends of each link below n and different? 6"
    ∷ record { passes = every (edge_within n) (edges_in links); code = 6 }
    ∷ []

unfoldable pub repeat_checks : List ℕ → List Check
repeat_checks links =
    -- "Is each pair written only once, either way round? 7"
    record { passes = no_repeats same_edge (edges_in links); code = 7 }
    ∷ []

-- of the body of 52, with n vertices
unfoldable pub place_checks : ℕ → List ℕ → List Check
place_checks n o =
    -- "Has the body of 52 n bytes, holding each device once? 8"
    record { passes = eqb (length o) n && each_once n o; code = 8 }
    ∷ []

-- of the weights of the links in the body of 4C
unfoldable pub weight_checks : List ℕ → List ℕ → List Check
weight_checks links ws =
    -- "24 when field 57 hasn't exactly one byte per link, after 8"
    record { passes = eqb (length ws) (length (edges_in links)); code = 24 }
    -- "25 when a weight is 0, after 24 in a chart"
    ∷ record { passes = every is_weight ws; code = 25 }
    ∷ []

-- the tags that a chart's fields are to have, and those with weights
abbrev pub chart_tags : List ℕ
chart_tags = 0x44 ∷ 0x4C ∷ 0x52 ∷ []

abbrev pub weighted_tags : List ℕ
weighted_tags = 0x44 ∷ 0x4C ∷ 0x52 ∷ 0x57 ∷ []

unfoldable pub chart_checks : List ℕ → List Check
chart_checks s =
    -- "Is the input at most 8,192 bytes? 1"
    record { passes = leb (length s) 8192; code = 1 }
    -- "Does it divide exactly into fields, each header and body complete? 2"
    ∷ record { passes = (fields_of s).complete; code = 2 }
    -- "Are the tags 44, 4C, 52, each once, in that sequence? 3"; 57, "which question 3 then allows"
    ∷ record { passes = same_list (tags_of s) chart_tags || same_list (tags_of s) weighted_tags; code = 3 }
    -- 4 to 8, 24 and 25
    ∷ (size_checks (body_of s 0)
    ++ end_checks (chart_size s) (body_of s 1)
    ++ repeat_checks (body_of s 1)
    ++ place_checks (chart_size s) (chart_order s)
    ++ weight_checks (body_of s 1) (chart_weights s))

-- ---- the layout

-- is one end of an edge u and the other v?
unfoldable pub joins : ℕ → ℕ → Edge → Bool
joins u v e = same_edge e (record { low = min u v; high = max u v })

-- the adjacency word of u: bit v is set exactly when an edge joins u and v
unfoldable pub word_in : List Edge → ℕ → ℕ
word_in es u = sum_over (λ v. cond (any (joins u v) es) (2 ^ v) 0) (upto capacity)

-- a table with the weight of each of the edges, both ways round
unfoldable pub with_weights : List ℕ → List Edge → List ℕ → List ℕ
with_weights table [] ws = table
with_weights table (e ∷ es) [] = table
with_weights table (e ∷ es) (w ∷ ws) = with_weights (both_ways table e.low e.high w) es ws

-- the table of edges that have these weights, and 0 everywhere else
unfoldable pub table_in : List Edge → List ℕ → List ℕ
table_in es ws = with_weights (replicate table_places 0) es ws

-- the array that an order goes into: "its unused places are 0"
abbrev pub padded : List ℕ → List ℕ
padded o = take capacity (o ++ replicate capacity 0)

-- a layout of n vertices with these edges and their weights, in the order o, and with its true crossings
abbrev pub layout_with : ℕ → List Edge → List ℕ → List ℕ → Layout
layout_with n es ws o =
    let l = uncounted n (padded o) (map (word_in es) (upto capacity)) (table_in es ws) in
    record { n = n; order = l.order; adjacency = l.adjacency; weights = l.weights; count = crossings n o (weight l) }

-- "a ring read from a chart [carries] its true crossings"
unfoldable pub chart_layout : List ℕ → Layout
chart_layout s = layout_with (chart_size s) (chart_edges s) (chart_weights s) (chart_order s)

-- "a refusal returns the empty ring"
abbrev pub read_as : List Check → Layout → LayoutRead
read_as checks l = checked checks (record { refusal = 0; layout = l }) (λ r. record { refusal = r; layout = empty_layout })

-- what a reader's result says
unfoldable pub as_read : Result Layout Refusal → LayoutRead
as_read a = told_by a (λ l. record { refusal = 0; layout = l }) (λ r. record { refusal = r; layout = empty_layout })

unfoldable pub read_of : List ℕ → LayoutRead
read_of s = read_as (chart_checks s) (chart_layout s)

-- ---- the passes of the reader: "each reader pass answers an enum"

-- what an answer says: do the questions of the pass pass, the number of the first that does not (0 where all do), and the values found
pub record Answer : Type 0 where
  pub accepted : Bool
  pub code : ℕ
  pub values : List ℕ

unfoldable pub accept : List ℕ → Answer
accept values = record { accepted = true; code = 0; values = values }

unfoldable pub refuse : ℕ → Answer
refuse r = record { accepted = false; code = r; values = [] }

-- the number and the values of each case of what a pass answers: of one that only asks
unfoldable pub asked : Result (Unit {0}) Refusal → Answer
asked (Ok x) = accept []
asked (Err r) = refuse (number r)

-- a field's tag and the length of its body; no field is no number yet
unfoldable pub field_found : Option Header → Answer
field_found (Some h) = accept (h.tag ∷ h.length ∷ [])
field_found None = refuse 0

-- the number of vertices (devices)
unfoldable pub size_found : Result ℕ Refusal → Answer
size_found (Ok n) = accept (n ∷ [])
size_found (Err r) = refuse (number r)

-- the first number among the questions of a pass, or what it finds
unfoldable pub answer : List Check → List ℕ → Answer
answer checks values = checked checks (accept values) refuse

-- the field at the start of what is left: its tag and the length of its body
unfoldable pub field_answer : List ℕ → Answer
field_answer s = cond (starts_with_field s) (accept (get_or s 0 0 ∷ body_length s ∷ [])) (refuse 0)

-- questions 1 and 2
unfoldable pub division_answer : List ℕ → Answer
division_answer s = answer (take 2 (chart_checks s)) []

-- question 3
unfoldable pub tags_answer : List ℕ → Answer
tags_answer s = answer (take 1 (drop 2 (chart_checks s))) []

-- question 4: the number of vertices
unfoldable pub size_answer : List ℕ → Answer
size_answer body = answer (size_checks body) (get_or body 0 0 ∷ [])
