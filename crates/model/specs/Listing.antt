-- What the program ringlist prints: a function from the chart's bytes to the bytes of the listing, in ASCII.
use Rattle.std.specs.Prelude.{ℕ, zero, suc, ◌+◌, ◌/◌, ◌%◌, true, false, cond, length, drop, ltb}
use Prim.Native.String.{String, len, char_at}
use Prim.Native.Char.{code}
use mathlib.Core.List.{List, [], ◌∷◌, ◌++◌, map, flat_map}
use Rattle.model.specs.declared.Layout.{Layout}
use Rattle.model.specs.Lists.{upto}
use Rattle.model.specs.Crossings.{edges}
use Rattle.model.specs.Layouts.{vertex_order, crossings_of}
use Rattle.model.specs.Checks.{by_refusal}
use Rattle.model.specs.Sifting.{settle_of}
use Rattle.model.specs.Charts.{read_of}

-- the bytes of a text
unfoldable pub text : String → List ℕ
text s = map (λ i. code (char_at s i)) (upto (len s))

-- a number in decimal, at most k digits, the most significant first
unfoldable pub decimal_in : ℕ → ℕ → List ℕ
decimal_in zero x = []
decimal_in (suc k) x =
    elim (ltb x 10) [ true ↦ (48 + x) ∷ [] | false ↦ decimal_in k (x / 10) ++ ((48 + x % 10) ∷ []) ]

-- a number has fewer digits than the next one counts
unfoldable pub decimal : ℕ → List ℕ
decimal x = decimal_in (suc x) x

-- a line: its name, what stands behind it, a line feed
unfoldable pub line : String → List ℕ → List ℕ
line name rest = text name ++ rest ++ text "\n"

-- a number behind a space
unfoldable pub spaced : ℕ → List ℕ
spaced x = text " " ++ decimal x

-- "It settles the chart's order with limit 50 and prints". "The lines hold n, the number of links, the crossings read and those reached,
-- rounds run, `yes` or `no`, and the order with single spaces. With n = 0 the last line is `order` alone."
unfoldable pub listing : Layout → List ℕ
listing l =
    let r = settle_of l 50 in
    line "devices" (spaced l.n)
    ++ line "links" (spaced (length (edges l.n l.adjacency)))
    ++ line "before" (spaced (crossings_of l))
    ++ line "after" (spaced (crossings_of r.layout))
    ++ line "rounds" (spaced r.rounds)
    ++ line "settled" (text (cond r.converged " yes" " no"))
    ++ line "order" (flat_map spaced (vertex_order r.layout))

-- "a refused chart prints one line, `refused`, a space and the number"
unfoldable pub listing_of : List ℕ → List ℕ
listing_of chart =
    let r = read_of chart in
    by_refusal r.refusal (listing r.layout) (λ refused. line "refused" (spaced refused))

-- ---- into a lent buffer

-- a listing fits a buffer of this many bytes; a shorter one is not written to
abbrev pub listing_room : ℕ
listing_room = 1024

-- how many bytes are written
unfoldable pub listed_length : List ℕ → List ℕ → ℕ
listed_length chart buffer = cond (ltb (length buffer) listing_room) 0 (length (listing_of chart))

-- the buffer's bytes afterwards: the listing, and the rest untouched
unfoldable pub listed_bytes : List ℕ → List ℕ → List ℕ
listed_bytes chart buffer =
    cond (ltb (length buffer) listing_room) buffer (listing_of chart ++ drop (length (listing_of chart)) buffer)
