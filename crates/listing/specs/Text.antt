-- The parts of a listing, from what the calls answer.
use Rattle.std.specs.Prelude.{ℕ, ◌≤◌, ◌<◌, ◌≡◌, Bool, true, false, cond, length, take, drop, T, ltb}
use Rattle.std.proofs.Common.{arith, sym, ap, ap₂, subst, ◌∙◌, length-append, lt-ltb, le-ltb}
use mathlib.Core.List.{List, ◌++◌, flat_map}
use Rattle.model.specs.declared.Layout.{Layout}
use Rattle.model.specs.Answers.{Converged}
use Rattle.model.specs.Crossings.{edges}
use Rattle.model.specs.Layouts.{vertex_order, crossings_of, valid}
use Rattle.model.specs.Sifting.{settle_of}
use Rattle.model.specs.Answers.{LayoutRead}
use Rattle.model.specs.Checks.{by_refusal}
use Rattle.model.specs.Charts.{read_of}
use Rattle.model.specs.Listing.{text, line, spaced, listing, listing_room, listing_of, listed_length, listed_bytes}
use Rattle.laws.specs.Layouts.Refusals.{by_number}
use Rattle.laws.specs.Layouts.Reordering.{CountRight}
use Rattle.laws.specs.Buffers.Writing.{Written, written_whole}
use Rattle.laws.specs.Sifting.Rounds.{settled_rearranged}
use Rattle.laws.specs.Sifting.Calls.{settle_accepted}
use Rattle.laws.proofs.Sifting.Calls.{settle_keeps}

-- the settled layout is valid, has the same vertices and the right count
pub record Settled (l : Layout) (r : Converged) : Type 0 where
  pub is_valid_lem : T (valid r.layout)
  pub same_n : r.layout.n ≡ l.n
  pub right : CountRight r.layout

pub settled_fifty : (l : Layout) → T (valid l) → CountRight l → {r : Converged} → r ≡ settle_of l 50 → Settled l r
settled_fifty l t c e =
    rw e
    (record {
      is_valid_lem = (settle_keeps l 50 t).0;
      same_n = ap (λ (x : Converged). x.layout.n) (settle_accepted l 50 t (omega arith) (omega arith)) ∙ (settled_rearranged 50 l t).same_n;
      right = (settle_keeps l 50 t).1 c;
    })

-- the text of a listing, from its numbers and an order of n places
abbrev pub listed : ℕ → ℕ → ℕ → ℕ → ℕ → Converged → List ℕ
listed n m before after places r =
    line "devices" (spaced n)
    ++ line "links" (spaced m)
    ++ line "before" (spaced before)
    ++ line "after" (spaced after)
    ++ line "rounds" (spaced r.rounds)
    ++ line "settled" (text (cond r.converged " yes" " no"))
    ++ line "order" (flat_map spaced (take places r.layout.order))

pub listing_text : (l : Layout) → T (valid l) → CountRight l → {r : Converged} → r ≡ settle_of l 50 → {m : ℕ} → m ≡ length (edges l.n l.adjacency)
    → listed l.n m l.count r.layout.count l.n r ≡ listing l
unfolding listing vertex_order
listing_text l t c {r} e {m} k =
    let s = settled_fifty l t c e in
    ap (λ (z : ℕ). listed l.n m l.count r.layout.count z r) (sym s.same_n)
    ∙ ap₂ (λ (x y : ℕ). listed l.n x y r.layout.count r.layout.n r) k c
    ∙ ap (λ (z : ℕ). listed l.n (length (edges l.n l.adjacency)) (crossings_of l) z r.layout.n r) s.right
    ∙ ap (λ (x : Converged). listed l.n (length (edges l.n l.adjacency)) (crossings_of l) (crossings_of x.layout) x.layout.n x) e

-- the bytes that hold the text hold the listing
pub listing_written : (l : Layout) → T (valid l) → CountRight l → {r : Converged} → r ≡ settle_of l 50 → {m : ℕ} → m ≡ length (edges l.n l.adjacency)
    → {start bytes : List ℕ} {at : ℕ} → Written start 0 (listed l.n m l.count r.layout.count l.n r) bytes at
    → (bytes ≡ listing l ++ drop (length (listing l)) start) × (at ≡ length (listing l))
listing_written l t c e k {start} {bytes} {at} w = written_whole (subst (λ (s : List ℕ). Written start 0 s bytes at) (listing_text l t c e k) w)

-- ---- a chart's listing

module _ (s : List ℕ) {r : LayoutRead} (e : r ≡ read_of s) where
  pub listing_refused : (r.refusal ≡ 0 → ⊥) → listing_of s ≡ line "refused" (spaced r.refusal)
  unfolding listing_of
  listing_refused d = rw (← e) (by_number r.refusal (listing r.layout) (λ refused. line "refused" (spaced refused)) d)

  pub listing_accepted : r.refusal ≡ 0 → listing_of s ≡ listing r.layout
  unfolding listing_of by_refusal
  listing_accepted z = rw (← e, z)

-- a buffer without room stays as it is
pub listed_short : (s buffer : List ℕ) → length buffer < 1024 → (0 ≡ listed_length s buffer) × (buffer ≡ listed_bytes s buffer)
unfolding listed_length listed_bytes
listed_short s buffer h = let e = lt-ltb (length buffer) 1024 h in (rw e, rw e)

-- into a buffer with room
module _ (s buffer : List ℕ) (room : 1024 ≤ length buffer) where
  listed_length_lem : listed_length s buffer ≡ length (listing_of s)
  unfolding listed_length
  listed_length_lem = rw (le-ltb (length buffer) 1024 room)

  listed_bytes_lem : listed_bytes s buffer ≡ listing_of s ++ drop (length (listing_of s)) buffer
  unfolding listed_bytes
  listed_bytes_lem = rw (le-ltb (length buffer) 1024 room)

  pub listed_as : {t bytes : List ℕ} {r : ℕ} → listing_of s ≡ t → (bytes ≡ t ++ drop (length t) buffer) × (r ≡ length t)
      → (r ≡ listed_length s buffer) × (bytes ≡ listed_bytes s buffer)
  listed_as same w = (
    w.1 ∙ ap length (sym same) ∙ sym listed_length_lem,
    w.0 ∙ ap (λ (x : List ℕ). x ++ drop (length x) buffer) (sym same) ∙ sym listed_bytes_lem,
  )

-- the listing is no longer than the buffer that holds it
pub listed_fits : (s buffer : List ℕ) {after : List ℕ} → after ≡ listed_bytes s buffer → length after ≡ length buffer → listed_length s buffer ≤ length buffer
unfolding listed_length listed_bytes
listed_fits s buffer {after} e size = by_test (ltb (length buffer) listing_room) (ap length (sym e) ∙ size)
  where
    by_test : (b : Bool) → length (cond b buffer (listing_of s ++ drop (length (listing_of s)) buffer)) ≡ length buffer
        → cond b 0 (length (listing_of s)) ≤ length buffer
    by_test true k = omega arith
    by_test false k = omega (arith, length-append (listing_of s) (drop (length (listing_of s)) buffer))
