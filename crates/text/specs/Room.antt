-- What a call that writes text does: it writes where there is room enough, and nothing where there is not.
use Rattle.std.specs.Prelude.{ℕ, ◌+◌, ◌≤◌, ◌<◌, ◌≡◌, refl, Bool, true, false, List, [], ◌++◌, length, ltb}
use Rattle.std.proofs.Common.{arith, sym, ◌∙◌, ltb-true, ltb-false}
use Rattle.laws.specs.Buffers.Writing.{Written, written_none, written_size}
use Rattle.text.specs.Parts.{behind}

-- the text t, from place at on, if the buffer start has room places there; r is the place behind what was written
pub record Put (room : ℕ) (start : List ℕ) (at : ℕ) (t bytes : List ℕ) (r : ℕ) : Type 0 where
  pub fits : at + room ≤ length start → Written start at t bytes r
  pub full : length start < at + room → (bytes ≡ start) × (r ≡ at)
  pub bound : r ≤ at + room

module _ {start : List ℕ} {at : ℕ} where
  -- nothing to write
  pub put_nothing : Put 0 start at [] start at
  put_nothing = record { fits = λ l. written_none start at; full = λ l. (refl, refl); bound = omega arith }

module _ {room : ℕ} {start : List ℕ} {at : ℕ} where
  pub put_full : (t : List ℕ) → length start < at + room → Put room start at t start at
  put_full t h = record { fits = λ l. absurd (omega arith); full = λ l. (refl, refl); bound = omega arith }

  pub put_fits : {t bytes : List ℕ} {r : ℕ} → at + room ≤ length start → length t ≤ room → Written start at t bytes r → Put room start at t bytes r
  put_fits h few w = record { fits = λ l. w; full = λ l. absurd (omega arith); bound = omega (arith, w.place) }

-- one text behind another, where there is room for both
module _ {start : List ℕ} {base : ℕ} {s bytes : List ℕ} {at room : ℕ} {t next : List ℕ} {to : ℕ} where
  pub put_behind : Written start base s bytes at → Put room bytes at t next to → at + room ≤ length start → Written start base (s ++ t) next to
  put_behind w p h = let inside : at ≤ length start = omega arith in behind w (p.fits (omega (arith, written_size w inside))) inside

-- what the test for room says
module _ {size need : ℕ} {lacks : Bool} (e : lacks ≡ ltb size need) where
  pub no_room : lacks ≡ true → size < need
  no_room q = ltb-true size need (sym e ∙ q)

  pub has_room_lem : lacks ≡ false → need ≤ size
  has_room_lem q = ltb-false size need (sym e ∙ q)
