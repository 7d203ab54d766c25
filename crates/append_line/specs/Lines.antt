-- A list of vertices in the middle of a buffer that has room for 64, however they are divided between its two ends.
use Prim.Native.Nat.{ℕ, zero, suc, ◌+◌, ◌-◌, ◌%◌, ◌≤◌, ◌<◌}
use Rattle.std.proofs.Common.{le_of_lt, add-one, ◌∙◌, length-set, length-take-le}
use Rattle.std.proofs.Math.Nat.{add-sub_cancel_left}
use native.Mathlib.Omega.{arith}
use Rattle.std.specs.Prelude.{◌≡◌, length, set, replicate, eqb}
use Rattle.std.proofs.Math.Path.{refl, ap, ap₂}
use Rattle.std.proofs.Math.Bool.{cond}
use mathlib.Core.List.{List, [], ◌∷◌, ◌++◌}
use Rattle.std.proofs.Math.ListN.{take, drop, length-drop}
use Rattle.std.proofs.Math.Seq.{take-length, drop_at, take-suc-set}
use Rattle.std.proofs.lemmas.List.{set_split, drop-set-add}
use Rattle.model.specs.Crossings.{bit}
use Rattle.append_line.specs.declared.Line.{Line}

-- the list
unfoldable pub entries : Line → List ℕ
entries l = take l.size (drop l.first l.places)

-- the place in the middle is taken, and all are near it
pub record Centred (l : Line) : Type 0 where
  pub room : length l.places ≡ 128
  pub left : l.first ≤ 64
  pub right : 64 < l.first + l.size
  pub few : l.size ≤ 64

pub entries_length : {l : Line} → Centred l → length (entries l) ≡ l.size
unfolding entries
entries_length {l} c = length-take-le l.size (drop l.first l.places) (omega (arith, c.room, c.left, c.few, length-drop l.first l.places))

-- ---- what a store gives

unfoldable pub alone_at : ℕ → Line
alone_at v = record { places = set (replicate 128 0) 64 (v % 64); first = 64; size = 1 }

unfoldable pub at_front : Line → ℕ → Line
at_front l v =
    let first = (l.first % 128 + 127) % 128 in
    record { places = set l.places first (v % 64); first = first; size = l.size % 128 + 1 }

unfoldable pub at_back : Line → ℕ → Line
at_back l v =
    record {
      places = set l.places ((l.first % 128 + l.size % 128) % 128) (v % 64);
      first = l.first;
      size = l.size % 128 + 1;
    }

-- the vertices below k that are not in the set placed, at the back in rising number
unfoldable pub rest_of : Line → ℕ → ℕ → Line
rest_of l placed zero = l
rest_of l placed (suc k) = cond (eqb (bit placed k) 1) (rest_of l placed k) (at_back (rest_of l placed k) k)

-- the list as it lies in the buffer, a byte each
unfoldable pub placed_in : Line → List ℕ
placed_in l = take (l.size % 65) (drop (l.first % 65) l.places)

-- the list over the start of another one
unfoldable pub written_over : Line → List ℕ → List ℕ
written_over l order = take (l.size % 65) (drop (l.first % 65) l.places) ++ drop (l.size % 65) order

pub placed_length : (l : Line) → length l.places ≡ 128 → length (placed_in l) ≡ l.size % 65
unfolding placed_in
placed_length l room =
    length-take-le (l.size % 65) (drop (l.first % 65) l.places) (omega (arith, room, length-drop (l.first % 65) l.places))

-- copied as a part of the buffer, from a start to an end
pub copied_over : (l : Line) (order : List ℕ) → length l.places ≡ 128
    → let first = l.first % 65 in
    let part = take (first + l.size % 65 - first) (drop first l.places) in
    take (length part) part ++ drop (length part) order ≡ written_over l order
unfolding written_over
copied_over l order room =
    let part = take (l.size % 65) (drop (l.first % 65) l.places) in
    let size : length part ≡ l.size % 65 =
    length-take-le (l.size % 65) (drop (l.first % 65) l.places) (omega (arith, room, length-drop (l.first % 65) l.places)) in
    ap (λ (k : ℕ). let cut = take k (drop (l.first % 65) l.places) in take (length cut) cut ++ drop (length cut) order)
    (add-sub_cancel_left (l.first % 65) (l.size % 65))
    ∙ ap₂ (λ (xs : List ℕ) (k : ℕ). xs ++ drop k order) (take-length part) size

pub over_start : {l : Line} → Centred l → (order : List ℕ) → written_over l order ≡ entries l ++ drop l.size order
unfolding written_over entries
over_start {l} c order =
    let first : l.first % 65 ≡ l.first = omega (arith, c.left) in
    let size : l.size % 65 ≡ l.size = omega (arith, c.few) in
    rw (first, size)

pub alone_centred : (v : ℕ) → Centred (alone_at v)
unfolding alone_at
alone_centred v = record { room = refl; left = omega arith; right = omega arith; few = omega arith }

pub alone_entries : (v : ℕ) → v < 64 → entries (alone_at v) ≡ v ∷ []
unfolding entries alone_at
alone_entries v h = let same : v % 64 ≡ v = omega arith in ap (λ (x : ℕ). x ∷ []) same

module _ {l : Line} (c : Centred l) (more : l.size < 64) {v : ℕ} (h : v < 64) where
  vertex : v % 64 ≡ v
  vertex = omega arith

  -- in the middle of the buffer the places are those before and behind the list
  front_is : at_front l v ≡ record { places = set l.places (l.first - 1) v; first = l.first - 1; size = l.size + 1 }
  unfolding at_front
  front_is =
      let first : (l.first % 128 + 127) % 128 ≡ l.first - 1 = omega (arith, c.left, c.right) in
      let size : l.size % 128 ≡ l.size = omega arith in
      rw (first, size, vertex)

  back_is : at_back l v ≡ record { places = set l.places (l.first + l.size) v; first = l.first; size = l.size + 1 }
  unfolding at_back
  back_is =
      let end : (l.first % 128 + l.size % 128) % 128 ≡ l.first + l.size = omega (arith, c.left) in
      let size : l.size % 128 ≡ l.size = omega arith in
      rw (end, size, vertex)

  pub front_centred : Centred (at_front l v)
  front_centred =
      rw front_is
      (record {
        room = length-set l.places (l.first - 1) v ∙ c.room;
        left = omega (arith, c.left);
        right = omega (arith, c.right);
        few = omega arith;
      })

  pub front_entries : entries (at_front l v) ≡ v ∷ entries l
  unfolding entries
  front_entries =
      ap entries front_is
      ∙ ap (take (l.size + 1))
      (ap (drop (l.first - 1)) (set_split l.places (l.first - 1) v inside)
      ∙ drop_at (take (l.first - 1) l.places) (v ∷ drop (suc (l.first - 1)) l.places) (l.first - 1)
      (length-take-le (l.first - 1) l.places (le_of_lt inside)))
      ∙ ap₂ (λ (k j : ℕ). take k (v ∷ drop j l.places)) (add-one l.size) next
    where
      next : suc (l.first - 1) ≡ l.first
      next = omega (arith, c.right)

      inside : l.first - 1 < length l.places
      inside = omega (arith, c.room, c.left)

  pub back_centred : Centred (at_back l v)
  back_centred =
      rw back_is
      (record {
        room = length-set l.places (l.first + l.size) v ∙ c.room;
        left = omega (arith, c.left);
        right = omega (arith, c.right);
        few = omega arith;
      })

  pub back_entries : entries (at_back l v) ≡ entries l ++ (v ∷ [])
  unfolding entries
  back_entries =
      ap entries back_is
      ∙ ap (λ (xs : List ℕ). take (l.size + 1) xs) (drop-set-add l.first l.places l.size v)
      ∙ ap (λ (k : ℕ). take k (set (drop l.first l.places) l.size v)) (add-one l.size)
      ∙ take-suc-set (drop l.first l.places) l.size v (omega (arith, c.room, c.left, length-drop l.first l.places))
