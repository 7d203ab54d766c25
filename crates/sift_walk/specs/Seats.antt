-- The others clockwise from the vertex that is sifted, and where they stand.
use Prim.Native.Nat.{ℕ, suc, ◌+◌, ◌-◌, ◌%◌, ◌≤◌, ◌<◌, suc-le-suc}
use Rattle.std.proofs.Math.Nat.{mod-eq_of_lt}
use Rattle.std.proofs.Common.{lt_of_lt_of_le, arith, ◌∙◌, get_or-take, take-suc, lt-ltb, le-ltb}
use Rattle.std.specs.Prelude.{◌≡◌, Bool, true, false, cond, List, [], ◌∷◌, ◌++◌, length, get_or, take, eqb, ltb}
use Rattle.std.proofs.Math.Path.{sym, ap}
use Rattle.model.specs.Lists.{place}
use Rattle.model.specs.Sifting.{clockwise_from}
use Rattle.laws.specs.Sums.Indicators.{less, same, more, order}
use Rattle.laws.specs.Sums.Pairs.{Symmetric}
use Rattle.laws.specs.Orders.Permutations.{at, Permutation, place_at_lem, place_below}
use Rattle.laws.specs.Tables.Rows.{table_weight}
use Rattle.laws.specs.Sifting.Candidates.{clockwise_length, clockwise_behind, clockwise_before}
use Rattle.laws.specs.Sifting.Walk.{other_at_lem, other_once}

-- the place of the vertex j behind the next one clockwise from place p
unfoldable pub turned : ℕ → ℕ → ℕ → ℕ
turned n p j = cond (ltb (p + 1 + j) n) (p + 1 + j) (p + 1 + j - n)

module _ (n p j : ℕ) where
  pub turned_on : p + 1 + j < n → p + 1 + j ≡ turned n p j
  unfolding turned
  turned_on h = rw (lt-ltb (p + 1 + j) n h)

  pub turned_round : n ≤ p + 1 + j → p + 1 + j - n ≡ turned n p j
  unfolding turned
  turned_round h = rw (le-ltb (p + 1 + j) n h)

  -- inside the array, whatever the bytes are
  pub turned_few : n ≤ 64 → p ≤ n → j + 1 < n → turned n p j < 64
  unfolding turned
  turned_few h l b =
      elim (order (p + 1 + j) n) [
        | less k ↦ rw (lt-ltb (p + 1 + j) n k) (omega arith)
        | same e ↦ rw (le-ltb (p + 1 + j) n (omega arith)) (omega arith)
        | more k ↦ rw (le-ltb (p + 1 + j) n (omega arith)) (omega arith)
      ]

-- and the vertex there
unfoldable pub other_at : ℕ → ℕ → List ℕ → ℕ → ℕ
other_at n p places j = get_or places (turned n p j) 0 % 64

pub other_made : (n p : ℕ) (places : List ℕ) (j : ℕ) {q : ℕ} → q ≡ turned n p j → get_or places q 0 % 64 ≡ other_at n p places j
unfolding other_at
other_made n p places j e = rw e

-- a vertex that has no place stands behind the last
pub place_most : (xs : List ℕ) (v : ℕ) → place xs v ≤ length xs
unfolding place
place_most [] v = omega arith
place_most (x ∷ xs) v = by_test (eqb v x) (place_most xs v)
  where
    by_test : (b : Bool) → place xs v ≤ length xs → cond b 0 (suc (place xs v)) ≤ suc (length xs)
    by_test true h = omega arith
    by_test false h = suc-le-suc h

-- ---- what a walk starts from

-- an array of 64 places with an order, a table of weights that are equal both ways round and 0 beyond the vertices, and one of the vertices
pub record Walker (n : ℕ) (places ws : List ℕ) (u : ℕ) : Type 0 where
  pub size : length places ≡ 64
  pub few : n ≤ 64
  pub permutation : Permutation n (take n places)
  pub symmetry : Symmetric n (table_weight ws)
  pub blank : (x y : ℕ) → x < n → n ≤ y → y < 64 → table_weight ws x y ≡ 0
  pub vertex : u < n

-- which stands at place p
pub record Seated (n : ℕ) (places ws : List ℕ) (u p : ℕ) : Type 0 where
  pub walker : Walker n places ws u
  pub here : p ≡ place (take n places) u

pub seated : {n : ℕ} {places ws : List ℕ} {u p : ℕ} → Walker n places ws u → p ≡ place (take n places) u → Seated n places ws u p
seated w e = record { walker = w; here = e }

-- the others clockwise from u
abbrev pub others_of : ℕ → List ℕ → ℕ → List ℕ
others_of n places u = clockwise_from u (take n places)

module _ {n : ℕ} {places ws : List ℕ} {u p : ℕ} (seat : Seated n places ws u p) where
  pub small : n ≤ 64
  small = seat.walker.few

  pub perm : Permutation n (take n places)
  perm = seat.walker.permutation

  pub below : u < n
  below = seat.walker.vertex

  abbrev others : List ℕ
  others = others_of n places u

  pub others_length : suc (length others) ≡ n
  others_length = clockwise_length perm u below

  -- ---- the others, by their places

  -- q is the place of the j-th of them
  pub record Clockwise (j q : ℕ) : Type 0 where
    pub inside : q < n
    pub apart : p ≡ q → ⊥
    pub vertex : at others j ≡ at (take n places) q

  pub turned_vertex : (j : ℕ) → j + 1 < n → Clockwise j (turned n p j)
  unfolding turned
  turned_vertex j l =
      let standing : p < n = omega (arith, seat.here, place_below perm u below) in
      elim (order (p + 1 + j) n) [ less b ↦ behind b | same e ↦ before standing (omega arith) | more b ↦ before standing (omega arith) ]
    where
      behind : p + 1 + j < n → Clockwise j (cond (ltb (p + 1 + j) n) (p + 1 + j) (p + 1 + j - n))
      behind b =
          let there : suc (place (take n places) u) + j ≡ p + 1 + j = omega (arith, seat.here) in
          rw (lt-ltb (p + 1 + j) n b)
          (record {
            inside = b;
            apart = λ e. omega arith;
            vertex = clockwise_behind perm u below j (omega arith) ∙ ap (at (take n places)) there;
          })

      before : p < n → n ≤ p + 1 + j → Clockwise j (cond (ltb (p + 1 + j) n) (p + 1 + j) (p + 1 + j - n))
      before standing b =
          let there : j ≡ n - suc (place (take n places) u) + (p + 1 + j - n) = omega (arith, seat.here) in
          rw (le-ltb (p + 1 + j) n b)
          (record {
            inside = omega arith;
            apart = λ e. omega arith;
            vertex = ap (at others) there ∙ clockwise_before perm u below (p + 1 + j - n) (omega (arith, seat.here));
          })

  pub other_right : (j : ℕ) → j + 1 < n → other_at n p places j ≡ at others j
  unfolding other_at
  other_right j l =
      let t = turned_vertex j l in
      ap (λ (x : ℕ). x % 64) (sym (get_or-take n places (turned n p j) 0 t.inside) ∙ sym t.vertex)
      ∙ mod-eq_of_lt (lt_of_lt_of_le (other_at_lem perm u below j (omega arith)).0 small)

  -- each stands there once
  pub distinct : (i j : ℕ) → suc i < n → suc j < n → at others i ≡ at others j → i ≡ j
  distinct i j hi hj e =
      sym (place_at_lem others i (omega (arith, others_length)) (other_once perm u below i hi))
      ∙ ap (place others) e
      ∙ place_at_lem others j (omega (arith, others_length)) (other_once perm u below j hj)

  -- one more of the others
  pub taken_next : (j : ℕ) {v : ℕ} → j + 1 < n → v ≡ other_at n p places j → take (suc j) others ≡ take j others ++ (v ∷ [])
  taken_next j {v} l e =
      take-suc others j 0 (omega (arith, others_length)) ∙ ap (λ (y : ℕ). take j others ++ (y ∷ [])) (sym (e ∙ other_right j l))
