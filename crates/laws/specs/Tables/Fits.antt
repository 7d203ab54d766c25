-- A table of weights that fits the adjacency words, entry by entry.
use Rattle.std.specs.Prelude.{ℕ, zero, suc, ◌+◌, ◌*◌, ◌-◌, ◌/◌, ◌%◌, ◌≤◌, ◌<◌, ◌≡◌, refl, Bool, cond, ◌&&◌, List, [], ◌∷◌, length, get_or, take, drop, eqb, leb}
use Rattle.std.proofs.Common.{lt_of_lt_of_le, arith, ◌∙◌, length-take, length-drop, get_or-take, get_or-drop}
use Rattle.std.proofs.Math.Nat.{min-le_left}
use Rattle.std.proofs.Math.Decide.{dec_lt}
use Rattle.std.proofs.Math.Path.{sym, ap, subst}
use Rattle.std.proofs.Math.Bool.{true, false, not}
use Rattle.std.proofs.Math.Dec.{T, ltb}
use borrow.Author.Tests.{le-leb, lt-ltb, le-ltb, eq-eqb, eqb-true, ltb-true, ltb-false, leb-true}
use Rattle.model.specs.Lists.{upto, every}
use Rattle.model.specs.Crossings.{linked}
use Rattle.model.specs.Layouts.{table_weight, is_weight, row_of, even_weights, weighs_edges, blank_from, weights_fit, loopless}
use Rattle.laws.specs.Sums.Indicators.{T_true, and_intro, and_left, and_right}
use Rattle.laws.specs.Sums.Every.{every_upto, upto_every}
use Rattle.laws.specs.Sums.Pairs.{Symmetric}

pub record Fits (n : ℕ) (adj ws : List ℕ) : Type 0 where
  pub even : (u v : ℕ) → u < n → v < n → table_weight ws u v ≡ table_weight ws v u
  pub edges : (u v : ℕ) → u < n → v < n → ltb 0 (table_weight ws u v) ≡ linked adj u v
  pub light : (u v : ℕ) → u < n → v < n → table_weight ws u v ≤ 255
  pub rows : (u v : ℕ) → n ≤ u → u < 64 → v < 64 → table_weight ws u v ≡ 0
  pub columns : (u v : ℕ) → u < 64 → n ≤ v → v < 64 → table_weight ws u v ≡ 0

-- ---- a weight, and where it stands

-- "a weight from 1 to 255"
pub record IsWeight (w : ℕ) : Type 0 where
  pub some : 0 < w
  pub few : w ≤ 255

pub is_weight_lem : {w : ℕ} → T (is_weight w) → IsWeight w
unfolding is_weight
is_weight_lem {w} t =
    let low = leb-true 1 w (T_true (leb 1 w) (and_left (leb 1 w) (leb w 255) t)) in
    record { some = omega arith; few = leb-true w 255 (T_true (leb w 255) (and_right (leb 1 w) (leb w 255) t)) }

pub weight_is : {w : ℕ} → IsWeight w → T (is_weight w)
unfolding is_weight
weight_is {w} i = and_intro (leb 1 w) (leb w 255) (subst T (sym (le-leb 1 w i.some)) tt) (subst T (sym (le-leb w 255 i.few)) tt)

pub row_at : (ws : List ℕ) (u v : ℕ) → v < 64 → get_or (row_of ws u) v 0 ≡ table_weight ws u v
unfolding row_of table_weight
row_at ws u v h = get_or-take 64 (drop (64 * u) ws) v 0 h ∙ get_or-drop (64 * u) ws v 0

row_length : (ws : List ℕ) (u : ℕ) → length (row_of ws u) ≤ 64
unfolding row_of
row_length ws u = omega (arith, length-take 64 (drop (64 * u) ws), min-le_left 64 (length (drop (64 * u) ws)))

-- entries that are all 0
zeros_at : (xs : List ℕ) → T (every (eqb 0) xs) → (i : ℕ) → get_or xs i 0 ≡ 0
unfolding every
zeros_at [] t i = refl
zeros_at (x ∷ xs) t zero = sym (eqb-true 0 x (T_true (eqb 0 x) (and_left (eqb 0 x) (every (eqb 0) xs) t)))
zeros_at (x ∷ xs) t (suc i) = zeros_at xs (and_right (eqb 0 x) (every (eqb 0) xs) t) i

at_zeros : (xs : List ℕ) → ((i : ℕ) → i < length xs → get_or xs i 0 ≡ 0) → T (every (eqb 0) xs)
unfolding every
at_zeros [] h = tt
at_zeros (x ∷ xs) h =
    and_intro (eqb 0 x) (every (eqb 0) xs) (subst T (sym (eq-eqb 0 x (sym (h 0 (omega arith))))) tt) (at_zeros xs (λ i l. h (suc i) (omega arith)))

-- ---- the clauses, of u and v

evenly : List ℕ → ℕ → ℕ → Bool
evenly ws u v = eqb (get_or (row_of ws u) v 0) (get_or (row_of ws v) u 0)

-- a weight where there is an edge, and 0 where there is none
abbrev pub on_edge : Bool → ℕ → Bool
on_edge b w = cond b (is_weight w) (eqb w 0)

pub on_edge_lem : {w : ℕ} (b : Bool) → T (on_edge b w) → (ltb 0 w ≡ b) × (w ≤ 255)
on_edge_lem {w} true t = let i = is_weight_lem t in (lt-ltb 0 w i.some, i.few)
on_edge_lem {w} false t = let e = eqb-true w 0 (T_true (eqb w 0) t) in (le-ltb 0 w (omega arith), omega arith)

pub edge_on : {w : ℕ} (b : Bool) → ltb 0 w ≡ b → w ≤ 255 → T (on_edge b w)
edge_on {w} true e few = weight_is (record { some = ltb-true 0 w e; few = few })
edge_on {w} false e few = subst T (sym (eq-eqb w 0 (omega (arith, ltb-false 0 w e)))) tt

on_row : List ℕ → List ℕ → ℕ → ℕ → Bool
on_row adj ws u v = on_edge (linked adj u v) (get_or (row_of ws u) v 0)

blank_row : ℕ → List ℕ → ℕ → Bool
blank_row n ws u = every (eqb 0) (drop n (row_of ws u))

-- the rows from n on
rows_from : ℕ → List ℕ → List ℕ
rows_from n ws = take (64 * (64 - n)) (drop (64 * n) ws)

rows_at : (n : ℕ) (ws : List ℕ) (i : ℕ) → i < 64 * (64 - n) → get_or (rows_from n ws) i 0 ≡ get_or ws (64 * n + i) 0
unfolding rows_from
rows_at n ws i h = get_or-take (64 * (64 - n)) (drop (64 * n) ws) i 0 h ∙ get_or-drop (64 * n) ws i 0

rows_length : (n : ℕ) (ws : List ℕ) → length (rows_from n ws) ≤ 64 * (64 - n)
unfolding rows_from
rows_length n ws = omega (arith, length-take (64 * (64 - n)) (drop (64 * n) ws), min-le_left (64 * (64 - n)) (length (drop (64 * n) ws)))

module _ {n : ℕ} {adj ws : List ℕ} (few : n ≤ 64) where
  pub fits_each : T (weights_fit n adj ws) → Fits n adj ws
  unfolding weights_fit even_weights weighs_edges blank_from evenly on_row blank_row rows_from table_weight
  fits_each t =
      let first = and_left (even_weights n ws && weighs_edges n adj ws) (blank_from n ws) t in
      let evens = and_left (even_weights n ws) (weighs_edges n adj ws) first in
      let links = and_right (even_weights n ws) (weighs_edges n adj ws) first in
      let blanks = and_right (even_weights n ws && weighs_edges n adj ws) (blank_from n ws) t in
      record {
        even = λ u v l m.
            sym (row_at ws u v (lt_of_lt_of_le m few))
            ∙ eqb-true (get_or (row_of ws u) v 0) (get_or (row_of ws v) u 0)
            (T_true (evenly ws u v) (every_upto (evenly ws u) n (every_upto (λ x. every (evenly ws x) (upto n)) n evens u l) v m))
            ∙ row_at ws v u (lt_of_lt_of_le l few);
        edges = λ u v l m. ap (ltb 0) (sym (row_at ws u v (lt_of_lt_of_le m few))) ∙ (here u v l m links).0;
        light = λ u v l m. subst (λ (w : ℕ). w ≤ 255) (row_at ws u v (lt_of_lt_of_le m few)) (here u v l m links).1;
        rows = λ u v l m k. of_row u v l m k (and_right (every (blank_row n ws) (upto n)) (every (eqb 0) (rows_from n ws)) blanks);
        columns = λ u v l m k. elim (dec_lt u n) [
          | yes b ↦ of_column u v m k (every_upto (blank_row n ws) n (and_left (every (blank_row n ws) (upto n)) (every (eqb 0) (rows_from n ws)) blanks) u b)
          | no b ↦ of_row u v (omega arith) l k (and_right (every (blank_row n ws) (upto n)) (every (eqb 0) (rows_from n ws)) blanks)
        ];
      }
    where
      here : (u v : ℕ) → u < n → v < n → T (every (λ x. every (on_row adj ws x) (upto n)) (upto n))
          → (ltb 0 (get_or (row_of ws u) v 0) ≡ linked adj u v) × (get_or (row_of ws u) v 0 ≤ 255)
      here u v l m links =
          on_edge_lem (linked adj u v) (every_upto (on_row adj ws u) n (every_upto (λ x. every (on_row adj ws x) (upto n)) n links u l) v m)

      of_row : (u v : ℕ) → n ≤ u → u < 64 → v < 64 → T (every (eqb 0) (rows_from n ws)) → table_weight ws u v ≡ 0
      of_row u v l m k t =
          let inside : 64 * (u - n) + v < 64 * (64 - n) = omega arith in
          let e : 64 * u + v ≡ 64 * n + (64 * (u - n) + v) = omega arith in
          ap (λ (i : ℕ). get_or ws i 0) e ∙ sym (rows_at n ws (64 * (u - n) + v) inside) ∙ zeros_at (rows_from n ws) t (64 * (u - n) + v)

      of_column : (u v : ℕ) → n ≤ v → v < 64 → T (blank_row n ws u) → table_weight ws u v ≡ 0
      of_column u v m k t =
          let e : n + (v - n) ≡ v = omega arith in
          sym (row_at ws u v k)
          ∙ ap (λ (i : ℕ). get_or (row_of ws u) i 0) (sym e)
          ∙ sym (get_or-drop n (row_of ws u) (v - n) 0)
          ∙ zeros_at (drop n (row_of ws u)) t (v - n)

  pub each_fits : Fits n adj ws → T (weights_fit n adj ws)
  unfolding weights_fit even_weights weighs_edges blank_from evenly on_row blank_row rows_from table_weight
  each_fits f =
      and_intro (even_weights n ws && weighs_edges n adj ws) (blank_from n ws)
      (and_intro (even_weights n ws) (weighs_edges n adj ws)
      (upto_every (λ u. every (evenly ws u) (upto n)) n (λ u l. upto_every (evenly ws u) n (λ v m. evens u v l m)))
      (upto_every (λ u. every (on_row adj ws u) (upto n)) n (λ u l. upto_every (on_row adj ws u) n (λ v m. links u v l m))))
      (and_intro (every (blank_row n ws) (upto n)) (every (eqb 0) (rows_from n ws)) (upto_every (blank_row n ws) n (λ u l. blanks u l)) from_n)
    where
      evens : (u v : ℕ) → u < n → v < n → T (evenly ws u v)
      evens u v l m =
          subst T
          (sym
          (eq-eqb (get_or (row_of ws u) v 0) (get_or (row_of ws v) u 0)
          (row_at ws u v (lt_of_lt_of_le m few) ∙ f.even u v l m ∙ sym (row_at ws v u (lt_of_lt_of_le l few)))))
          tt

      links : (u v : ℕ) → u < n → v < n → T (on_row adj ws u v)
      links u v l m =
          let here = row_at ws u v (lt_of_lt_of_le m few) in
          edge_on (linked adj u v) (ap (ltb 0) here ∙ f.edges u v l m) (subst (λ (w : ℕ). w ≤ 255) (sym here) (f.light u v l m))

      blanks : (u : ℕ) → u < n → T (blank_row n ws u)
      blanks u l =
          at_zeros (drop n (row_of ws u))
          (λ i m.
          let inside : n + i < 64 = omega (arith, length-drop n (row_of ws u), row_length ws u) in
          get_or-drop n (row_of ws u) i 0 ∙ row_at ws u (n + i) inside ∙ f.columns u (n + i) (omega arith) (omega arith) inside)

      from_n : T (every (eqb 0) (rows_from n ws))
      from_n =
          at_zeros (rows_from n ws)
          (λ i m.
          let inside : i < 64 * (64 - n) = omega (arith, rows_length n ws) in
          let e : 64 * n + i ≡ 64 * (n + i / 64) + i % 64 = omega arith in
          rows_at n ws i inside ∙ ap (λ (k : ℕ). get_or ws k 0) e ∙ f.rows (n + i / 64) (i % 64) (omega arith) (omega arith) (omega arith))

-- ---- what this gives

module _ {n : ℕ} {adj ws : List ℕ} (f : Fits n adj ws) where
  -- towards any of 64 vertices, also those that are not there
  pub fits_light : n ≤ 64 → (u v : ℕ) → u < 64 → v < 64 → table_weight ws u v ≤ 255
  fits_light few u v l m =
      elim (dec_lt u n) [
        | no a ↦ omega (arith, f.rows u v (omega arith) l m)
        | yes a ↦ elim (dec_lt v n) [ no b ↦ omega (arith, f.columns u v l (omega arith) m) | yes b ↦ f.light u v a b ]
      ]

  -- a weight on edges that are no loops: what the laws of crossings ask for
  pub fits_symmetric : T (loopless n adj) → Symmetric n (table_weight ws)
  unfolding loopless
  fits_symmetric t =
      record {
        swap = f.even;
        diagonal = λ v l. none (linked adj v v) (every_upto (λ x. not (linked adj x x)) n t v l) (f.edges v v l l);
      }
    where
      none : {w : ℕ} (b : Bool) → T (not b) → ltb 0 w ≡ b → w ≡ 0
      none true t e = absurd t
      none {w} false t e = omega (arith, ltb-false 0 w e)
