-- The two passes together: the weights fit the words. A graph with weights that fit has symmetric words.
use Rattle.std.specs.Prelude.{ℕ, ◌^◌, ◌≤◌, ◌<◌, ◌≡◌, refl, Bool, true, false, ◌&&◌, List, get_or, T, leb, ltb}
use Rattle.std.proofs.Common.{lt_of_lt_of_le, le_of_eq, arith, sym, ap, ◌∙◌, subst, le-ltb, ltb-true, ltb-false, leb-true}
use Rattle.std.proofs.Math.Decide.{dec_lt}
use Rattle.std.specs.Bool.{beq}
use Rattle.model.specs.Lists.{upto, every}
use Rattle.model.specs.Crossings.{linked}
use Rattle.model.specs.Layouts.{table_weight, symmetric, loopless, bits_below, zero_from, weights_fit}
use Rattle.laws.specs.Sums.Indicators.{T_true, bool_ext, and_intro, and_left, and_right, both_left, beq_self}
use Rattle.laws.specs.Sums.Bits.{bit_beyond, bit_none}
use Rattle.laws.specs.Sums.Every.{every_upto, upto_every}
use Rattle.laws.specs.Layouts.Validity.{zero_from_at}
use Rattle.laws.specs.Tables.Fits.{Fits, fits_each, each_fits}
use Rattle.weights_valid.specs.Pairs.{Even, even_below, even_pairs, pairs_even}
use Rattle.weights_valid.specs.Bytes.{on_edges, edges_agree, agree_edges}

fit_passes : (n : ℕ) (adj ws : List ℕ) → n ≤ 64 → T (bits_below n adj) → T (zero_from n adj)
    → (even_below n ws && on_edges adj ws) ≡ weights_fit n adj ws
unfolding linked bits_below
fit_passes n adj ws few low unused =
    bool_ext (even_below n ws && on_edges adj ws) (weights_fit n adj ws)
    (λ t. each_fits few (fits (even_pairs n ws (and_left (even_below n ws) (on_edges adj ws) t)) (and_right (even_below n ws) (on_edges adj ws) t)))
    (λ t. let f = fits_each few t in and_intro (even_below n ws) (on_edges adj ws) (pairs_even (record { even = f.even; light = f.light }))
    (agree_edges adj ws (λ u v l m. agree f u v l m)))
  where
    none_from : (u v : ℕ) → n ≤ v → v < 64 → linked adj v u ≡ false
    none_from u v m k = rw (zero_from_at n adj unused v m k, bit_none u)

    none_to : (u v : ℕ) → n ≤ u → v < 64 → linked adj v u ≡ false
    none_to u v l k =
        let small = ltb-true (get_or adj v 0) (2 ^ n) (T_true _ (every_upto (λ x. ltb (get_or adj x 0) (2 ^ n)) 64 low v k)) in
        rw (bit_beyond n (get_or adj v 0) u small l)

    zero_at : {w : ℕ} {b : Bool} → b ≡ false → ltb 0 w ≡ b → w ≡ 0
    zero_at {w} e h = omega (arith, ltb-false 0 w (h ∙ e))

    at_zero : {w : ℕ} {b : Bool} → b ≡ false → w ≡ 0 → ltb 0 w ≡ b
    at_zero {w} e h = le-ltb 0 w (le_of_eq h) ∙ sym e

    fits : Even n ws → T (on_edges adj ws) → Fits n adj ws
    fits e t =
        record {
          even = e.even;
          edges = λ u v l m.
              ap (ltb 0) (e.even u v l m) ∙ edges_agree adj ws t v u (lt_of_lt_of_le m few) (lt_of_lt_of_le l few);
          light = e.light;
          rows = λ u v l m k. zero_at (none_to u v l k) (edges_agree adj ws t u v m k);
          columns = λ u v l m k. zero_at (none_from u v m k) (edges_agree adj ws t u v l k);
        }

    agree : Fits n adj ws → (u v : ℕ) → u < 64 → v < 64 → ltb 0 (table_weight ws u v) ≡ linked adj v u
    agree f u v l m =
        elim (dec_lt u n) [
          | no a ↦ at_zero (none_to u v (omega arith) m) (f.rows u v (omega arith) l m)
          | yes a ↦
              elim (dec_lt v n) [
                | no b ↦ at_zero (none_from u v (omega arith) m) (f.columns u v l (omega arith) m)
                | yes b ↦ ap (ltb 0) (f.even u v a b) ∙ f.edges v u b a
              ]
        ]

-- symmetry of the words need not be asked for beside
words_symmetric : {n : ℕ} {adj ws : List ℕ} → Fits n adj ws → T (symmetric n adj)
unfolding symmetric
words_symmetric {n} {adj} {ws} f =
    upto_every (λ u. every (both u) (upto n)) n (λ u l. upto_every (both u) n (λ v m. alike u v l m))
  where
    both : ℕ → ℕ → Bool
    both u v = beq (linked adj u v) (linked adj v u)

    alike : (u v : ℕ) → u < n → v < n → T (both u v)
    alike u v l m =
        subst (λ (b : Bool). T (beq (linked adj u v) b)) (sym (f.edges u v l m) ∙ ap (ltb 0) (f.even u v l m) ∙ f.edges v u m l)
        (beq_self (linked adj u v))

-- so of a graph with weights
pub weighted_graph : (n : ℕ) (adj ws : List ℕ)
    → (leb n 64 && loopless n adj && bits_below n adj && zero_from n adj && (even_below n ws && on_edges adj ws))
    ≡ (leb n 64 && symmetric n adj && loopless n adj && bits_below n adj && zero_from n adj && weights_fit n adj ws)
weighted_graph n adj ws =
    left_out (leb n 64) (symmetric n adj) (loopless n adj) (bits_below n adj) (zero_from n adj) (even_below n ws && on_edges adj ws) (weights_fit n adj ws)
    (λ few low unused. fit_passes n adj ws (small few) low unused)
    (λ few t. words_symmetric (fits_each (small few) t))
  where
    small : T (leb n 64) → n ≤ 64
    small few = leb-true n 64 (T_true (leb n 64) few)

    left_out : (a s l b z e f : Bool) → (T a → T b → T z → e ≡ f) → (T a → T f → T s) → (a && l && b && z && e) ≡ (a && s && l && b && z && f)
    left_out false s l b z e f g h = refl
    left_out true true false b z e f g h = refl
    left_out true true true false z e f g h = refl
    left_out true true true true false e f g h = refl
    left_out true true true true true e f g h = g tt tt tt
    left_out true false false b z e f g h = refl
    left_out true false true false z e f g h = refl
    left_out true false true true false e f g h = refl
    left_out true false true true true e true g h = absurd (h tt tt)
    left_out true false true true true e false g h = g tt tt tt

-- what a graph's words say first
pub bounded_few : (n : ℕ) (adj : List ℕ) → (leb n 64 && loopless n adj && bits_below n adj && zero_from n adj) ≡ true → n ≤ 64
bounded_few n adj e =
    let bounded = both_left (leb n 64 && loopless n adj && bits_below n adj) (zero_from n adj) e in
    let no_loop = both_left (leb n 64 && loopless n adj) (bits_below n adj) bounded in
    leb-true n 64 (both_left (leb n 64) (loopless n adj) no_loop)
