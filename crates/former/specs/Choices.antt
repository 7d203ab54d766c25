-- The next vertex: if the best of some vertices passes a test, it is the best of those that pass.
use Rattle.std.specs.Prelude.{ℕ, ◌≤◌, ◌<◌, ◌≡◌, Bool, cond}
use Rattle.std.proofs.Common.{le_refl, le_of_eq, le_of_lt, ne_of_lt, arith, sym, ap, ◌∙◌, subst, true≢false}
use Rattle.std.proofs.Math.Decide.{dec_lt}
use Rattle.std.proofs.Math.Path.{refl}
use Rattle.std.proofs.Math.Bool.{true, false}
use mathlib.Core.List.{List, [], ◌∷◌}
use borrow.Author.Tests.{eq-eqb, ne_eqb, lt-ltb, le-ltb}
use Rattle.model.specs.Lists.{keep}
use Rattle.model.specs.GreedyAppend.{unplaced, degree_in, preferred, best_of, next_vertex}
use Rattle.laws.specs.Sums.Indicators.{less, same, more, order}

module _ (n : ℕ) (adj xs : List ℕ) where
  abbrev placed_degree : ℕ → ℕ
  placed_degree v = degree_in adj v xs

  abbrev unplaced_degree : ℕ → ℕ
  unplaced_degree v = degree_in adj v (unplaced n xs)

  -- does v come before u, and which of its neighbours decide?
  data Before (v u : ℕ) : Bool → Type 0 where
    more_placed : placed_degree u < placed_degree v → Before v u true
    fewer_unplaced : placed_degree v ≡ placed_degree u → unplaced_degree v < unplaced_degree u → Before v u true
    fewer_placed : placed_degree v < placed_degree u → Before v u false
    no_fewer_unplaced : placed_degree v ≡ placed_degree u → unplaced_degree u ≤ unplaced_degree v → Before v u false

  decided : {v u : ℕ} {b : Bool} → Before v u b → preferred n adj xs v u ≡ b
  unfolding preferred
  decided (more_placed l) = rw (lt-ltb _ _ l)
  decided (fewer_unplaced e l) = rw (le-ltb _ _ (le_of_eq e), eq-eqb _ _ e, lt-ltb _ _ l)
  decided (fewer_placed l) = rw (le-ltb _ _ (le_of_lt l), ne_eqb _ _ (ne_of_lt l))
  decided (no_fewer_unplaced e l) = rw (le-ltb _ _ (le_of_eq e), eq-eqb _ _ e, le-ltb _ _ l)

  by_degrees : (v u : ℕ) → Before v u (preferred n adj xs v u)
  by_degrees v u =
      elim (order (placed_degree v) (placed_degree u)) [
        | less l ↦ told (fewer_placed l)
        | same e ↦ elim (dec_lt (unplaced_degree v) (unplaced_degree u)) [ yes l ↦ told (fewer_unplaced e l) | no l ↦ told (no_fewer_unplaced e (omega arith)) ]
        | more l ↦ told (more_placed l)
      ]
    where
      told : {b : Bool} → Before v u b → Before v u (preferred n adj xs v u)
      told w = subst (Before v u) (sym (decided w)) w

  -- what comes before b comes before what does not, and not the other way round
  overtakes : {v b c : ℕ} → Before v b true → Before c b false → Before v c true × Before c v false
  overtakes (more_placed l) (fewer_placed k) = (more_placed (omega arith), fewer_placed (omega arith))
  overtakes (more_placed l) (no_fewer_unplaced e k) = (more_placed (omega arith), fewer_placed (omega arith))
  overtakes (fewer_unplaced d l) (fewer_placed k) = (more_placed (omega arith), fewer_placed (omega arith))
  overtakes (fewer_unplaced d l) (no_fewer_unplaced e k) =
      (fewer_unplaced (omega arith) (omega arith), no_fewer_unplaced (omega arith) (omega arith))

  abbrev better : ℕ → ℕ → ℕ
  better v b = cond (preferred n adj xs v b) v b

  abbrev best : ℕ → List ℕ → ℕ
  best b vs = best_of n adj xs b vs

  module _ (p : ℕ → Bool) where
    -- b is the best so far, and c the best of those that passed
    record Behind (b c : ℕ) : Type 0 where
      after : Before c b false
      same_if_passed : p b ≡ true → c ≡ b

    together : (b : ℕ) → Behind b b
    together b = record { after = no_fewer_unplaced refl (le_refl (unplaced_degree b)); same_if_passed = λ t. refl }

    apart : {b c : ℕ} → p b ≡ false → Before c b false → Behind b c
    apart f w = record { after = w; same_if_passed = λ t. absurd (true≢false (sym t ∙ f)) }

    -- one vertex more
    next_behind : (v : ℕ) {b c : ℕ} → Behind b c → Behind (better v b) (cond (p v) (better v c) c)
    next_behind v {b} {c} r = by_tests (p v) (preferred n adj xs v b) (preferred n adj xs v c) refl (by_degrees v b) refl
      where
        by_tests : (k a d : Bool) → p v ≡ k → Before v b a → preferred n adj xs v c ≡ d → Behind (cond a v b) (cond k (cond d v c) c)
        by_tests true true true e w f = together v
        by_tests true true false e w f = absurd (true≢false (sym (decided (overtakes w r.after).0) ∙ f))
        by_tests true false true e w f =
            record { after = w; same_if_passed = λ t. absurd (true≢false (sym f ∙ ap (preferred n adj xs v) (r.same_if_passed t) ∙ decided w)) }
        by_tests true false false e w f = r
        by_tests false true d e w f = apart e (overtakes w r.after).1
        by_tests false false d e w f = r

    best_kept : (vs : List ℕ) {b c : ℕ} → Behind b c → p (best b vs) ≡ true → best c (keep p vs) ≡ best b vs
    unfolding best_of keep
    best_kept [] r t = r.same_if_passed t
    best_kept (v ∷ vs) {b} {c} r t = by_test (p v) ∙ best_kept vs (next_behind v r) t
      where
        by_test : (k : Bool) → best c (cond k (v ∷ keep p vs) (keep p vs)) ≡ best (cond k (better v c) c) (keep p vs)
        by_test true = refl
        by_test false = refl

    -- none has passed so far
    first_kept : (vs : List ℕ) (b : ℕ) → p b ≡ false → p (best b vs) ≡ true → next_vertex n adj xs (keep p vs) ≡ best b vs
    unfolding best_of keep next_vertex
    first_kept [] b f t = absurd (true≢false (sym t ∙ f))
    first_kept (v ∷ vs) b f t = by_tests (p v) (preferred n adj xs v b) refl (by_degrees v b) (first_kept vs) t
      where
        by_tests : (k a : Bool) → p v ≡ k → Before v b a
            → ((x : ℕ) → p x ≡ false → p (best x vs) ≡ true → next_vertex n adj xs (keep p vs) ≡ best x vs)
            → p (best (cond a v b) vs) ≡ true
            → next_vertex n adj xs (cond k (v ∷ keep p vs) (keep p vs)) ≡ best (cond a v b) vs
        by_tests true true e w rest u = best_kept vs (together v) u
        by_tests true false e w rest u = best_kept vs (apart f w) u
        by_tests false true e w rest u = rest v e u
        by_tests false false e w rest u = rest b f u

    pub next_kept : (vs : List ℕ) → p (next_vertex n adj xs vs) ≡ true → next_vertex n adj xs (keep p vs) ≡ next_vertex n adj xs vs
    unfolding next_vertex keep
    next_kept [] t = refl
    next_kept (v ∷ vs) t = by_test (p v) refl
      where
        by_test : (k : Bool) → p v ≡ k → next_vertex n adj xs (cond k (v ∷ keep p vs) (keep p vs)) ≡ best v vs
        by_test true e = best_kept vs (together v) t
        by_test false e = first_kept vs v e t
