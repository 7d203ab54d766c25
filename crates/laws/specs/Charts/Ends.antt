-- Edges by their two ends, either end first: their ends below n, and the edges that the bytes of a chart list one after the other.
use Rattle.std.specs.Prelude.{ℕ, ◌+◌, ◌≤◌, ◌<◌, min, max, ◌≡◌, refl, Bool, true, false, not, ◌&&◌, ◌||◌, List, [], ◌∷◌, length, get_or, drop, eqb, ltb}
use Rattle.std.proofs.Common.{add-suc, lt_of_lt_of_le, add-one, arith, sym, ap, ap₂, ◌∙◌, length-drop, drop-cons, lt-ltb, le-ltb, ltb-true, eq-eqb, ne_eqb, eqb-true}
use Rattle.std.proofs.Math.Nat.{min_comm, max_comm}
use Rattle.std.proofs.Math.Decide.{ℕ_discrete}
use Rattle.std.proofs.Math.Bool.{and-false}
use Rattle.model.specs.declared.Edge.{Edge}
use Rattle.model.specs.Lists.{every, any}
use Rattle.model.specs.Charts.{edges_in, same_edge, edge_within, joins}
use Rattle.laws.specs.Sums.Indicators.{less, same, more, order, both_left, both_right}
use Rattle.laws.specs.Sums.Lists.{All, none, also, all_mono}
use Rattle.laws.specs.Sums.Every.{every_all, all_every}

-- ---- an edge with two ends

unfoldable pub edge : ℕ → ℕ → Edge
edge a b = record { low = min a b; high = max a b }

-- the ends below n and different
pub edge_within_lem : (n a b : ℕ) → a < n → b < n → edge_within n (edge a b) ≡ not (eqb a b)
unfolding edge_within edge
edge_within_lem n a b h l =
    elim (order a b) [
      | less e ↦ rw (ne_eqb a b (λ z. omega arith), lt-ltb (min a b) (max a b) (omega arith), lt-ltb (max a b) n (omega arith))
      | same e ↦ rw (eq-eqb a b e, le-ltb (min a b) (max a b) (omega arith))
      | more e ↦ rw (ne_eqb a b (λ z. omega arith), lt-ltb (min a b) (max a b) (omega arith), lt-ltb (max a b) n (omega arith))
    ]

pub edge_outside : (n a b : ℕ) → n ≤ max a b → edge_within n (edge a b) ≡ false
unfolding edge_within edge
edge_outside n a b h = rw (le-ltb (max a b) n h) (and-false (ltb (min a b) (max a b)))

pub record Ends (n a b : ℕ) : Type 0 where
  pub first : a < n
  pub second : b < n
  pub differ : a ≡ b → ⊥

pub edge_ends : (n a b : ℕ) → edge_within n (edge a b) ≡ true → Ends n a b
unfolding edge_within edge
edge_ends n a b e =
    let low : min a b < max a b = ltb-true (min a b) (max a b) (both_left (ltb (min a b) (max a b)) (ltb (max a b) n) e) in
    let high : max a b < n = ltb-true (max a b) n (both_right (ltb (min a b) (max a b)) (ltb (max a b) n) e) in
    record { first = omega arith; second = omega arith; differ = λ z. omega arith }

-- the same edge has the same ends, either way round
pub edge_swap : (a b : ℕ) → edge a b ≡ edge b a
unfolding edge
edge_swap a b = rw (min_comm a b, max_comm a b)

pub same_edge_lem : (a b : ℕ) → same_edge (edge a b) (edge a b) ≡ true
unfolding same_edge edge
same_edge_lem a b = rw (eq-eqb (min a b) (min a b) refl, eq-eqb (max a b) (max a b) refl)

pub other_edge : (a b u v : ℕ) → ((a ≡ u) × (b ≡ v) → ⊥) → ((a ≡ v) × (b ≡ u) → ⊥) → same_edge (edge a b) (edge u v) ≡ false
unfolding same_edge edge
other_edge a b u v d f =
    elim (ℕ_discrete (min a b) (min u v)) [
      | no k ↦ rw (ne_eqb (min a b) (min u v) k)
      | yes k ↦
          elim (ℕ_discrete (max a b) (max u v)) [
            | no l ↦ rw (ne_eqb (max a b) (max u v) l) (and-false (eqb (min a b) (min u v)))
            | yes l ↦ absurd (both k l)
          ]
    ]
  where
    both : min a b ≡ min u v → max a b ≡ max u v → ⊥
    both k l =
        elim (ℕ_discrete a u) [
          | yes e ↦ d (e, omega arith)
          | no g ↦ f (omega arith, omega arith)
        ]

-- ---- the edges from a place of the body on

pub edges_next : (s : List ℕ) (i : ℕ) → i + 1 < length s → edges_in (drop i s) ≡ edge (get_or s i 0) (get_or s (i + 1) 0) ∷ edges_in (drop (i + 2) s)
unfolding edges_in edge
edges_next s i h =
    ap edges_in
    (drop-cons s i 0 (omega arith)
    ∙ ap (λ (x : List ℕ). get_or s i 0 ∷ x) (ap (λ (k : ℕ). drop k s) (sym (add-one i)) ∙ drop-cons s (i + 1) 0 h ∙ ap
    (λ (k : ℕ). get_or s (i + 1) 0 ∷ drop k s) (sym (add-suc i 1))))

pub edges_last : (s : List ℕ) (i : ℕ) → length s ≤ i + 1 → edges_in (drop i s) ≡ []
unfolding edges_in
edges_last s i h = short (drop i s) (omega (arith, length-drop i s))
  where
    short : (xs : List ℕ) → length xs ≤ 1 → edges_in xs ≡ []
    short [] l = refl
    short (x ∷ []) l = refl
    short (x ∷ y ∷ xs) l = absurd (omega arith)

-- ---- edges whose ends are below n

-- ends below n are below m
pub within_mono : (n m : ℕ) → n ≤ m → (es : List Edge) → every (edge_within n) es ≡ true → every (edge_within m) es ≡ true
unfolding edge_within
within_mono n m h es e = every_all (all_mono (all_every (edge_within n) es e) wider)
  where
    wider : (x : Edge) → edge_within n x ≡ true → edge_within m x ≡ true
    wider x w =
        ap₂ (λ (a b : Bool). a && b) (both_left (ltb x.low x.high) (ltb x.high n) w)
        (lt-ltb x.high m (lt_of_lt_of_le (ltb-true x.high n (both_right (ltb x.low x.high) (ltb x.high n) w)) h))

-- what they join are ends
ends_joined : (n u v : ℕ) (x : Edge) → edge_within n x ≡ true → joins u v x ≡ true → Ends n u v
unfolding edge_within joins same_edge
ends_joined n u v x w j =
    let rising : x.low < x.high = ltb-true x.low x.high (both_left (ltb x.low x.high) (ltb x.high n) w) in
    let below : x.high < n = ltb-true x.high n (both_right (ltb x.low x.high) (ltb x.high n) w) in
    let low : x.low ≡ min u v = eqb-true x.low (min u v) (both_left (eqb x.low (min u v)) (eqb x.high (max u v)) j) in
    let high : x.high ≡ max u v = eqb-true x.high (max u v) (both_right (eqb x.low (min u v)) (eqb x.high (max u v)) j) in
    record { first = omega arith; second = omega arith; differ = λ z. omega arith }

pub joins_none : (n u v : ℕ) (es : List Edge) → every (edge_within n) es ≡ true → (Ends n u v → ⊥) → any (joins u v) es ≡ false
unfolding any
joins_none n u v es e d = none_joins (all_mono (all_every (edge_within n) es e) (λ x w. one_joins x w (joins u v x) refl))
  where
    none_joins : {xs : List Edge} → All (λ x. joins u v x ≡ false) xs → any (joins u v) xs ≡ false
    none_joins none = refl
    none_joins (also z zs) = ap₂ (λ (a b : Bool). a || b) z (none_joins zs)

    one_joins : (x : Edge) → edge_within n x ≡ true → (b : Bool) → joins u v x ≡ b → b ≡ false
    one_joins x w true z = absurd (d (ends_joined n u v x w z))
    one_joins x w false z = refl

-- either end first
pub joins_swap : (u v : ℕ) (es : List Edge) → any (joins u v) es ≡ any (joins v u) es
unfolding joins edge
joins_swap u v es = ap (λ (x : Edge). any (λ e. same_edge e x) es) (edge_swap u v)
