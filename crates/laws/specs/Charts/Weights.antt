-- The table of weights that listed edges give, where the weights are W of their ends; and that weights listed beside edges are such.
use Prim.Native.Nat.{ℕ, ◌+◌, ◌*◌, ◌/◌, ◌%◌, ◌≤◌, ◌<◌, min, max}
use Rattle.std.proofs.Math.Nat.{min_comm, max_comm, min-eq_left, min-eq_right, max-eq_left, max-eq_right}
use Rattle.std.proofs.Common.{le_of_lt, lt_of_lt_of_le, arith, sym, ap, ap₂, ◌∙◌, length-set, ext_get_or}
use Rattle.std.proofs.Math.Decide.{ℕ_discrete}
use Rattle.std.specs.Prelude.{◌≡◌, Bool, not, cond, ◌||◌, length, get_or, replicate, T, eqb, ltb}
use Rattle.std.proofs.Math.Path.{refl, subst}
use Rattle.std.proofs.Math.Bool.{true, false}
use Rattle.std.proofs.lemmas.Bool.{false≢true}
use mathlib.Core.List.{List, [], ◌∷◌, ◌++◌, map, append-nil, append_assoc}
use Rattle.std.proofs.Math.ListN.{length-replicate, get_or-replicate}
use borrow.Author.Tests.{ltb-true, eqb-true, eq-eqb, lt-ltb, not-true}
use Rattle.model.specs.declared.Edge.{Edge}
use Rattle.model.specs.Lists.{every, any, no_repeats}
use Rattle.model.specs.Crossings.{edge_weight}
use Rattle.model.specs.Layouts.{table_places, table_weight, is_weight}
use Rattle.model.specs.Edits.{both_ways}
use Rattle.model.specs.Charts.{same_edge, edge_within, joins, with_weights, table_in}
use Rattle.laws.specs.Sums.Indicators.{both_left, both_right}
use Rattle.laws.specs.Sums.Lists.{All, none, also, all_mono}
use Rattle.laws.specs.Sums.Every.{all_every}
use Rattle.laws.specs.Sums.Any.{any_new, any_old, none_any}
use Rattle.laws.specs.Tables.Fits.{Fits, IsWeight, is_weight_lem}
use Rattle.laws.specs.Tables.Edits.{both_size, both_there, both_back, both_other}
use Rattle.laws.specs.Layouts.EdgeEdits.{both}
use Rattle.laws.specs.Layouts.FirstCrossing.{self_same}
use Rattle.laws.specs.Charts.Ends.{Ends, joins_none, joins_swap}
use Rattle.laws.specs.Charts.Words.{adjacency_of, adjacency_linked}

-- ---- the table, entry by entry

-- W where an edge joins the two, and 0 elsewhere
pub record WeighedBy (W : ℕ → ℕ → ℕ) (es : List Edge) (table : List ℕ) : Type 0 where
  pub size : length table ≡ table_places
  pub on : (u v : ℕ) → u < 64 → v < 64 → table_weight table u v ≡ cond (any (joins u v) es) (W (min u v) (max u v)) 0

record Rising (e : Edge) : Type 0 where
  pub rises : e.low < e.high
  pub below : e.high < 64

rising : (e : Edge) → edge_within 64 e ≡ true → Rising e
unfolding edge_within
rising e t =
    record {
      rises = ltb-true e.low e.high (both_left (ltb e.low e.high) (ltb e.high 64) t);
      below = ltb-true e.high 64 (both_right (ltb e.low e.high) (ltb e.high 64) t);
    }

-- an edge joins its ends, either first, and no others
module _ {e : Edge} (r : Rising e) where
  joins_there : joins e.low e.high e ≡ true
  unfolding joins same_edge
  joins_there =
      rw (
        eq-eqb e.low (min e.low e.high) (sym (min-eq_left (le_of_lt r.rises))),
        eq-eqb e.high (max e.low e.high) (sym (max-eq_right (le_of_lt r.rises))),
      )

  joins_back : joins e.high e.low e ≡ true
  unfolding joins same_edge
  joins_back =
      rw (
        eq-eqb e.low (min e.high e.low) (sym (min-eq_right (le_of_lt r.rises))),
        eq-eqb e.high (max e.high e.low) (sym (max-eq_left (le_of_lt r.rises))),
      )

  joins_other : (u v : ℕ) → (u ≡ e.low → v ≡ e.high → ⊥) → (u ≡ e.high → v ≡ e.low → ⊥) → joins u v e ≡ false
  unfolding joins same_edge
  joins_other u v there back = by_test (joins u v e) refl
    where
      by_test : (b : Bool) → joins u v e ≡ b → b ≡ false
      by_test false t = refl
      by_test true t =
          let low : e.low ≡ min u v = eqb-true e.low (min u v) (both_left (eqb e.low (min u v)) (eqb e.high (max u v)) t) in
          let high : e.high ≡ max u v = eqb-true e.high (max u v) (both_right (eqb e.low (min u v)) (eqb e.high (max u v)) t) in
          absurd
          (elim (ℕ_discrete u e.low) [
            | yes a ↦ there a (omega arith)
            | no a ↦ back (omega arith) (omega arith)
          ])

module _ {W : ℕ → ℕ → ℕ} where
  pub weighed_none : WeighedBy W [] (replicate table_places 0)
  unfolding any table_weight
  weighed_none =
      record {
        size = length-replicate {A = ℕ} table_places 0;
        on = λ u v h k. get_or-replicate {A = ℕ} table_places (64 * u + v) 0 0 (omega arith);
      }

  -- one edge more
  pub weighed_next : {es : List Edge} {table : List ℕ} → WeighedBy W es table → (e : Edge) → edge_within 64 e ≡ true
      → WeighedBy W (es ++ (e ∷ [])) (both_ways table e.low e.high (edge_weight W e))
  weighed_next {es} {table} w e t =
      let r = rising e t in
      let low : e.low < 64 = omega (arith, r.rises, r.below) in
      record {
        size = both_size table e.low e.high (edge_weight W e) w.size low r.below;
        on = λ u v h k.
            elim (both (ℕ_discrete u e.low) (ℕ_discrete v e.high)) [
              | yes p ↦
                  rw (p.0, p.1)
                  (both_there table e.low e.high (edge_weight W e) w.size low r.below (λ z. omega (arith, r.rises))
                  ∙ sym (rw (any_new (joins e.low e.high) es e (joins_there r))
                  (ap₂ W (min-eq_left (le_of_lt r.rises)) (max-eq_right (le_of_lt r.rises)))))
              | no p ↦
                  elim (both (ℕ_discrete u e.high) (ℕ_discrete v e.low)) [
                    | yes q ↦
                        rw (q.0, q.1)
                        (both_back table e.low e.high (edge_weight W e) w.size low r.below
                        ∙ sym (rw (any_new (joins e.high e.low) es e (joins_back r))
                        (ap₂ W (min-eq_right (le_of_lt r.rises)) (max-eq_left (le_of_lt r.rises)))))
                    | no q ↦
                        both_other table e.low e.high (edge_weight W e) w.size low r.below u v k (λ a b. p (a, b)) (λ a b. q (a, b))
                        ∙ w.on u v h k
                        ∙ ap (λ (b : Bool). cond b (W (min u v) (max u v)) 0)
                        (sym (any_old (joins u v) es e (joins_other r u v (λ a b. p (a, b)) (λ a b. q (a, b)))))
                  ]
            ];
      }

  weighed_more : {done : List Edge} {table : List ℕ} → WeighedBy W done table → {es : List Edge} → All (λ e. edge_within 64 e ≡ true) es
      → WeighedBy W (done ++ es) (with_weights table es (map (edge_weight W) es))
  unfolding with_weights
  weighed_more {done} {table} w none = subst (λ (xs : List Edge). WeighedBy W xs table) (sym (append-nil done)) w
  weighed_more {done} {table} w (also {x = e} {xs = es} t ts) =
      subst (λ (xs : List Edge). WeighedBy W xs (with_weights table (e ∷ es) (map (edge_weight W) (e ∷ es)))) (append_assoc done (e ∷ []) es)
      (weighed_more {done = done ++ (e ∷ [])} {table = with_weights table (e ∷ []) (edge_weight W e ∷ [])} (weighed_next w e t) ts)

  pub table_weighed : (es : List Edge) → every (edge_within 64) es ≡ true → WeighedBy W es (table_in es (map (edge_weight W) es))
  unfolding table_in
  table_weighed es within = weighed_more weighed_none (all_every (edge_within 64) es within)

-- a table of any weights has its places
pub table_size : (es : List Edge) (ws : List ℕ) → length (table_in es ws) ≡ table_places
unfolding table_in with_weights both_ways
table_size es ws = from (replicate table_places 0) es ws (length-replicate {A = ℕ} table_places 0)
  where
    from : (table : List ℕ) (es : List Edge) (ws : List ℕ) → length table ≡ table_places → length (with_weights table es ws) ≡ table_places
    from table [] ws e = e
    from table (x ∷ es) [] e = e
    from table (x ∷ es) (w ∷ ws) e = from (both_ways table x.low x.high w) es ws (simp length-set e)

-- two tables with the same entries
pub weighed_same : {U W : ℕ → ℕ → ℕ} {es fs : List Edge} {xs ys : List ℕ} → WeighedBy U es xs → WeighedBy W fs ys
    → ((u v : ℕ) → any (joins u v) es ≡ any (joins u v) fs) → ((a b : ℕ) → U a b ≡ W a b) → xs ≡ ys
unfolding table_weight
weighed_same {xs = xs} {ys = ys} x y edges weights =
    ext_get_or 0 xs ys (x.size ∙ sym y.size)
    (λ i h.
    let row : i / 64 < 64 = omega (arith, x.size) in
    let column : i % 64 < 64 = omega arith in
    let split : i ≡ 64 * (i / 64) + i % 64 = omega arith in
    ap (λ (k : ℕ). get_or xs k 0) split
    ∙ x.on (i / 64) (i % 64) row column
    ∙ ap₂ (λ (b : Bool) (w : ℕ). cond b w 0) (edges (i / 64) (i % 64)) (weights (min (i / 64) (i % 64)) (max (i / 64) (i % 64)))
    ∙ sym (y.on (i / 64) (i % 64) row column)
    ∙ ap (λ (k : ℕ). get_or ys k 0) (sym split))

-- so edges in another sequence give the same table
pub same_tables : (U W : ℕ → ℕ → ℕ) (es fs : List Edge) → every (edge_within 64) es ≡ true → every (edge_within 64) fs ≡ true
    → ((u v : ℕ) → any (joins u v) es ≡ any (joins u v) fs) → ((a b : ℕ) → U a b ≡ W a b)
    → table_in es (map (edge_weight U) es) ≡ table_in fs (map (edge_weight W) fs)
same_tables U W es fs p q edges weights = weighed_same (table_weighed {W = U} es p) (table_weighed {W = W} fs q) edges weights

-- what each edge's weight has, the weight of two that are joined has
pub joined_has : (P : ℕ → Type 0) (W : ℕ → ℕ → ℕ) (u v : ℕ) {es : List Edge} → All (λ e. P (edge_weight W e)) es → any (joins u v) es ≡ true
    → P (W (min u v) (max u v))
unfolding any joins same_edge
joined_has P W u v none t = absurd (false≢true t)
joined_has P W u v (also {x = e} {xs = es} p ps) t = by_test (joins u v e) refl t (joined_has P W u v ps)
  where
    by_test : (b : Bool) → joins u v e ≡ b → (b || any (joins u v) es) ≡ true → (any (joins u v) es ≡ true → P (W (min u v) (max u v)))
        → P (W (min u v) (max u v))
    by_test false j z r = r z
    by_test true j z r =
        let low = eqb-true e.low (min u v) (both_left (eqb e.low (min u v)) (eqb e.high (max u v)) j) in
        let high = eqb-true e.high (max u v) (both_right (eqb e.low (min u v)) (eqb e.high (max u v)) j) in
        subst P (ap₂ W low high) p

-- it fits the words of the edges
pub weighed_fits : {n : ℕ} {W : ℕ → ℕ → ℕ} {es : List Edge} {table : List ℕ} → n ≤ 64 → every (edge_within n) es ≡ true
    → All (λ e. IsWeight (edge_weight W e)) es → WeighedBy W es table → Fits n (adjacency_of es) table
weighed_fits {n} {W} {es} {table} few within weighs w =
    record {
      even = λ u v h k.
          w.on u v (wide h) (wide k)
          ∙ ap₂ (λ (b : Bool) (x : ℕ). cond b x 0) (joins_swap u v es) (ap₂ W (min_comm u v) (max_comm u v))
          ∙ sym (w.on v u (wide k) (wide h));
      edges = λ u v h k. ap (ltb 0) (w.on u v (wide h) (wide k)) ∙ (told u v).0 ∙ sym (adjacency_linked es u v (wide h) (wide k));
      light = λ u v h k. subst (λ (x : ℕ). x ≤ 255) (sym (w.on u v (wide h) (wide k))) (told u v).1;
      rows = λ u v h k m. outside u v k m (λ e. omega (arith, e.first));
      columns = λ u v k h m. outside u v k m (λ e. omega (arith, e.second));
    }
  where
    wide : {u : ℕ} → u < n → u < 64
    wide h = lt_of_lt_of_le h few

    by_test : (b : Bool) {x : ℕ} → (b ≡ true → IsWeight x) → (ltb 0 (cond b x 0) ≡ b) × (cond b x 0 ≤ 255)
    by_test false i = (refl, omega arith)
    by_test true {x} i = (lt-ltb 0 x (i refl).some, (i refl).few)

    told : (u v : ℕ) → let x = cond (any (joins u v) es) (W (min u v) (max u v)) 0 in (ltb 0 x ≡ any (joins u v) es) × (x ≤ 255)
    told u v = by_test (any (joins u v) es) (joined_has IsWeight W u v weighs)

    outside : (u v : ℕ) → u < 64 → v < 64 → (Ends n u v → ⊥) → table_weight table u v ≡ 0
    outside u v h k none-there = w.on u v h k ∙ ap (λ (b : Bool). cond b (W (min u v) (max u v)) 0) (joins_none n u v es within none-there)

-- ---- weights listed beside edges

-- the weight beside the first edge with these ends
unfoldable pub listed_weight : List Edge → List ℕ → ℕ → ℕ → ℕ
listed_weight [] ws a b = 0
listed_weight (e ∷ es) [] a b = 0
listed_weight (e ∷ es) (w ∷ ws) a b = cond (same_edge e (record { low = a; high = b })) w (listed_weight es ws a b)

map_all : {P : Edge → Type 0} (f g : Edge → ℕ) {es : List Edge} → All P es → ((e : Edge) → P e → f e ≡ g e) → map f es ≡ map g es
map_all f g none h = refl
map_all f g (also {x = e} p ps) h = ap₂ (λ (x : ℕ) (xs : List ℕ). x ∷ xs) (h e p) (map_all f g ps h)

-- where no edge is listed twice, the weights are those of the edges
pub listed_weights : (es : List Edge) (ws : List ℕ) → length ws ≡ length es → no_repeats same_edge es ≡ true
    → ws ≡ map (edge_weight (listed_weight es ws)) es
unfolding listed_weight no_repeats
listed_weights [] [] e once = refl
listed_weights [] (w ∷ ws) e once = absurd (omega arith)
listed_weights (x ∷ es) [] e once = absurd (omega arith)
listed_weights (x ∷ es) (w ∷ ws) e once =
    ap₂ (λ (a : ℕ) (rest : List ℕ). a ∷ rest)
    (sym (ap (λ (b : Bool). cond b w (listed_weight es ws x.low x.high)) (self_same x)))
    (listed_weights es ws (omega arith) (both_right (not (any (same_edge x) es)) (no_repeats same_edge es) once)
    ∙ map_all (edge_weight (listed_weight es ws)) (edge_weight (listed_weight (x ∷ es) (w ∷ ws)))
    (none_any (same_edge x) es (not-true (any (same_edge x) es) (both_left (not (any (same_edge x) es)) (no_repeats same_edge es) once)))
    (λ f other. sym (ap (λ (b : Bool). cond b w (listed_weight es ws f.low f.high)) other)))

all_unmap : {P : ℕ → Type 0} (f : Edge → ℕ) (es : List Edge) → All P (map f es) → All (λ e. P (f e)) es
all_unmap f [] none = none
all_unmap f (e ∷ es) (also p ps) = also p (all_unmap f es ps)

-- each a weight
pub listed_weigh : (es : List Edge) (ws : List ℕ) → length ws ≡ length es → no_repeats same_edge es ≡ true → every is_weight ws ≡ true
    → All (λ e. IsWeight (edge_weight (listed_weight es ws) e)) es
listed_weigh es ws e once t =
    let W = listed_weight es ws in
    all_unmap (edge_weight W) es
    (all_mono (subst (All (λ w. is_weight w ≡ true)) (listed_weights es ws e once) (all_every is_weight ws t)) (λ w p. is_weight_lem (subst T (sym p) tt)))
