-- The sequence of a chart's links, and of the two ends of each, makes no difference to what the reader answers: neither to a layout nor to a refusal.
use Rattle.std.specs.Prelude.{ℕ, suc, ◌+◌, ◌≤◌, ◌≡◌, refl, Bool, true, false, not, cond, ◌&&◌, ◌||◌, length, take, eqb, ltb}
use Rattle.std.proofs.Common.{zero-le, zero-add, arith, ◌∙◌, subst, lit<, lt-ltb, le-ltb, ltb-false, eqb-true}
use Rattle.std.proofs.Math.Decide.{ℕ_discrete}
use Rattle.std.proofs.Math.Path.{sym, ap, ap₂}
use Rattle.std.proofs.lemmas.Bool.{false≢true}
use mathlib.Core.List.{List, [], ◌∷◌, ◌++◌}
use Rattle.std.proofs.Math.ListN.{get_or}
use Rattle.model.specs.declared.Edge.{Edge}
use Rattle.model.specs.Lists.{one, every, any, sum_over, no_repeats}
use Rattle.model.specs.Layouts.{is_weight}
use Rattle.model.specs.Checks.{Check, refusal}
use Rattle.model.specs.Charts.{body_of, chart_size, chart_edges, chart_order, edges_in, same_edge, edge_within}
use Rattle.model.specs.Charts.{chart_checks, size_checks, end_checks, repeat_checks, place_checks, weight_checks, chart_weights, read_of}
use Rattle.laws.specs.Sums.Lists.{All, none, also, all_mono}
use Rattle.laws.specs.Sums.Every.{every_all, all_every}
use Rattle.laws.specs.Sums.Indicators.{both_left, both_right}
use Rattle.laws.specs.Layouts.Refusals.{Numbered, all_pass}
use Rattle.laws.specs.Layouts.FirstCrossing.{self_same}
use Rattle.laws.specs.Charts.Ends.{edge, edge_swap}
use Rattle.laws.specs.Charts.Weights.{listed_weight}
use Rattle.laws.specs.Charts.Passes.{refused_read}
use Rattle.laws.specs.Charts.Reading.{read_number, read_refused, accepted_once, chart_weight, same_charts}

-- ---- how often an edge is written

-- the edges are written lower end first, so this counts a pair of ends either way round
unfoldable pub written : Edge → List Edge → ℕ
written e es = sum_over (λ f. one (same_edge e f)) es

-- each edge is written as often in the one as in the other: the same edges, in whatever sequence
pub record SameEdges (es fs : List Edge) : Type 0 where
  pub often : (e : Edge) → written e es ≡ written e fs

abbrev with_ends : ℕ → ℕ → Edge
with_ends a b = record { low = a; high = b }

ends_same : (e f : Edge) → same_edge e f ≡ true → e ≡ f
unfolding same_edge
ends_same e f t =
    let lows = eqb e.low f.low in
    let highs = eqb e.high f.high in
    ap₂ with_ends (eqb-true e.low f.low (both_left lows highs t)) (eqb-true e.high f.high (both_right lows highs t))

pub written_any : (e : Edge) (es : List Edge) → any (same_edge e) es ≡ ltb 0 (written e es)
unfolding any written sum_over one
written_any e [] = refl
written_any e (x ∷ xs) = by_test (same_edge e x) (written_any e xs)
  where
    by_test : (b : Bool) → any (same_edge e) xs ≡ ltb 0 (written e xs) → (b || any (same_edge e) xs) ≡ ltb 0 (one b + written e xs)
    by_test true r = sym (lt-ltb 0 (1 + written e xs) (omega arith))
    by_test false r = r ∙ ap (ltb 0) (sym (zero-add (written e xs)))

-- ---- questions 6 and 7, and the words, asked of edges in another sequence

-- an edge that is written passes what each one passes
there_passes : (p : Edge → Bool) (e : Edge) {es : List Edge} → All (λ x. p x ≡ true) es → any (same_edge e) es ≡ true → p e ≡ true
unfolding any
there_passes p e none t = absurd (false≢true t)
there_passes p e (also {x} {xs} h hs) t = by_test (same_edge e x) refl t (there_passes p e hs)
  where
    by_test : (b : Bool) → same_edge e x ≡ b → (b || any (same_edge e) xs) ≡ true → (any (same_edge e) xs ≡ true → p e ≡ true) → p e ≡ true
    by_test true same z r = ap p (ends_same e x same) ∙ h
    by_test false same z r = r z

-- each edge of a list is written in it
all_there : (es : List Edge) → All (λ e. any (same_edge e) es ≡ true) es
unfolding any
all_there [] = none
all_there (x ∷ xs) = also (ap (λ (b : Bool). b || any (same_edge x) xs) (self_same x)) (all_mono (all_there xs) (λ e t. later (same_edge e x) t))
  where
    later : (b : Bool) {c : Bool} → c ≡ true → (b || c) ≡ true
    later true t = refl
    later false t = t

-- no edge is written twice
unwritten : (e : Edge) (es : List Edge) (b : Bool) → b ≡ ltb 0 (written e es) → not b ≡ true → written e es ≡ 0
unwritten e es true z t = absurd (false≢true t)
unwritten e es false z t = omega (arith, ltb-false 0 (written e es) (sym z))

pub written_few : (es : List Edge) → no_repeats same_edge es ≡ true → (e : Edge) → written e es ≤ 1
unfolding no_repeats written sum_over one
written_few [] n e = zero-le
written_few (x ∷ xs) n e = by_test (same_edge e x) refl (written_few xs (both_right (not (any (same_edge x) xs)) (no_repeats same_edge xs) n) e)
  where
    new : written x xs ≡ 0
    new = unwritten x xs (any (same_edge x) xs) (written_any x xs) (both_left (not (any (same_edge x) xs)) (no_repeats same_edge xs) n)

    by_test : (b : Bool) → same_edge e x ≡ b → written e xs ≤ 1 → one b + written e xs ≤ 1
    by_test true same l = omega (arith, ap (λ (f : Edge). written f xs) (ends_same e x same) ∙ new)
    by_test false same l = omega arith

pub few_once : (es : List Edge) → ((e : Edge) → written e es ≤ 1) → no_repeats same_edge es ≡ true
unfolding no_repeats written sum_over one
few_once [] h = refl
few_once (x ∷ xs) h =
    ap₂ (λ (a b : Bool). not a && b)
    (written_any x xs ∙ le-ltb 0 (written x xs) (omega (arith, h x, ap one (self_same x))))
    (few_once xs (λ e. omega (arith, h e)))

module _ {es fs : List Edge} (same : SameEdges es fs) where
  pub same_member : (e : Edge) → any (same_edge e) es ≡ any (same_edge e) fs
  same_member e = written_any e es ∙ ap (ltb 0) (same.often e) ∙ sym (written_any e fs)

  every_there : (p : Edge → Bool) → every p es ≡ true → every p fs ≡ true
  every_there p t = every_all (all_mono (all_there fs) (λ e there. there_passes p e (all_every p es t) (same_member e ∙ there)))

  once_there : no_repeats same_edge es ≡ true → no_repeats same_edge fs ≡ true
  once_there t = few_once fs (λ e. subst (λ (k : ℕ). k ≤ 1) (same.often e) (written_few es t e))

turned : {es fs : List Edge} → SameEdges es fs → SameEdges fs es
turned same = record { often = λ e. sym (same.often e) }

-- two tests, of which each passes where the other does
same_test : (a b : Bool) → (a ≡ true → b ≡ true) → (b ≡ true → a ≡ true) → a ≡ b
same_test true b f g = sym (f refl)
same_test false true f g = g refl
same_test false false f g = refl

module _ {es fs : List Edge} (same : SameEdges es fs) where
  pub same_every : (p : Edge → Bool) → every p es ≡ every p fs
  same_every p = same_test (every p es) (every p fs) (every_there same p) (every_there (turned same) p)

  pub same_repeats : no_repeats same_edge es ≡ no_repeats same_edge fs
  same_repeats = same_test (no_repeats same_edge es) (no_repeats same_edge fs) (once_there same) (once_there (turned same))

-- ---- links written in another way

add_swap : (a b c : ℕ) → a + (b + c) ≡ b + (a + c)
add_swap a b c = omega arith

-- links, two bytes each, and their weights that differ only in the sequence of the links, each with its weight, and of the ends of each
pub data Rewritten : List ℕ → List ℕ → List ℕ → List ℕ → Type 0 where
  as_is : {s ws : List ℕ} → Rewritten s ws s ws
  ends_exchanged : {a b : ℕ} {s ws : List ℕ} → Rewritten (a ∷ b ∷ s) ws (b ∷ a ∷ s) ws
  links_exchanged : {a b c d x y : ℕ} {s ws : List ℕ} → Rewritten (a ∷ b ∷ c ∷ d ∷ s) (x ∷ y ∷ ws) (c ∷ d ∷ a ∷ b ∷ s) (y ∷ x ∷ ws)
  behind : {a b x : ℕ} {s ws t vs : List ℕ} → Rewritten s ws t vs → Rewritten (a ∷ b ∷ s) (x ∷ ws) (a ∷ b ∷ t) (x ∷ vs)
  and_then : {s ws t vs u us : List ℕ} → Rewritten s ws t vs → Rewritten t vs u us → Rewritten s ws u us

pub rewritten_length : {s ws t vs : List ℕ} → Rewritten s ws t vs → (length s ≡ length t) × (length ws ≡ length vs)
rewritten_length as_is = (refl, refl)
rewritten_length ends_exchanged = (refl, refl)
rewritten_length links_exchanged = (refl, refl)
rewritten_length (behind r) = let q = rewritten_length r in (ap (λ (k : ℕ). suc (suc k)) q.0, ap suc q.1)
rewritten_length (and_then r q) =
    let first = rewritten_length r in
    let second = rewritten_length q in
    (first.0 ∙ second.0, first.1 ∙ second.1)

often_rewritten : {s ws t vs : List ℕ} → Rewritten s ws t vs → (e : Edge) → written e (edges_in s) ≡ written e (edges_in t)
unfolding edges_in written sum_over edge
often_rewritten as_is e = refl
often_rewritten (ends_exchanged {a} {b} {s}) e = ap (λ (f : Edge). written e (f ∷ edges_in s)) (edge_swap a b)
often_rewritten (links_exchanged {a} {b} {c} {d} {s = s}) e =
    add_swap (one (same_edge e (edge a b))) (one (same_edge e (edge c d))) (written e (edges_in s))
often_rewritten (behind {a} {b} r) e = ap (λ (k : ℕ). one (same_edge e (edge a b)) + k) (often_rewritten r e)
often_rewritten (and_then r q) e = often_rewritten r e ∙ often_rewritten q e

pub rewritten_edges : {s ws t vs : List ℕ} → Rewritten s ws t vs → SameEdges (edges_in s) (edges_in t)
rewritten_edges r = record { often = often_rewritten r }

-- the weights are the same ones
rewritten_every : (p : ℕ → Bool) {s ws t vs : List ℕ} → Rewritten s ws t vs → every p ws ≡ every p vs
unfolding every
rewritten_every p as_is = refl
rewritten_every p ends_exchanged = refl
rewritten_every p (links_exchanged {x = x} {y = y} {ws = ws}) = swap (p x) (p y) (every p ws)
  where
    swap : (a b c : Bool) → (a && (b && c)) ≡ (b && (a && c))
    swap true b c = refl
    swap false true c = refl
    swap false false c = refl
rewritten_every p (behind {x = x} r) = ap (λ (b : Bool). p x && b) (rewritten_every p r)
rewritten_every p (and_then r q) = rewritten_every p r ∙ rewritten_every p q

-- and, where no edge is written twice, each edge has the same one
rewritten_weight : {s ws t vs : List ℕ} → Rewritten s ws t vs → no_repeats same_edge (edges_in s) ≡ true
    → (a b : ℕ) → listed_weight (edges_in s) ws a b ≡ listed_weight (edges_in t) vs a b
unfolding edges_in listed_weight edge no_repeats any
rewritten_weight as_is once i j = refl
rewritten_weight (ends_exchanged {a} {b} {s} {ws}) once i j = ap (λ (f : Edge). listed_weight (f ∷ edges_in s) ws i j) (edge_swap a b)
rewritten_weight (links_exchanged {a} {b} {c} {d} {x} {y} {s} {ws}) once i j =
    swap (same_edge (edge a b) here) (same_edge (edge c d) here)
    both_there (listed_weight (edges_in s) ws i j)
  where
    here : Edge
    here = with_ends i j

    both_there : same_edge (edge a b) here ≡ true → same_edge (edge c d) here ≡ true → ⊥
    both_there p q =
        let alike : same_edge (edge a b) (edge c d) ≡ true = ap₂ same_edge (ends_same (edge a b) here p) (ends_same (edge c d) here q) ∙ self_same here in
        false≢true
        (sym (ap not (ap (λ (t : Bool). t || any (same_edge (edge a b)) (edges_in s)) alike))
        ∙ both_left (not (same_edge (edge a b) (edge c d) || any (same_edge (edge a b)) (edges_in s))) (no_repeats same_edge (edge c d ∷ edges_in s)) once)

    swap : (p q : Bool) → (p ≡ true → q ≡ true → ⊥) → (rest : ℕ) → cond p x (cond q y rest) ≡ cond q y (cond p x rest)
    swap true true n rest = absurd (n refl refl)
    swap true false n rest = refl
    swap false q n rest = refl
rewritten_weight (behind {a} {b} {x} {s} {ws} r) once i j =
    ap (λ (k : ℕ). cond (same_edge (edge a b) (with_ends i j)) x k)
    (rewritten_weight r (both_right (not (any (same_edge (edge a b)) (edges_in s))) (no_repeats same_edge (edges_in s)) once) i j)
rewritten_weight (and_then r q) once i j =
    rewritten_weight r once i j ∙ rewritten_weight q (sym (same_repeats (rewritten_edges r)) ∙ once) i j

-- ---- the whole chart

-- two charts, each in the fields 44, 4C and 52, with 57 or without it, that differ in the sequence of the edges, each with its weight
pub record SameButSequence (s t : List ℕ) : Type 0 where
  pub first_fields : refusal (take 3 (chart_checks s)) ≡ 0
  pub second_fields : refusal (take 3 (chart_checks t)) ≡ 0
  pub sizes : body_of s 0 ≡ body_of t 0
  pub lengths : length (body_of s 1) ≡ length (body_of t 1)
  pub links : SameEdges (chart_edges s) (chart_edges t)
  pub orders : body_of s 2 ≡ body_of t 2
  pub many : length (chart_weights s) ≡ length (chart_weights t)
  pub heavy : every is_weight (chart_weights s) ≡ every is_weight (chart_weights t)
  pub weights : no_repeats same_edge (chart_edges s) ≡ true → (a b : ℕ) → chart_weight s a b ≡ chart_weight t a b

three_numbered : (s : List ℕ) → Numbered (take 3 (chart_checks s))
unfolding chart_checks
three_numbered s = also (lit< tt) (also (lit< tt) (also (lit< tt) none))

-- what the questions from 4 on ask of the bodies
questions : List ℕ → List ℕ → List ℕ → List ℕ → List Check
questions size links o ws =
    size_checks size ++ end_checks (get_or size 0 0) links ++ repeat_checks links ++ place_checks (get_or size 0 0) o ++ weight_checks links ws

-- where the first three pass, the others are left
unfoldable passing : List Check → List Check
passing rest = record { passes = true; code = 1 } ∷ record { passes = true; code = 2 } ∷ record { passes = true; code = 3 } ∷ rest

in_fields : (s : List ℕ) → refusal (take 3 (chart_checks s)) ≡ 0
    → chart_checks s ≡ passing (questions (body_of s 0) (body_of s 1) (body_of s 2) (chart_weights s))
unfolding chart_checks passing questions chart_size chart_order
in_fields s z = from (all_pass (three_numbered s) z)
  where
    from : All (λ c. c.passes ≡ true) (take 3 (chart_checks s))
        → chart_checks s ≡ passing (questions (body_of s 0) (body_of s 1) (body_of s 2) (chart_weights s))
    from (also p (also q (also r none))) = rw (p, q, r)

-- as many bytes give as many edges
edges_long : (s t : List ℕ) → length s ≡ length t → length (edges_in s) ≡ length (edges_in t)
unfolding edges_in
edges_long [] [] e = refl
edges_long (a ∷ []) (b ∷ []) e = refl
edges_long (a ∷ b ∷ s) (c ∷ d ∷ t) e = ap suc (edges_long s t (omega arith))
edges_long [] (b ∷ t) e = absurd (omega arith)
edges_long (a ∷ s) [] e = absurd (omega arith)
edges_long (a ∷ []) (c ∷ d ∷ t) e = absurd (omega arith)
edges_long (a ∷ b ∷ s) (c ∷ []) e = absurd (omega arith)

same_questions : (size links other o ws vs : List ℕ) → length links ≡ length other → SameEdges (edges_in links) (edges_in other)
    → length ws ≡ length vs → every is_weight ws ≡ every is_weight vs → questions size links o ws ≡ questions size other o vs
unfolding questions end_checks repeat_checks weight_checks
same_questions size links other o ws vs long same many heavy =
    rw (long, same_every same (edge_within (get_or size 0 0)), same_repeats same, many, edges_long links other long, heavy)

module _ {s t : List ℕ} (same : SameButSequence s t) where
  same_checks : chart_checks s ≡ chart_checks t
  unfolding chart_edges
  same_checks =
      in_fields s same.first_fields
      ∙ ap passing
      (same_questions (body_of s 0) (body_of s 1) (body_of t 1) (body_of s 2) (chart_weights s) (chart_weights t) same.lengths same.links same.many
      same.heavy
      ∙ ap₂ (λ (x y : List ℕ). questions x (body_of t 1) y (chart_weights t)) same.sizes same.orders)
      ∙ sym (in_fields t same.second_fields)

  -- the same answer: the same layout, or the same refusal
  pub sequence_free : read_of s ≡ read_of t
  unfolding chart_size chart_order
  sequence_free =
      elim (ℕ_discrete (read_of s).refusal 0) [
        | yes p ↦
            same_charts s t p (sym same_number ∙ p) (ap (λ (x : List ℕ). get_or x 0 0) same.sizes) same.orders (same_member same.links)
            (λ e. same.weights (accepted_once s p) e.low e.high)
        | no d ↦ read_refused s d ∙ ap refused_read same_number ∙ sym (read_refused t (λ z. d (same_number ∙ z)))
      ]
    where
      same_number : (read_of s).refusal ≡ (read_of t).refusal
      same_number = read_number s ∙ ap refusal same_checks ∙ sym (read_number t)

-- so does a chart whose links are rewritten, with their weights: another sequence, ends exchanged
pub rewriting_free : (s t : List ℕ) → refusal (take 3 (chart_checks s)) ≡ 0 → refusal (take 3 (chart_checks t)) ≡ 0
    → body_of s 0 ≡ body_of t 0 → Rewritten (body_of s 1) (chart_weights s) (body_of t 1) (chart_weights t) → body_of s 2 ≡ body_of t 2 → read_of s ≡ read_of t
unfolding chart_edges
rewriting_free s t first second sizes links orders =
    sequence_free
    (record {
      first_fields = first;
      second_fields = second;
      sizes = sizes;
      lengths = (rewritten_length links).0;
      links = rewritten_edges links;
      orders = orders;
      many = (rewritten_length links).1;
      heavy = rewritten_every is_weight links;
      weights = rewritten_weight links;
    })
