-- Each crossing of the finished list is counted exactly once, at the step in which the first of its two edges closes: the crossings with a closed edge are those
-- met, and the tally grows by those whose first edge closes. Over any weight of the edges, and for the call lay.
use Prim.Native.Nat.{ℕ, zero, suc, ◌+◌, ◌*◌, ◌-◌, ◌≤◌, ◌<◌}
use Rattle.std.proofs.Math.Nat.{mul_comm, mul-add}
use Rattle.std.proofs.Common.{zero-mul, add-zero, add-suc, add-sub_of_le, le_refl, ◌∙◌, lt-ltb}
use native.Mathlib.Omega.{arith}
use Rattle.std.specs.Prelude.{◌≡◌, Bool, true, ◌&&◌, ◌||◌, T, eqb}
use Rattle.std.proofs.Math.Path.{refl, sym, ap, subst}
use Rattle.std.proofs.Math.Bool.{false, not, and-false, or-false, or-true}
use Rattle.std.proofs.lemmas.Bool.{false≢true}
use mathlib.Core.List.{List, [], ◌∷◌, ◌++◌, append-nil, append_assoc}
use Rattle.model.specs.declared.Layout.{Layout}
use Rattle.model.specs.Lists.{one, upto, any, sum_over, sum_pairs, member, occurrences}
use Rattle.model.specs.Layouts.{weight, crossings_of, valid, reordered}
use Rattle.model.specs.GreedyAppend.{unplaced, waiting, has_edges, next_vertex, closing, open', front_crossings, back_crossings}
use Rattle.model.specs.GreedyAppend.{Placing, alone, place_front, place_back, place_vertex, place_more, place_at_back, place_linked, place_all}
use Rattle.laws.specs.Sums.Indicators.{less, same, more, order, one_eq}
use Rattle.laws.specs.Sums.Ranges.{sum}
use Rattle.laws.specs.Sums.Lists.{All, none, also, all_places, sum_over_ext, sum_over_scale, sum_over_last, sum_over_keep, sum_pairs_scale}
use Rattle.laws.specs.Sums.Any.{any_append}
use Rattle.laws.specs.Sums.Pairs.{Symmetric}
use Rattle.laws.specs.Orders.Permutations.{at, Permutation, occurrences_cons, occurrences_append, occurrences_last, occurs_at, member_occurs}
use Rattle.laws.specs.Orders.Permutations.{order_sum, none_beyond}
use Rattle.laws.specs.Crossings.Lists.{sum_triples, sum_quads, triples_last, quads_last, sum_triples_ext, sum_triples_add, sum_quads_ext, sum_quads_add}
use Rattle.laws.specs.Crossings.Lists.{closed_crossings, closed_crossings_lem}
use Rattle.laws.specs.Layouts.Validity.{valid_symmetric}
use Rattle.laws.specs.Append.Order.{not_member, unplaced_front, unplaced_back}
use Rattle.laws.specs.Append.Crossings.{crossings_met, met_back, met_front, closing_edges, met_finished}
use Rattle.laws.specs.Layouts.Weights.{weight_within_words}
use Rattle.laws.specs.Append.Isolated.{isolated_at_back}
use Rattle.laws.specs.Append.Calls.{either_end, laid_start, laid_out}
use Rattle.laws.proofs.Append.Calls.{laid_more, lay_permutation, lay_crossings}
use Rattle.laws.specs.Append.Once.{after, steps, first_in, closed_in, crossings_closed, crossings_first, Around, around_all, around_front, around_back}

-- ---- which vertices stand outside

-- each entry is a member
all_members : (xs : List ℕ) → All (λ x. member x xs ≡ true) xs
all_members xs = all_places xs (λ i h. member_occurs (at xs i) xs ∙ lt-ltb 0 (occurrences (at xs i) xs) (occurs_at xs i h))

-- v is a vertex, and not one of xs
record Outside (n : ℕ) (xs : List ℕ) (v : ℕ) : Type 0 where
  below : v < n
  free : occurrences v xs ≡ 0

-- what occurs in an order is a vertex
occurs_below : {n : ℕ} {o : List ℕ} → Permutation n o → (v : ℕ) → 0 < occurrences v o → v < n
occurs_below {n} perm v h =
    elim (order v n) [
      | less l ↦ l
      | same e ↦ absurd (omega (arith, none_beyond perm v (omega arith)))
      | more l ↦ absurd (omega (arith, none_beyond perm v (omega arith)))
    ]

module _ {n : ℕ} {xs zs : List ℕ} (perm : Permutation n zs) (r : Around xs zs) where
  often : (v : ℕ) → occurrences v zs ≡ occurrences v r.ahead + (occurrences v xs + occurrences v r.behind)
  often v =
      ap (occurrences v) r.parts
      ∙ occurrences_append v r.ahead (xs ++ r.behind)
      ∙ ap (λ (k : ℕ). occurrences v r.ahead + k) (occurrences_append v xs r.behind)

  inside : All (λ x. x < n) xs
  inside = all_places xs (λ i h. occurs_below perm (at xs i) (omega (arith, often (at xs i), occurs_at xs i h)))

  outside : (v : ℕ) → 0 < occurrences v r.ahead + occurrences v r.behind → Outside n xs v
  outside v h =
      let l = occurs_below perm v (omega (arith, often v)) in
      record { below = l; free = omega (arith, often v, perm.once v l) }

  outside_ahead : All (Outside n xs) r.ahead
  outside_ahead = all_places r.ahead (λ i h. outside (at r.ahead i) (omega (arith, occurs_at r.ahead i h)))

  outside_behind : All (Outside n xs) r.behind
  outside_behind = all_places r.behind (λ i h. outside (at r.behind i) (omega (arith, occurs_at r.behind i h)))

-- ---- the crossings with a closed edge are those met

-- once all are placed, every edge is closed
pub closed_all : (W : ℕ → ℕ → ℕ) (xs : List ℕ) → crossings_closed W xs xs ≡ closed_crossings W xs
unfolding crossings_closed closed_crossings closed_in one
closed_all W xs =
    sum_quads_ext (λ a b c d. one (closed_in xs a c || closed_in xs b d) * (W a c * W b d)) (λ a b c d. W a c * W b d) (all_members xs)
    (λ a b c d p q r s. rw (p, r) (omega arith))

-- the weight of the edges from b to those of zs that are not among xs
abbrev open_in : (ℕ → ℕ → ℕ) → List ℕ → List ℕ → ℕ → ℕ
open_in W xs zs b = sum_over (λ x. one (not (member x xs)) * W b x) zs

-- what zs has around xs: an edge between two of xs has none of the others between its ends, and the crossings of zs with such an edge are those met
record Seen (W : ℕ → ℕ → ℕ) (xs zs : List ℕ) : Type 0 where
  spans : (g : ℕ → ℕ) → sum_triples (λ a b c. one (closed_in xs a c) * (W a c * g b)) zs ≡ sum_triples (λ a b c. W a c * g b) xs
  met : crossings_closed W xs zs ≡ crossings_met W (open_in W xs zs) xs

seen_start : (W : ℕ → ℕ → ℕ) (xs : List ℕ) → Seen W xs xs
unfolding closed_in one
seen_start W xs =
    record {
      spans = λ g.
          sum_triples_ext (λ a b c. one (closed_in xs a c) * (W a c * g b)) (λ a b c. W a c * g b) (all_members xs)
          (λ a b c p q r. rw (p, r) (omega arith));
      met = closed_all W xs ∙ closed_crossings_lem W xs ∙ sym (met_finished W (open_in W xs xs) xs no_open);
    }
  where
    no_open : (b : ℕ) → open_in W xs xs b ≡ 0
    no_open b =
        sum_over_ext (λ x. one (not (member x xs)) * W b x) (λ x. 0 * W b x) (all_members xs) (λ x p. rw p)
        ∙ sum_over_scale 0 (W b) xs
        ∙ zero-mul (sum_over (W b) xs)

module _ {n : ℕ} {W : ℕ → ℕ → ℕ} (symmetry : Symmetric n W) {xs : List ℕ} (below : All (λ x. x < n) xs) where
  -- one vertex more outside
  module _ {v : ℕ} (o : Outside n xs v) {zs : List ℕ} (s : Seen W xs zs) where
    away : member v xs ≡ false
    away = not_member v xs o.free

    -- its edges cross those between two of xs that have the other end between theirs
    met_more : (ys : List ℕ) → ((b : ℕ) → open_in W xs ys b ≡ open_in W xs zs b + W b v)
        → crossings_closed W xs ys ≡ crossings_closed W xs zs + sum_triples (λ a b c. W a c * W b v) xs
        → crossings_closed W xs ys ≡ crossings_met W (open_in W xs ys) xs
    unfolding crossings_met
    met_more ys opened closed = rw split (omega (arith, closed, s.met))
      where
        split : sum_triples (λ a b c. W a c * open_in W xs ys b) xs
            ≡ sum_triples (λ a b c. W a c * open_in W xs zs b) xs + sum_triples (λ a b c. W a c * W b v) xs
        split =
            (λ i. sum_triples (λ a b c. W a c * opened b i) xs)
            ∙ (λ i. sum_triples (λ a b c. mul-add (W a c) (open_in W xs zs b) (W b v) i) xs)
            ∙ sum_triples_add (λ a b c. W a c * open_in W xs zs b) (λ a b c. W a c * W b v) xs

    seen_front : Seen W xs (v ∷ zs)
    unfolding sum_triples sum_quads sum_over crossings_closed closed_in one
    seen_front =
        record {
          spans = λ g. rw away (omega (arith, s.spans g, sum_pairs_scale 0 (λ b c. W v c * g b) zs));
          met = met_more (v ∷ zs) (λ b. rw away (omega arith)) (rw away (omega (arith, first)));
        }
      where
        first : sum_triples (λ b c d. one (closed_in xs b d) * (W v c * W b d)) zs ≡ sum_triples (λ a b c. W a c * W b v) xs
        first =
            (λ i. sum_triples (λ b c d. one (closed_in xs b d) * mul_comm (W v c) (W b d) i) zs)
            ∙ s.spans (W v)
            ∙ sum_triples_ext (λ a b c. W a c * W v b) (λ a b c. W a c * W b v) below (λ a b c p q r. rw (symmetry.swap v b o.below q))

    seen_back : Seen W xs (zs ++ (v ∷ []))
    unfolding crossings_closed closed_in one
    seen_back =
        record {
          spans = λ g.
              triples_last v (λ a b c. one (closed_in xs a c) * (W a c * g b)) zs
              ∙ omega (arith, s.spans g, not_last g);
          met =
              met_more (zs ++ (v ∷ [])) (λ b. sum_over_last v (λ x. one (not (member x xs)) * W b x) zs ∙ rw away (omega arith))
              (quads_last v (λ a b c d. one (closed_in xs a c || closed_in xs b d) * (W a c * W b d)) zs ∙ omega (arith, last));
        }
      where
        open_at : (a : ℕ) → closed_in xs a v ≡ false
        open_at a = rw away (and-false (member a xs))

        not_last : (g : ℕ → ℕ) → sum_pairs (λ a b. one (closed_in xs a v) * (W a v * g b)) zs ≡ 0
        not_last g =
            (λ i. sum_pairs (λ a b. one (open_at a i) * (W a v * g b)) zs)
            ∙ sum_pairs_scale 0 (λ a b. W a v * g b) zs
            ∙ zero-mul (sum_pairs (λ a b. W a v * g b) zs)

        other : (a b c : ℕ) → (closed_in xs a c || closed_in xs b v) ≡ closed_in xs a c
        other a b c = ap (λ (t : Bool). closed_in xs a c || t) (open_at b) ∙ or-false (closed_in xs a c)

        last : sum_triples (λ a b c. one (closed_in xs a c || closed_in xs b v) * (W a c * W b v)) zs ≡ sum_triples (λ a b c. W a c * W b v) xs
        last = (λ i. sum_triples (λ a b c. one (other a b c i) * (W a c * W b v)) zs) ∙ s.spans (λ b. W b v)

  -- and any number of them
  seen_ahead : {us zs : List ℕ} → All (Outside n xs) us → Seen W xs zs → Seen W xs (us ++ zs)
  seen_ahead none s = s
  seen_ahead (also o os) s = seen_front o (seen_ahead os s)

  seen_behind : {us zs : List ℕ} → All (Outside n xs) us → Seen W xs zs → Seen W xs (zs ++ us)
  seen_behind {zs = zs} none s = subst (Seen W xs) (sym (append-nil zs)) s
  seen_behind {zs = zs} (also {x = v} {xs = us} o os) s = subst (Seen W xs) (append_assoc zs (v ∷ []) us) (seen_behind os (seen_back o s))

-- the open edges are those to the vertices that are not placed yet
module _ {n : ℕ} {W : ℕ → ℕ → ℕ} (symmetry : Symmetric n W) {zs : List ℕ} (perm : Permutation n zs) where
  pub closed_met : {xs : List ℕ} → Around xs zs → crossings_closed W xs zs ≡ crossings_met W (λ b. sum_over (W b) (unplaced n xs)) xs
  unfolding unplaced
  closed_met {xs} r =
      let below = inside perm r in
      let within = seen_behind symmetry below (outside_behind perm r) (seen_start W xs) in
      let whole = subst (Seen W xs) (sym r.parts) (seen_ahead symmetry below (outside_ahead perm r) within) in
      whole.met ∙ (λ i. crossings_met W (λ b. still b i) xs)
    where
      still : (b : ℕ) → open_in W xs zs b ≡ sum_over (W b) (unplaced n xs)
      still b = sym (sum_over_keep (W b) (λ x. not (member x xs)) (upto n) ∙ order_sum perm (λ x. one (not (member x xs)) * W b x))

-- ---- a step

both_grow : (a b c d : Bool) → (a ≡ true → c ≡ true) → (b ≡ true → d ≡ true) → (a && b) ≡ true → (c && d) ≡ true
both_grow true b c d f g e = rw (f refl) (g e)
both_grow false b c d f g e = absurd (false≢true e)

either_grows : (a b c d : Bool) → (a ≡ true → c ≡ true) → (b ≡ true → d ≡ true) → (a || b) ≡ true → (c || d) ≡ true
either_grows true b c d f g e = rw (f refl)
either_grows false b c d f g e = rw (g e) (or-true c)

-- what passes now passed before, or it does so for the first time
before_or_first : (a b : Bool) → (a ≡ true → b ≡ true) → (w : ℕ) → one b * w ≡ one a * w + one (b && not a) * w
unfolding one
before_or_first true b h w = rw (h refl) (omega arith)
before_or_first false true h w = omega arith
before_or_first false false h w = omega arith

-- the crossings with a closed edge grow by those whose first edge closes
pub closed_grow : (W : ℕ → ℕ → ℕ) (xs ys zs : List ℕ) → ((x : ℕ) → member x xs ≡ true → member x ys ≡ true)
    → crossings_closed W ys zs ≡ crossings_closed W xs zs + crossings_first W xs ys zs
unfolding crossings_closed crossings_first closed_in
closed_grow W xs ys zs stays =
    (λ i. sum_quads (λ a b c d. before_or_first (some xs a b c d) (some ys a b c d) (grown a b c d) (W a c * W b d) i) zs)
    ∙ sum_quads_add (λ a b c d. one (some xs a b c d) * (W a c * W b d))
    (λ a b c d. one (some ys a b c d && not (some xs a b c d)) * (W a c * W b d)) zs
  where
    some : List ℕ → ℕ → ℕ → ℕ → ℕ → Bool
    some us a b c d = closed_in us a c || closed_in us b d

    closed : (a c : ℕ) → closed_in xs a c ≡ true → closed_in ys a c ≡ true
    closed a c = both_grow (member a xs) (member c xs) (member a ys) (member c ys) (stays a) (stays c)

    grown : (a b c d : ℕ) → some xs a b c d ≡ true → some ys a b c d ≡ true
    grown a b c d = either_grows (closed_in xs a c) (closed_in xs b d) (closed_in ys a c) (closed_in ys b d) (closed a c) (closed b d)

module _ {n : ℕ} {W : ℕ → ℕ → ℕ} (symmetry : Symmetric n W) {zs : List ℕ} (perm : Permutation n zs) where
  -- v put at the back: the crossings whose first edge v closes are those of its edges with the open ones that leave from behind their ends
  pub first_at_back : (v : ℕ) (xs : List ℕ) → Around (xs ++ (v ∷ [])) zs
      → crossings_first W xs (xs ++ (v ∷ [])) zs ≡ sum_pairs (λ p q. W v p * sum_over (W q) (unplaced n (xs ++ (v ∷ [])))) xs
  unfolding member any around_back
  first_at_back v xs r =
      let inner = around_back v xs r in
      let o = outside perm inner v (omega (arith, occurrences_cons v v r.behind, one_eq v v refl)) in
      omega (
        arith,
        closed_grow W xs (xs ++ (v ∷ [])) zs (λ x e. any_append (eqb x) xs (v ∷ []) ∙ rw e),
        closed_met symmetry perm r,
        closed_met symmetry perm inner,
        met_back W v (λ b. sum_over (W b) (unplaced n xs)) (λ b. sum_over (W b) (unplaced n (xs ++ (v ∷ [])))) {xs = xs}
            (rw (unplaced_back n xs v) (closing_edges symmetry o.below o.free (inside perm inner))),
      )

  -- v put at the front: its mirror
  pub first_at_front : {v : ℕ} {xs : List ℕ} → Around (v ∷ xs) zs
      → crossings_first W xs (v ∷ xs) zs ≡ sum_pairs (λ q p. W v p * sum_over (W q) (unplaced n (v ∷ xs))) xs
  unfolding member any around_front
  first_at_front {v} {xs} r =
      let inner = around_front r in
      let o = outside perm inner v (omega (arith, occurrences_last v v r.ahead, one_eq v v refl)) in
      omega (
        arith,
        closed_grow W xs (v ∷ xs) zs (λ x e. rw e (or-true (eqb x v))),
        closed_met symmetry perm r,
        closed_met symmetry perm inner,
        met_front W v (λ b. sum_over (W b) (unplaced n xs)) (λ b. sum_over (W b) (unplaced n (v ∷ xs))) {xs = xs}
            (rw (unplaced_front n xs v) (closing_edges symmetry o.below o.free (inside perm inner))),
      )

-- ---- the call lay

module _ {n : ℕ} (W : ℕ → ℕ → ℕ) (symmetry : Symmetric n W) {zs : List ℕ} (perm : Permutation n zs) where
  -- what a vertex adds to the tally, at the back, at the front, and at the end that is taken
  pub back_counted : (s : Placing) (v : ℕ) → Around (place_back n W s v).placed zs
      → (place_back n W s v).tally ≡ s.tally + crossings_first W s.placed (place_back n W s v).placed zs
  unfolding place_back back_crossings closing open'
  back_counted s v r = ap (λ (k : ℕ). s.tally + k) (sym (first_at_back symmetry perm v s.placed r ∙ rw (unplaced_back n s.placed v)))

  front_counted : (s : Placing) (v : ℕ) → Around (place_front n W s v).placed zs
      → (place_front n W s v).tally ≡ s.tally + crossings_first W s.placed (place_front n W s v).placed zs
  unfolding place_front front_crossings closing open'
  front_counted s v r = ap (λ (k : ℕ). s.tally + k) (sym (first_at_front symmetry perm r ∙ rw (unplaced_front n s.placed v)))

  pub step_counted : (s : Placing) (v : ℕ) → Around (place_vertex n W s v).placed zs
      → (place_vertex n W s v).tally ≡ s.tally + crossings_first W s.placed (place_vertex n W s v).placed zs
  step_counted s v =
      either_end n W (λ t. Around t.placed zs → t.tally ≡ s.tally + crossings_first W s.placed t.placed zs) s v (front_counted s v)
      (back_counted s v)

-- the steps of a run, each seen from those before it
module _ (n : ℕ) (adj : List ℕ) (W : ℕ → ℕ → ℕ) where
  abbrev place_next : (ℕ → Bool) → Placing → Placing
  place_next p s = place_vertex n W s (next_vertex n adj s.placed (waiting n p s.placed))

  more_last : (p : ℕ → Bool) (k : ℕ) (s : Placing) → place_more n adj W p (suc k) s ≡ place_next p (place_more n adj W p k s)
  unfolding place_more
  more_last p zero s = refl
  more_last p (suc k) s = more_last p k (place_next p s)

  module _ {zs : List ℕ} where
    around_vertex : (s : Placing) (v : ℕ) → Around (place_vertex n W s v).placed zs → Around s.placed zs
    unfolding place_front place_back
    around_vertex s v = either_end n W (λ t. Around t.placed zs → Around s.placed zs) s v around_front (around_back v s.placed)

    around_placed : (vs : List ℕ) (s : Placing) → Around (place_at_back n W s vs).placed zs → Around s.placed zs
    unfolding place_at_back place_back
    around_placed [] s r = r
    around_placed (v ∷ vs) s r = around_back v s.placed (around_placed vs (place_back n W s v) r)

    around_earlier : (p : ℕ → Bool) (k : ℕ) (s : Placing) → Around (place_more n adj W p (suc k) s).placed zs → Around (place_more n adj W p k s).placed zs
    around_earlier p k s r = around_vertex (place_more n adj W p k s) _ (subst (λ (t : Placing). Around t.placed zs) (more_last p k s) r)

    around_more : (p : ℕ → Bool) (k j : ℕ) (s : Placing) → Around (place_more n adj W p (k + j) s).placed zs → Around (place_more n adj W p k s).placed zs
    around_more p k zero s r = rw add-zero at r
    around_more p k (suc j) s r = around_more p k j s (around_earlier p (k + j) s (rw add-suc at r))

module _ (l : Layout) (s : ℕ) where
  after_around : (k : ℕ) → k ≤ steps l s → Around (after l s k).placed (laid_out l s).placed
  unfolding place_all place_linked
  after_around k small =
      around_more l.n l.adjacency (weight l) (has_edges l.adjacency) k (steps l s - k) (alone s)
      (rw (add-sub_of_le small)
      (around_placed l.n l.adjacency (weight l) _ (place_linked l.n l.adjacency (weight l) s) (around_all (laid_out l s).placed)))

  module _ (t : T (valid l)) (h : s < l.n) where
    -- the step adds these to the tally
    pub lay_counted : (k : ℕ) → k < steps l s → (after l s (suc k)).tally ≡ (after l s k).tally + first_in l s k
    lay_counted k small =
        let last = more_last l.n l.adjacency (weight l) (has_edges l.adjacency) k (alone s) in
        rw last (step_counted (weight l) (valid_symmetric l t) (lay_permutation l s t h) (after l s k) _ (rw last at (after_around (suc k) small)))

    -- the tally so far is the crossings of the finished order that have a closed edge
    pub lay_tally_closed : (k : ℕ) → k ≤ steps l s → (after l s k).tally ≡ crossings_closed (weight l) (after l s k).placed (laid_out l s).placed
    unfolding alone
    lay_tally_closed k small =
        let symmetry = valid_symmetric l t in
        (laid_more (weight l) symmetry l.adjacency (has_edges l.adjacency) k small (laid_start l.n (weight l) s h)).0.tallied
        ∙ sym (closed_met symmetry (lay_permutation l s t h) (after_around k small))

    summed : (k : ℕ) → k ≤ steps l s → sum k (first_in l s) ≡ (after l s k).tally
    unfolding sum place_more alone
    summed zero small = refl
    summed (suc k) small = ap (λ (a : ℕ). a + first_in l s k) (summed k (omega arith)) ∙ sym (lay_counted k small)

    -- all steps together count each crossing of the layout once
    pub lay_once : sum (steps l s) (first_in l s) ≡ crossings_of (reordered l (laid_out l s).placed)
    unfolding place_all place_linked alone
    lay_once =
        summed (steps l s) (le_refl (steps l s))
        ∙ sym (ap (λ (p : Placing). p.tally) (isolated_at_back (weight_within_words l t) (after l s (steps l s))
        (laid_more (weight l) (valid_symmetric l t) l.adjacency (has_edges l.adjacency) (steps l s) (le_refl (steps l s)) (laid_start l.n (weight l) s h)
        ).0.order.below))
        ∙ lay_crossings l s t h
