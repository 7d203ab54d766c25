-- Sifts, rounds of sifts, and rounds up to a limit, over any kind of layout: what they give, whatever is counted and however a candidate is made.
use Prim.Native.Nat.{ℕ, zero, suc, ◌+◌, ◌*◌, ◌≤◌, ◌<◌, zero-le, suc-le-suc}
use Rattle.std.proofs.Common.{le_trans, le_of_eq, sym, ◌∙◌, subst, true≢false, ltb-true, eqb-true, eq-eqb, ne_eqb}
use native.Mathlib.Omega.{arith}
use Rattle.std.specs.Prelude.{◌≡◌, length, get_or, eqb}
use Rattle.std.proofs.Math.Path.{refl, ap}
use Rattle.std.proofs.Math.Bool.{Bool, true, false}
use Rattle.std.proofs.lemmas.Bool.{false≢true, eqb-false}
use mathlib.Core.List.{List, [], ◌∷◌, ◌++◌, map, flat_map}
use Rattle.std.proofs.lemmas.List.{length-map}
use Rattle.std.proofs.Math.ListN.{length-append}
use Rattle.model.specs.Lists.{one, upto, sum_over, All, none, also}
use Rattle.model.specs.Search.{least_cost, Search, Sift, Round, reached, moved_in, last_still, sift_best, sift_moves, sift_at, best_candidates, sifts_through, saved_in}
use Rattle.model.specs.Search.{round_by, sifts_of_all, round_at, rounds_within, Sweep, no_sift, one_sift, one_round, some_rounds, rounds_run, sift_run}
use Rattle.model.specs.Runs.{Follow, ended, next, but_last}
use Rattle.laws.specs.Sums.Lists.{all_mono, all_map, all_below, all_upto, all_flat_map, length_upto}
use Rattle.laws.specs.Sifting.LocalSearch.{least_each, count_most, least_counted, chosen_stays, chosen_has, chosen_least}

-- ---- things that follow one another

module _ {A S : Type 0} {start end : A → S} where
  pub follow_append : {s t u : S} {xs ys : List A} → Follow start end s xs t → Follow start end t ys u → Follow start end s (xs ++ ys) u
  follow_append ended q = q
  follow_append (next p) q = next (follow_append p q)

  -- where each of them is itself a run of others, these follow one another
  pub follow_flat : {B : Type 0} {from to : B → S} {s t : S} {rs : List B} (parts : B → List A) → Follow from to s rs t
      → All (λ r. Follow start end (from r) (parts r) (to r)) rs → Follow start end s (flat_map parts rs) t
  unfolding flat_map
  follow_flat parts ended none = ended
  follow_flat parts (next r) (also p ps) = follow_append p (follow_flat parts r ps)

  -- what holds of r and the first state, and is handed on by each of them, holds of r and the last
  pub follow_keeps : (R : S → S → Type 0) → ((a b c : S) → R a b → R b c → R a c)
      → {r s t : S} {xs : List A} → R r s → Follow start end s xs t → All (λ x. R (start x) (end x)) xs → R r t
  follow_keeps R trans p ended none = p
  follow_keeps R trans {r} p (next {x = x} q) (also h hs) = follow_keeps R trans (trans r (start x) (end x) p h) q hs

pub reached_append : {A S : Type 0} (after : A → S) (s : S) (xs ys : List A) → reached after s (xs ++ ys) ≡ reached after (reached after s xs) ys
unfolding reached
reached_append after s [] ys = refl
reached_append after s (x ∷ xs) ys = reached_append after (after x) xs ys

pub reached_snoc : {A S : Type 0} (after : A → S) (s : S) (xs : List A) (x : A) → reached after s (xs ++ (x ∷ [])) ≡ after x
unfolding reached
reached_snoc after s xs x = reached_append after s xs (x ∷ [])

module _ {A : Type 0} where
  -- one more in front of all but the last
  but_last_more : (P : A → Type 0) (x : A) → P x → (xs : List A) → All P (but_last xs) → All P (but_last (x ∷ xs))
  unfolding but_last
  but_last_more P x p [] ps = none
  but_last_more P x p (y ∷ ys) ps = also p ps

-- ---- the sifts of a sweep

module _ {S : Type 0} (k : Search S) where
  -- sifts one after the other
  abbrev pub Chain : S → List (Sift S) → S → Type 0
  Chain = Follow (λ (x : Sift S). x.before) (λ x. x.after)

  pub sifts_chain : (us : List ℕ) (s : S) → Chain s (sifts_through k us s) (reached (λ x. x.after) s (sifts_through k us s))
  unfolding sifts_through reached
  sifts_chain [] s = ended
  sifts_chain (u ∷ us) s = next (sifts_chain us (sift_best k s u))

  pub sifts_vertices : (us : List ℕ) (s : S) → map (λ (x : Sift S). x.vertex) (sifts_through k us s) ≡ us
  unfolding sifts_through
  sifts_vertices [] s = refl
  sifts_vertices (u ∷ us) s = ap (λ (vs : List ℕ). u ∷ vs) (sifts_vertices us (sift_best k s u))

  -- one more vertex
  pub sifts_snoc : (us : List ℕ) (u : ℕ) (s : S)
      → sifts_through k (us ++ (u ∷ [])) s ≡ sifts_through k us s ++ (sift_at k (reached (λ x. x.after) s (sifts_through k us s)) u ∷ [])
  unfolding sifts_through reached
  sifts_snoc [] u s = refl
  sifts_snoc (v ∷ vs) u s = ap (λ (xs : List (Sift S)). sift_at k s v ∷ xs) (sifts_snoc vs u (sift_best k s v))

  pub sifts_length : (us : List ℕ) (s : S) → length (sifts_through k us s) ≡ length us
  sifts_length us s = sym (length-map (sifts_through k us s) (λ (x : Sift S). x.vertex)) ∙ ap length (sifts_vertices us s)

  -- how many candidates are best: at most all, and at least one where the state itself is among them by its cost
  module _ (s : S) (u : ℕ) where
    pub best_most : best_candidates k s u ≤ length (k.candidates u s)
    unfolding best_candidates
    best_most = count_most k.cost (least_cost k.cost s (k.candidates u s)) (k.candidates u s)

    pub best_some : (d : S) (i : ℕ) → i < length (k.candidates u s) → k.cost (get_or (k.candidates u s) i d) ≡ k.cost s → 1 ≤ best_candidates k s u
    unfolding best_candidates
    best_some d i h e = least_counted k.cost (k.cost s) d (k.candidates u s) i h e

-- ---- the rounds of a settling

module _ {S : Type 0} where
  -- rounds one after the other
  abbrev pub RoundChain : S → List (Round S) → S → Type 0
  RoundChain = Follow (λ (r : Round S). r.before) (λ r. r.after)

  -- rounds up to the first that moves no vertex, and at most as many as the limit; whether the last moved none
  pub data Settles : ℕ → S → List (Round S) → S → Bool → Type 0 where
    spent : {s : S} → Settles 0 s [] s false
    last : {limit : ℕ} {r : Round S} → r.moved ≡ 0 → Settles (suc limit) r.before (r ∷ []) r.after true
    further : {limit : ℕ} {r : Round S} {rs : List (Round S)} {t : S} {b : Bool}
        → 0 < r.moved → Settles limit r.after rs t b → Settles (suc limit) r.before (r ∷ rs) t b

  settles_follow : {limit : ℕ} {s t : S} {rs : List (Round S)} {b : Bool} → Settles limit s rs t b → RoundChain s rs t
  settles_follow spent = ended
  settles_follow (last e) = next ended
  settles_follow (further m q) = next (settles_follow q)

  settles_limit : {limit : ℕ} {s t : S} {rs : List (Round S)} {b : Bool} → Settles limit s rs t b → b ≡ false
      → (length rs ≡ limit) × All (λ r. 0 < r.moved) rs
  settles_limit spent e = (refl, none)
  settles_limit (last z) e = absurd (true≢false e)
  settles_limit (further m q) e = let rest = settles_limit q e in (ap suc rest.0, also m rest.1)

  settles_moved : {limit : ℕ} {s t : S} {rs : List (Round S)} {b : Bool} → Settles limit s rs t b → All (λ r. 0 < r.moved) (but_last rs)
  unfolding but_last
  settles_moved spent = none
  settles_moved (last z) = none
  settles_moved (further {r = r} {rs = rs} m q) = but_last_more (λ (x : Round S). 0 < x.moved) r m rs (settles_moved q)

  -- a round that moves something, before others
  pub still_more : (r : Round S) (rs : List (Round S)) → eqb r.moved 0 ≡ false → last_still (r ∷ rs) ≡ last_still rs
  unfolding last_still
  still_more r [] e = e
  still_more r (q ∷ rs) e = refl

  -- the last of them tells
  pub still_snoc : (rs : List (Round S)) (r : Round S) → last_still (rs ++ (r ∷ [])) ≡ eqb r.moved 0
  unfolding last_still
  still_snoc [] r = refl
  still_snoc (q ∷ []) r = refl
  still_snoc (q ∷ p ∷ rs) r = still_snoc (p ∷ rs) r

positive : (j : ℕ) → (j ≡ 0 → ⊥) → 0 < j
positive zero d = absurd (d refl)
positive (suc j) d = suc-le-suc zero-le

module _ {S : Type 0} (k : Search S) where
  abbrev pub last_reached : ℕ → S → S
  last_reached limit s = reached (λ r. r.after) s (rounds_within k limit s)

  from_start : (s : S) {limit : ℕ} {rs : List (Round S)} {t : S} {b : Bool} → Settles limit (round_at k s).before rs t b → Settles limit s rs t b
  unfolding round_at round_by
  from_start s p = p

  pub settles : (limit : ℕ) (s : S) → Settles limit s (rounds_within k limit s) (last_reached limit s) (last_still (rounds_within k limit s))
  unfolding rounds_within reached last_still
  settles zero s = spent
  settles (suc limit) s = by_test (eqb (round_at k s).moved 0) refl (settles limit (round_at k s).after)
    where
      later : Bool → List (Round S)
      later b = elim b [ true ↦ [] | false ↦ rounds_within k limit (round_at k s).after ]

      by_test : (b : Bool) → eqb (round_at k s).moved 0 ≡ b
          → Settles limit (round_at k s).after (rounds_within k limit (round_at k s).after) (last_reached limit (round_at k s).after)
          (last_still (rounds_within k limit (round_at k s).after))
          → Settles (suc limit) s (round_at k s ∷ later b) (reached (λ r. r.after) (round_at k s).after (later b)) (last_still (round_at k s ∷ later b))
      by_test true e p =
          subst (λ (b : Bool). Settles (suc limit) s (round_at k s ∷ []) (round_at k s).after b) (sym e)
          (from_start s (last (eqb-true (round_at k s).moved 0 e)))
      by_test false e p =
          subst (Settles (suc limit) s (round_at k s ∷ later false) (last_reached limit (round_at k s).after))
          (sym (still_more (round_at k s) (later false) e))
          (from_start s (further (positive (round_at k s).moved (eqb-false (round_at k s).moved 0 e)) p))

  -- after a round that moves something come others, after one that does not none
  module _ (limit : ℕ) (s : S) where
    pub rounds_more : ((round_at k s).moved ≡ 0 → ⊥) → rounds_within k (suc limit) s ≡ round_at k s ∷ rounds_within k limit (round_at k s).after
    unfolding rounds_within
    rounds_more d = rw (ne_eqb (round_at k s).moved 0 d)

    pub rounds_still : (round_at k s).moved ≡ 0 → rounds_within k (suc limit) s ≡ round_at k s ∷ []
    unfolding rounds_within
    rounds_still e = rw (eq-eqb (round_at k s).moved 0 e)

  module _ (limit : ℕ) (s : S) where
    -- they follow one another, and every one but the last moved a vertex
    pub rounds_follow : RoundChain s (rounds_within k limit s) (last_reached limit s)
    rounds_follow = settles_follow (settles limit s)

    pub rounds_moved : All (λ (r : Round S). 0 < r.moved) (but_last (rounds_within k limit s))
    rounds_moved = settles_moved (settles limit s)

    -- not settled: as many as the limit were run, and each moved a vertex
    pub rounds_spent : last_still (rounds_within k limit s) ≡ false
        → (length (rounds_within k limit s) ≡ limit) × All (λ (r : Round S). 0 < r.moved) (rounds_within k limit s)
    rounds_spent e = settles_limit (settles limit s) e

-- ---- what a call runs

module _ {S : Type 0} (k : Search S) where
  -- the state that it leads to
  unfoldable pub swept_to : S → Sweep → S
  swept_to s no_sift = s
  swept_to s (one_sift u) = sift_best k s u
  swept_to s one_round = (round_at k s).after
  swept_to s (some_rounds limit) = last_reached k limit s

  abbrev pub sifts_of_rounds : List (Round S) → List (Sift S)
  sifts_of_rounds rs = flat_map (λ (r : Round S). sifts_of_all k r.before) rs

  -- is what it names a vertex?
  unfoldable pub Names : S → Sweep → Type 0
  Names s no_sift = Unit
  Names s (one_sift u) = u < k.size s
  Names s one_round = Unit
  Names s (some_rounds limit) = Unit

-- ---- what sifts, rounds and settlings are, over the valid states

module _ {S : Type 0} (k : Search S) (Valid : S → Type 0) where
  -- no candidate of u costs less than m
  abbrev pub NoneBelow : ℕ → ℕ → S → Type 0
  NoneBelow m u s = All (λ c. m ≤ k.cost c) (k.candidates u s)

  -- u stands best, and so does each vertex
  abbrev pub Best : S → ℕ → Type 0
  Best s u = NoneBelow (k.cost s) u s

  abbrev pub Minimum : S → Type 0
  Minimum s = (u : ℕ) → u < k.size s → Best s u

  -- what is asked of a candidate of u: that it is valid, has as many vertices, and no candidate of u that costs less than those of s do
  pub record CandidateOf (s : S) (u : ℕ) (c : S) : Type 0 where
    pub valid_after : Valid c
    pub same_size : k.size c ≡ k.size s
    pub again : (m : ℕ) → NoneBelow m u s → NoneBelow m u c

  -- and of a search
  abbrev pub Lawful : Type 0
  Lawful = (s : S) → Valid s → (u : ℕ) → u < k.size s → All (CandidateOf s u) (k.candidates u s)

  -- what a sift is
  pub record Sifts (x : Sift S) : Type 0 where
    pub valid_before : Valid x.before
    pub vertex_below : x.vertex < k.size x.before
    pub candidate : CandidateOf x.before x.vertex x.after
    -- it leads to the least cost of the state and its candidates
    pub least_cost_lem : k.cost x.after ≡ least_cost k.cost x.before (k.candidates x.vertex x.before)
    -- a vertex moves only to a lower cost, and where it does not nothing changes
    pub moved_less : x.moved ≡ true → k.cost x.after < k.cost x.before
    pub still : x.moved ≡ false → x.after ≡ x.before

  module _ {x : Sift S} (p : Sifts x) where
    -- no candidate costs less than the state that it leads to
    pub none_less : NoneBelow (k.cost x.after) x.vertex x.before
    none_less =
        all_mono (least_each k.cost (k.cost x.before) (k.candidates x.vertex x.before)) (λ c l. le_trans (le_of_eq p.least_cost_lem) l)

    -- the vertex stands best
    pub sift_best_lem : Best x.after x.vertex
    sift_best_lem = p.candidate.again (k.cost x.after) none_less

    pub still_below : x.vertex < k.size x.after
    still_below = rw p.candidate.same_size p.vertex_below

    -- no sift raises the cost, and one that moves its vertex lowers it
    pub sift_lowers : k.cost x.after + one x.moved ≤ k.cost x.before
    unfolding one
    sift_lowers = by_test x.moved refl
      where
        by_test : (b : Bool) → x.moved ≡ b → k.cost x.after + one b ≤ k.cost x.before
        by_test true e = omega (arith, p.moved_less e)
        by_test false e = omega (arith, ap k.cost (p.still e))

  -- sifts one after the other keep the number of vertices and end validly
  pub chain_size : {s t : S} {xs : List (Sift S)} → Chain k s xs t → All Sifts xs → k.size t ≡ k.size s
  chain_size ended none = refl
  chain_size (next r) (also p ps) = chain_size r ps ∙ p.candidate.same_size

  pub chain_valid : {s t : S} {xs : List (Sift S)} → Valid s → Chain k s xs t → All Sifts xs → Valid t
  chain_valid v ended none = v
  chain_valid v (next r) (also p ps) = chain_valid p.candidate.valid_after r ps

  -- what they save is exact, and at least one for each vertex that moves
  pub chain_exact : {s t : S} {xs : List (Sift S)} → Chain k s xs t → All Sifts xs → k.cost t + saved_in k xs ≡ k.cost s
  unfolding saved_in sum_over
  chain_exact ended none = omega arith
  chain_exact (next r) (also p ps) = omega (arith, chain_exact r ps, sift_lowers p)

  pub chain_fewer : {xs : List (Sift S)} → All Sifts xs → moved_in xs ≤ saved_in k xs
  unfolding moved_in saved_in sum_over
  chain_fewer none = zero-le
  chain_fewer (also p ps) = omega (arith, chain_fewer ps, sift_lowers p)

  -- where none moves its vertex the state stays, and each vertex sifted stands best
  pub chain_still : {s t : S} {xs : List (Sift S)} → Chain k s xs t → All Sifts xs → moved_in xs ≡ 0 → (t ≡ s) × All (λ x. Best t x.vertex) xs
  unfolding moved_in sum_over one
  chain_still ended none e = (refl, none)
  chain_still {s} {t} (next {x} {xs} r) (also p ps) e = by_test x.moved refl e (λ z. chain_still r ps z)
    where
      by_test : (b : Bool) → x.moved ≡ b → one b + moved_in xs ≡ 0 → (moved_in xs ≡ 0 → (t ≡ x.after) × All (λ y. Best t y.vertex) xs)
          → (t ≡ x.before) × All (λ y. Best t y.vertex) (x ∷ xs)
      by_test true m z rest = absurd (omega arith)
      by_test false m z rest =
          let later = rest (omega arith) in
          (later.0 ∙ p.still m, also (subst (λ (y : S). Best y x.vertex) (sym later.0) (sift_best_lem p)) later.1)

  -- what a round is: sifts of each vertex in rising number
  pub record Rounds (r : Round S) : Type 0 where
    pub chain : Chain k r.before (sifts_of_all k r.before) r.after
    pub sifts : All Sifts (sifts_of_all k r.before)
    pub vertices : map (λ (x : Sift S). x.vertex) (sifts_of_all k r.before) ≡ upto (k.size r.before)
    pub counted : r.moved ≡ moved_in (sifts_of_all k r.before)

  module _ {r : Round S} (p : Rounds r) where
    -- no round raises the cost
    pub round_no_more : k.cost r.after ≤ k.cost r.before
    round_no_more = omega (arith, chain_exact p.chain p.sifts)

    -- it keeps the vertices, and sifts as many
    pub round_size : k.size r.after ≡ k.size r.before
    round_size = chain_size p.chain p.sifts

    pub round_length : length (sifts_of_all k r.before) ≡ k.size r.before
    round_length =
        sym (length-map (sifts_of_all k r.before) (λ (x : Sift S). x.vertex)) ∙ ap length p.vertices ∙ length_upto (k.size r.before)

    -- after a round that moves no vertex each stands best
    pub round_minimum : r.moved ≡ 0 → Minimum r.after
    round_minimum e u h =
        all_below (k.size r.before)
        (subst (λ (us : List ℕ). All (λ u. Best r.after u) us) p.vertices
        (all_map (λ u. Best r.after u) (λ (x : Sift S). x.vertex) (chain_still p.chain p.sifts (sym p.counted ∙ e)).1 (λ x b. b)))
        u (rw round_size at h)

  -- the sifts of rounds that follow one another: they follow too, are proper, and n for each
  pub rounds_chain : {s t : S} {rs : List (Round S)} → RoundChain s rs t → All Rounds rs → Chain k s (sifts_of_rounds k rs) t
  rounds_chain q ps = follow_flat (λ (r : Round S). sifts_of_all k r.before) q (all_mono ps (λ r p. p.chain))

  pub rounds_sifts : {rs : List (Round S)} → All Rounds rs → All Sifts (sifts_of_rounds k rs)
  rounds_sifts ps = all_flat_map (λ (r : Round S). sifts_of_all k r.before) ps (λ r p. p.sifts)

  pub rounds_length : {s t : S} {rs : List (Round S)} → RoundChain s rs t → All Rounds rs → length (sifts_of_rounds k rs) ≡ length rs * k.size s
  unfolding flat_map
  rounds_length ended none = omega arith
  rounds_length (next {x = r} {xs = rs} q) (also p ps) =
      length-append (sifts_of_all k r.before) (sifts_of_rounds k rs)
      ∙ rw (rounds_length q ps, round_size p, round_length p) (omega arith)

  settles_minimum : {limit : ℕ} {s t : S} {rs : List (Round S)} {b : Bool} → Settles limit s rs t b → All Rounds rs → b ≡ true → Minimum t
  settles_minimum spent none e = absurd (false≢true e)
  settles_minimum (last z) (also p ps) e = round_minimum p z
  settles_minimum (further m q) (also p ps) e = settles_minimum q ps e

  -- what a call runs, and the state that it leads to
  pub record SweepFacts (s : S) (w : Sweep) : Type 0 where
    pub sift : All Sifts (sift_run k s w)
    pub rounds : All Rounds (rounds_run k s w)
    pub follow : RoundChain s (rounds_run k s w) (reached (λ r. r.after) s (rounds_run k s w))
    pub moved : All (λ (r : Round S). 0 < r.moved) (but_last (rounds_run k s w))
    pub lead : Chain k s (sift_run k s w ++ sifts_of_rounds k (rounds_run k s w)) (swept_to k s w)

  pub nothing_swept : (s : S) → SweepFacts s no_sift
  unfolding rounds_run sift_run swept_to reached but_last flat_map
  nothing_swept s = record { sift = none; rounds = none; follow = ended; moved = none; lead = ended }

  -- ---- the definitions, of a lawful search

  module _ (lawful : Lawful) where
    module _ (s : S) (v : Valid s) (u : ℕ) (h : u < k.size s) where
      sift_candidate : CandidateOf s u (sift_best k s u)
      unfolding sift_best
      sift_candidate =
          chosen_has k.cost s (k.candidates u s) (record { valid_after = v; same_size = refl; again = λ m b. b }) (lawful s v u h)

      reaches_least : k.cost (sift_best k s u) ≡ least_cost k.cost s (k.candidates u s)
      unfolding sift_best
      reaches_least = chosen_least k.cost s (k.candidates u s)

      pub proper_sift : Sifts (sift_at k s u)
      unfolding sift_moves sift_best
      proper_sift =
          record {
            valid_before = v;
            vertex_below = h;
            candidate = sift_candidate;
            least_cost_lem = reaches_least;
            moved_less = λ e. rw reaches_least (ltb-true (least_cost k.cost s (k.candidates u s)) (k.cost s) e);
            still = chosen_stays k.cost s (k.candidates u s);
          }

    -- what holds of each sift of a valid state holds of each sift of a sweep
    pub sifts_each : {P : Sift S → Type 0} → ((s : S) → Valid s → (u : ℕ) → u < k.size s → P (sift_at k s u))
        → (us : List ℕ) (s : S) → Valid s → All (λ u. u < k.size s) us → All P (sifts_through k us s)
    unfolding sifts_through
    sifts_each p [] s v none = none
    sifts_each p (u ∷ us) s v (also h hs) =
        let first = sift_candidate s v u h in
        also (p s v u h) (sifts_each p us (sift_best k s u) first.valid_after (all_mono hs (λ w b. rw first.same_size b)))

    pub sifts_proper : (us : List ℕ) (s : S) → Valid s → All (λ u. u < k.size s) us → All Sifts (sifts_through k us s)
    sifts_proper = sifts_each proper_sift

    pub proper_round : (s : S) → Valid s → Rounds (round_at k s)
    unfolding round_at round_by sifts_of_all
    proper_round s v =
        record {
          chain = sifts_chain k (upto (k.size s)) s;
          sifts = sifts_proper (upto (k.size s)) s v (all_upto (k.size s));
          vertices = sifts_vertices k (upto (k.size s)) s;
          counted = refl;
        }

    pub round_valid : (s : S) → Valid s → Valid (round_at k s).after
    unfolding round_at round_by
    round_valid s v = let p = proper_round s v in chain_valid v p.chain p.sifts

    -- what holds of each round of a valid state holds of each round of a settling
    pub rounds_each : {P : Round S → Type 0} → ((s : S) → Valid s → P (round_at k s)) → (limit : ℕ) (s : S) → Valid s → All P (rounds_within k limit s)
    unfolding rounds_within
    rounds_each p zero s v = none
    rounds_each {P} p (suc limit) s v = also (p s v) (by_test (eqb (round_at k s).moved 0) (rounds_each p limit (round_at k s).after (round_valid s v)))
      where
        by_test : (b : Bool) → All P (rounds_within k limit (round_at k s).after)
            → All P (elim b [ true ↦ [] | false ↦ rounds_within k limit (round_at k s).after ])
        by_test true r = none
        by_test false r = r

    pub rounds_proper : (limit : ℕ) (s : S) → Valid s → All Rounds (rounds_within k limit s)
    rounds_proper = rounds_each proper_round

    -- settled: no vertex has a better place
    pub settled_minimum : (limit : ℕ) (s : S) → Valid s → last_still (rounds_within k limit s) ≡ true
        → Minimum (reached (λ r. r.after) s (rounds_within k limit s))
    settled_minimum limit s v = settles_minimum (settles k limit s) (rounds_proper limit s v)

    -- ---- what a call runs

    pub sweep_facts : (s : S) → Valid s → (w : Sweep) → Names k s w → SweepFacts s w
    unfolding rounds_run sift_run swept_to Names reached but_last flat_map round_at round_by
    sweep_facts s v no_sift h = nothing_swept s
    sweep_facts s v (one_sift u) h = record { sift = also (proper_sift s v u h) none; rounds = none; follow = ended; moved = none; lead = next ended }
    sweep_facts s v one_round h =
        let p = proper_round s v in
        record { sift = none; rounds = also p none; follow = next ended; moved = none; lead = rounds_chain (next ended) (also p none) }
    sweep_facts s v (some_rounds limit) h =
        let follow = rounds_follow k limit s in
        let proper = rounds_proper limit s v in
        record { sift = none; rounds = proper; follow = follow; moved = rounds_moved k limit s; lead = rounds_chain follow proper }
