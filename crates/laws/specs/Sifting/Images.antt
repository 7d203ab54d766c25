-- One kind of layout seen as another: where a function keeps the size, the cost and the candidates, it keeps sifts, rounds and rounds up to a limit, with all
-- that is counted of them; and the steps of a list of calls, where it keeps what each call answers.
use Prim.Native.Nat.{ℕ, zero, suc, ◌-◌, min}
use Rattle.std.specs.Prelude.{◌≡◌, Bool}
use Rattle.std.proofs.Math.Path.{refl, sym, ap, ap₂}
use Rattle.std.proofs.Common.{◌∙◌}
use Rattle.std.proofs.Math.Bool.{true, false, cond}
use mathlib.Core.List.{List, [], ◌∷◌, ◌++◌, map, flat_map}
use Rattle.std.proofs.Math.Dec.{eqb, ltb}
use Rattle.model.specs.Lists.{one, upto, first_with, sum_over, All, none, also}
use Rattle.model.specs.Search.{least, count_with, Search, Sift, Round, reached, moved_in, last_still, sift_best, sift_moves, sift_at, best_candidates}
use Rattle.model.specs.Search.{sifts_through, saved_in, round_by, sifts_of_all, round_at, rounds_within}
use Rattle.model.specs.Runs.{Calls, StepOf, steps_from, played_from}
use Rattle.laws.specs.Sums.Lists.{all_flat_map, sum_over_ext, sum_over_map}
use Rattle.laws.specs.Sifting.LocalSearch.{chosen_has}

-- f shows a state of the kind k as one of the kind j, where it is good
pub record Shows {S U : Type 0} (k : Search S) (j : Search U) (f : S → U) (Good : S → Type 0) : Type 0 where
  pub size : (s : S) → Good s → j.size (f s) ≡ k.size s
  pub cost : (s : S) → Good s → j.cost (f s) ≡ k.cost s
  pub candidates : (u : ℕ) (s : S) → Good s → j.candidates u (f s) ≡ map f (k.candidates u s)
  pub good : (u : ℕ) (s : S) → Good s → All Good (k.candidates u s)

module _ {S U : Type 0} {k : Search S} {j : Search U} {f : S → U} {Good : S → Type 0} (h : Shows k j f Good) where
  -- ---- a sift

  least_shown : (d : ℕ) {xs : List S} → All Good xs → least j.cost d (map f xs) ≡ least k.cost d xs
  unfolding least
  least_shown d none = refl
  least_shown d (also {x} p ps) = ap₂ min (h.cost x p) (least_shown d ps)

  count_shown : (m : ℕ) {xs : List S} → All Good xs → count_with j.cost m (map f xs) ≡ count_with k.cost m xs
  unfolding count_with
  count_shown m {xs} ps =
      sum_over_map (λ x. one (eqb (j.cost x) m)) f xs
      ∙ sum_over_ext (λ x. one (eqb (j.cost (f x)) m)) (λ x. one (eqb (k.cost x) m)) ps (λ x p. ap (λ (c : ℕ). one (eqb c m)) (h.cost x p))

  first_shown : (m : ℕ) (d : S) {xs : List S} → All Good xs
      → first_with (λ c. eqb (j.cost c) m) (f d) (map f xs) ≡ f (first_with (λ c. eqb (k.cost c) m) d xs)
  unfolding first_with
  first_shown m d none = refl
  first_shown m d (also {x} {xs} p ps) =
      ap₂ (λ (b : Bool) (y : U). cond b (f x) y) (ap (λ (c : ℕ). eqb c m) (h.cost x p)) (first_shown m d ps)
      ∙ by_test (eqb (k.cost x) m)
    where
      by_test : (b : Bool) → cond b (f x) (f (first_with (λ c. eqb (k.cost c) m) d xs)) ≡ f (cond b x (first_with (λ c. eqb (k.cost c) m) d xs))
      by_test true = refl
      by_test false = refl

  module _ (s : S) (g : Good s) (u : ℕ) where
    abbrev others : List S
    others = k.candidates u s

    least_is : least j.cost (j.cost (f s)) (j.candidates u (f s)) ≡ least k.cost (k.cost s) others
    least_is = ap₂ (least j.cost) (h.cost s g) (h.candidates u s g) ∙ least_shown (k.cost s) (h.good u s g)

    pub moves_shown : sift_moves j (f s) u ≡ sift_moves k s u
    unfolding sift_moves
    moves_shown = ap₂ ltb least_is (h.cost s g)

    pub sift_shown : sift_best j (f s) u ≡ f (sift_best k s u)
    unfolding sift_best
    sift_shown =
        ap₂ (λ (b : Bool) (x : U). cond b x (f s)) (ap₂ ltb least_is (h.cost s g))
        (ap₂ (λ (m : ℕ) (xs : List U). first_with (λ c. eqb (j.cost c) m) (f s) xs) least_is (h.candidates u s g)
        ∙ first_shown (least k.cost (k.cost s) others) s (h.good u s g))
        ∙ by_test (ltb (least k.cost (k.cost s) others) (k.cost s)) (first_with (λ c. eqb (k.cost c) (least k.cost (k.cost s) others)) s others)
      where
        by_test : (b : Bool) (x : S) → cond b (f x) (f s) ≡ f (cond b x s)
        by_test true x = refl
        by_test false x = refl

    pub best_shown : best_candidates j (f s) u ≡ best_candidates k s u
    unfolding best_candidates
    best_shown =
        ap₂ (count_with j.cost) least_is (h.candidates u s g)
        ∙ count_shown (least k.cost (k.cost s) others) (h.good u s g)

    pub sift_good : Good (sift_best k s u)
    unfolding sift_best
    sift_good = chosen_has k.cost s others g (h.good u s g)

  -- ---- sifts one after the other

  abbrev pub shown_sift : Sift S → Sift U
  shown_sift x = record { before = f x.before; vertex = x.vertex; after = f x.after; moved = x.moved }

  abbrev pub GoodSift : Sift S → Type 0
  GoodSift x = Good x.before × Good x.after

  pub sifts_shown : (us : List ℕ) (s : S) → Good s → sifts_through j us (f s) ≡ map shown_sift (sifts_through k us s)
  unfolding sifts_through
  sifts_shown [] s g = refl
  sifts_shown (u ∷ us) s g =
      ap₂ (λ (x : Sift U) (xs : List (Sift U)). x ∷ xs)
      (ap₂ (λ (t : U) (m : Bool). record { before = f s; vertex = u; after = t; moved = m }) (sift_shown s g u) (moves_shown s g u))
      (ap (sifts_through j us) (sift_shown s g u) ∙ sifts_shown us (sift_best k s u) (sift_good s g u))

  pub sifts_good : (us : List ℕ) (s : S) → Good s → All GoodSift (sifts_through k us s)
  unfolding sifts_through
  sifts_good [] s g = none
  sifts_good (u ∷ us) s g = also {x = sift_at k s u} (g, sift_good s g u) (sifts_good us (sift_best k s u) (sift_good s g u))

  pub all_shown : (s : S) → Good s → sifts_of_all j (f s) ≡ map shown_sift (sifts_of_all k s)
  unfolding sifts_of_all
  all_shown s g = ap (λ (n : ℕ). sifts_through j (upto n) (f s)) (h.size s g) ∙ sifts_shown (upto (k.size s)) s g

  pub all_good : (s : S) → Good s → All GoodSift (sifts_of_all k s)
  unfolding sifts_of_all
  all_good s g = sifts_good (upto (k.size s)) s g

  -- what is counted of them
  pub moved_shown : (xs : List (Sift S)) → moved_in (map shown_sift xs) ≡ moved_in xs
  unfolding moved_in
  moved_shown xs = sum_over_map (λ x. one x.moved) shown_sift xs

  pub saved_shown : {xs : List (Sift S)} → All GoodSift xs → saved_in j (map shown_sift xs) ≡ saved_in k xs
  unfolding saved_in
  saved_shown {xs} ps =
      sum_over_map (λ x. j.cost x.before - j.cost x.after) shown_sift xs
      ∙ sum_over_ext (λ x. j.cost (f x.before) - j.cost (f x.after)) (λ x. k.cost x.before - k.cost x.after) ps
      (λ x p. ap₂ (λ (a b : ℕ). a - b) (h.cost x.before p.0) (h.cost x.after p.1))

  pub bests_shown : {xs : List (Sift S)} → All GoodSift xs
      → sum_over (λ x. best_candidates j x.before x.vertex) (map shown_sift xs) ≡ sum_over (λ x. best_candidates k x.before x.vertex) xs
  bests_shown {xs} ps =
      sum_over_map (λ x. best_candidates j x.before x.vertex) shown_sift xs
      ∙ sum_over_ext (λ x. best_candidates j (f x.before) x.vertex) (λ x. best_candidates k x.before x.vertex) ps
      (λ x p. best_shown x.before p.0 x.vertex)

  reached_shown : {A B : Type 0} (after : A → S) (later : B → U) (g : A → B) → ((x : A) → later (g x) ≡ f (after x)) → (s : S) (xs : List A)
      → reached later (f s) (map g xs) ≡ f (reached after s xs)
  unfolding reached
  reached_shown after later g e s [] = refl
  reached_shown after later g e s (x ∷ xs) = ap (λ (t : U). reached later t (map g xs)) (e x) ∙ reached_shown after later g e (after x) xs

  pub sifts_reach : (s : S) (xs : List (Sift S)) → reached (λ x. x.after) (f s) (map shown_sift xs) ≡ f (reached (λ x. x.after) s xs)
  sifts_reach = reached_shown (λ x. x.after) (λ x. x.after) shown_sift (λ x. refl)

  -- ---- rounds

  abbrev pub shown_round : Round S → Round U
  shown_round r = record { before = f r.before; after = f r.after; moved = r.moved }

  pub round_shown : (s : S) → Good s → round_at j (f s) ≡ shown_round (round_at k s)
  unfolding round_at round_by
  round_shown s g =
      ap₂ (λ (t : U) (m : ℕ). record { before = f s; after = t; moved = m })
      (ap (reached (λ x. x.after) (f s)) (all_shown s g) ∙ sifts_reach s (sifts_of_all k s))
      (ap moved_in (all_shown s g) ∙ moved_shown (sifts_of_all k s))

  reached_good : (s : S) → Good s → {xs : List (Sift S)} → All GoodSift xs → Good (reached (λ x. x.after) s xs)
  unfolding reached
  reached_good s g none = g
  reached_good s g (also {x} p ps) = reached_good x.after p.1 ps

  pub round_good : (s : S) → Good s → Good (round_at k s).after
  unfolding round_at round_by
  round_good s g = reached_good s g (all_good s g)

  abbrev pub GoodRound : Round S → Type 0
  GoodRound r = Good r.before

  pub rounds_shown : (limit : ℕ) (s : S) → Good s → rounds_within j limit (f s) ≡ map shown_round (rounds_within k limit s)
  unfolding rounds_within
  rounds_shown zero s g = refl
  rounds_shown (suc limit) s g =
      ap (λ (r : Round U). r ∷ elim (eqb r.moved 0) [ true ↦ [] | false ↦ rounds_within j limit r.after ]) (round_shown s g)
      ∙ by_test (eqb (round_at k s).moved 0) (rounds_shown limit (round_at k s).after (round_good s g))
    where
      by_test : (b : Bool) → rounds_within j limit (f (round_at k s).after) ≡ map shown_round (rounds_within k limit (round_at k s).after)
          → (shown_round (round_at k s) ∷ elim b [ true ↦ [] | false ↦ rounds_within j limit (f (round_at k s).after) ])
          ≡ map shown_round (round_at k s ∷ elim b [ true ↦ [] | false ↦ rounds_within k limit (round_at k s).after ])
      by_test true e = refl
      by_test false e = ap (λ (rs : List (Round U)). shown_round (round_at k s) ∷ rs) e

  pub rounds_good : (limit : ℕ) (s : S) → Good s → All GoodRound (rounds_within k limit s)
  unfolding rounds_within round_at round_by
  rounds_good zero s g = none
  rounds_good (suc limit) s g =
      also {x = round_at k s} g (by_test (eqb (round_at k s).moved 0) (rounds_good limit (round_at k s).after (round_good s g)))
    where
      by_test : (b : Bool) → All GoodRound (rounds_within k limit (round_at k s).after)
          → All GoodRound (elim b [ true ↦ [] | false ↦ rounds_within k limit (round_at k s).after ])
      by_test true e = none
      by_test false e = e

  pub rounds_reach : (s : S) (rs : List (Round S)) → reached (λ r. r.after) (f s) (map shown_round rs) ≡ f (reached (λ r. r.after) s rs)
  rounds_reach = reached_shown (λ r. r.after) (λ r. r.after) shown_round (λ r. refl)

  pub last_shown : (rs : List (Round S)) → last_still (map shown_round rs) ≡ last_still rs
  unfolding last_still
  last_shown [] = refl
  last_shown (r ∷ []) = refl
  last_shown (r ∷ q ∷ rs) = last_shown (q ∷ rs)

  map_append : (xs ys : List (Sift S)) → map shown_sift (xs ++ ys) ≡ map shown_sift xs ++ map shown_sift ys
  map_append [] ys = refl
  map_append (x ∷ xs) ys = ap (λ (zs : List (Sift U)). shown_sift x ∷ zs) (map_append xs ys)

  -- the sifts of rounds
  pub swept_shown : {rs : List (Round S)} → All GoodRound rs
      → flat_map (λ (r : Round U). sifts_of_all j r.before) (map shown_round rs) ≡ map shown_sift (flat_map (λ (r : Round S). sifts_of_all k r.before) rs)
  unfolding flat_map
  swept_shown none = refl
  swept_shown (also {x = r} {xs = rs} g gs) =
      ap₂ (λ (xs ys : List (Sift U)). xs ++ ys) (all_shown r.before g) (swept_shown gs)
      ∙ sym (map_append (sifts_of_all k r.before) (flat_map (λ (q : Round S). sifts_of_all k q.before) rs))

  pub swept_good : {rs : List (Round S)} → All GoodRound rs → All GoodSift (flat_map (λ (r : Round S). sifts_of_all k r.before) rs)
  swept_good gs = all_flat_map (λ (r : Round S). sifts_of_all k r.before) gs (λ r g. all_good r.before g)

-- ---- lists of calls

-- f shows a state, and g an answer; each call that is taken keeps a state good, and answers alike
module _ {S U C A B : Type 0} (k : Calls S C A) (j : Calls U C B) (f : S → U) (g : A → B) (Good : S → Type 0) (Taken : C → Type 0)
    (keeps : (s : S) (c : C) → Good s → Taken c → Good (k.after (k.answers s c)))
    (alike : (s : S) (c : C) → Good s → Taken c → j.answers (f s) c ≡ g (k.answers s c))
    (after : (a : A) → j.after (g a) ≡ f (k.after a)) where
  abbrev pub shown_step : StepOf S C A → StepOf U C B
  shown_step x = record { before = f x.before; call = x.call; answer = g x.answer }

  pub steps_shown : (s : S) → Good s → {cs : List C} → All Taken cs → steps_from j (f s) cs ≡ map shown_step (steps_from k s cs)
  unfolding steps_from
  steps_shown s p none = refl
  steps_shown s p (also {x = c} {xs = cs} t ts) =
      ap₂ (λ (b : B) (xs : List (StepOf U C B)). record { before = f s; call = c; answer = b } ∷ xs) (alike s c p t)
      (ap (λ (b : B). steps_from j (j.after b) cs) (alike s c p t)
      ∙ ap (λ (u : U). steps_from j u cs) (after (k.answers s c))
      ∙ steps_shown (k.after (k.answers s c)) (keeps s c p t) ts)

  pub played_shown : (s : S) → Good s → {cs : List C} → All Taken cs → played_from j (f s) cs ≡ f (played_from k s cs)
  unfolding played_from
  played_shown s p none = refl
  played_shown s p (also {x = c} {xs = cs} t ts) =
      ap (λ (b : B). played_from j (j.after b) cs) (alike s c p t)
      ∙ ap (λ (u : U). played_from j u cs) (after (k.answers s c))
      ∙ played_shown (k.after (k.answers s c)) (keeps s c p t) ts
