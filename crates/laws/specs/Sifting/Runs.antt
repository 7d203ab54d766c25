-- Lists of calls over any kind of layout: what holds of each call on a good state holds of each step, the steps follow one another, and the sifts and rounds
-- of a step are those of its call, where it was accepted.
use Rattle.std.specs.Prelude.{ℕ, ◌+◌, ◌*◌, ◌<◌, ◌≡◌, Bool, cond, length, T}
use Rattle.std.proofs.Math.Path.{refl, ap}
use Rattle.std.proofs.Common.{◌∙◌, length-append}
use Rattle.std.proofs.Math.Bool.{true, false}
use mathlib.Core.List.{List, [], ◌∷◌, ◌++◌, map, flat_map}
use Rattle.std.proofs.Math.Dec.{eqb}
use borrow.Author.Tests.{eqb-true}
use Rattle.model.specs.Lists.{All, none, also}
use Rattle.model.specs.Search.{Sift, Round, rounds_run, sift_run}
use Rattle.model.specs.Runs.{Calls, StepOf, Follow, ended, next, but_last, step_at, steps_from, played_from, accepted_at, rounds_at, sifts_at}
use Rattle.laws.specs.Sums.Indicators.{T_true}
use Rattle.laws.specs.Sums.Lists.{all_append}
use Rattle.laws.specs.Sifting.Sweeps.{Sifts, Rounds, SweepFacts, sifts_of_rounds, rounds_sifts, rounds_length}

module _ {S C A : Type 0} (k : Calls S C A) where
  -- ---- step by step

  pub steps_called : (s : S) (cs : List C) → map (λ (x : StepOf S C A). x.call) (steps_from k s cs) ≡ cs
  unfolding steps_from
  steps_called s [] = refl
  steps_called s (c ∷ cs) = ap (λ (ds : List C). c ∷ ds) (steps_called (k.after (k.answers s c)) cs)

  pub steps_follow : (s : S) (cs : List C)
      → Follow (λ (x : StepOf S C A). x.before) (λ x. k.after x.answer) s (steps_from k s cs) (played_from k s cs)
  unfolding steps_from played_from
  steps_follow s [] = ended
  steps_follow s (c ∷ cs) = next (steps_follow (k.after (k.answers s c)) cs)

  -- each call keeps a state good
  module _ (Good : S → Type 0) (keeps : (s : S) (c : C) → Good s → Good (k.after (k.answers s c))) where
    pub all_steps : (P : StepOf S C A → Type 0) → ((s : S) (c : C) → Good s → P (step_at k s c)) → {s : S} → Good s → (cs : List C)
        → All P (steps_from k s cs)
    unfolding steps_from
    all_steps P h g [] = none
    all_steps P h {s} g (c ∷ cs) = also (h s c g) (all_steps P h {s = k.after (k.answers s c)} (keeps s c g) cs)

    pub end_good : {s : S} → Good s → (cs : List C) → Good (played_from k s cs)
    unfolding played_from
    end_good g [] = g
    end_good {s} g (c ∷ cs) = end_good {s = k.after (k.answers s c)} (keeps s c g) cs

  -- ---- the sifts and rounds of a step

  module _ (s : S) (c : C) where
    -- an accepted step has refusal code 0, and the rounds and sifts of its call
    pub code_zero : T (accepted_at k (step_at k s c)) → k.code (k.answers s c) ≡ 0
    unfolding accepted_at
    code_zero t = eqb-true (k.code (k.answers s c)) 0 (T_true (eqb (k.code (k.answers s c)) 0) t)

    pub rounds_are : T (accepted_at k (step_at k s c)) → rounds_at k (step_at k s c) ≡ rounds_run k.search s (k.sweep c)
    unfolding rounds_at
    rounds_are t = rw (T_true (accepted_at k (step_at k s c)) t)

    abbrev run : List (Sift S)
    run = sift_run k.search s (k.sweep c) ++ sifts_of_rounds k.search (rounds_run k.search s (k.sweep c))

    pub sifts_are : T (accepted_at k (step_at k s c)) → sifts_at k (step_at k s c) ≡ run
    unfolding sifts_at
    sifts_are t = rw (rounds_are t, T_true (accepted_at k (step_at k s c)) t)

    module _ (Valid : S → Type 0) where
      -- as many of them: the one called, and one for each vertex in each round
      pub sifts_number : T (accepted_at k (step_at k s c)) → SweepFacts k.search Valid s (k.sweep c)
          → length (sifts_at k (step_at k s c))
          ≡ length (sift_run k.search s (k.sweep c)) + length (rounds_at k (step_at k s c)) * k.search.size s
      sifts_number t f =
          rw (sifts_are t, rounds_are t)
          (length-append (sift_run k.search s (k.sweep c)) (sifts_of_rounds k.search (rounds_run k.search s (k.sweep c)))
          ∙ ap (λ (j : ℕ). length (sift_run k.search s (k.sweep c)) + j) (rounds_length k.search Valid f.follow f.rounds))

      -- of a refused call there are none
      module _ (facts : k.code (k.answers s c) ≡ 0 → SweepFacts k.search Valid s (k.sweep c)) where
        by_acceptance : (P : List (Sift S) → List (Round S) → Type 0)
            → (SweepFacts k.search Valid s (k.sweep c) → P run (rounds_run k.search s (k.sweep c)))
            → P [] [] → P (sifts_at k (step_at k s c)) (rounds_at k (step_at k s c))
        unfolding sifts_at rounds_at accepted_at flat_map
        by_acceptance P h n = by_test (eqb (k.code (k.answers s c)) 0) refl
          where
            by_test : (b : Bool) → eqb (k.code (k.answers s c)) 0 ≡ b
                → P
                (cond b (sift_run k.search s (k.sweep c)) []
                ++ sifts_of_rounds k.search (cond b (rounds_run k.search s (k.sweep c)) []))
                (cond b (rounds_run k.search s (k.sweep c)) [])
            by_test true e = h (facts (eqb-true (k.code (k.answers s c)) 0 e))
            by_test false e = n

        pub step_sifts : All (Sifts k.search Valid) (sifts_at k (step_at k s c))
        step_sifts =
            by_acceptance (λ xs rs. All (Sifts k.search Valid) xs)
            (λ f. all_append f.sift (rounds_sifts k.search Valid f.rounds)) none

        pub step_rounds : All (Rounds k.search Valid) (rounds_at k (step_at k s c))
        step_rounds = by_acceptance (λ xs rs. All (Rounds k.search Valid) rs) (λ f. f.rounds) none

        -- it went on only after a round that moved something
        pub step_moved : All (λ (r : Round S). 0 < r.moved) (but_last (rounds_at k (step_at k s c)))
        unfolding but_last
        step_moved = by_acceptance (λ xs rs. All (λ (r : Round S). 0 < r.moved) (but_last rs)) (λ f. f.moved) none
