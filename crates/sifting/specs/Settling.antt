-- Settling over arrays, as a loop over rounds.
use Rattle.std.specs.Prelude.{◌≡◌, ℕ, suc, ◌+◌, ◌-◌, ◌*◌, ◌<◌, ◌≤◌, true, false, List, [], ◌∷◌, ◌++◌, length, ◌==◌}
use Rattle.std.proofs.Common.{add-zero, sub-eq-zero_of_le, arith, ◌∙◌}
use Rattle.std.proofs.Math.Nat.{sub-zero}
use Rattle.std.proofs.Math.Path.{refl, sym, ap}
use mathlib.Core.List.{flat_map, append_assoc, append-nil}
use Rattle.std.proofs.Math.ListN.{length-append}
use borrow.Author.Tests.{eqb-true, eqb-false}
use Rattle.model.specs.Lists.{sum_over}
use Rattle.model.specs.Search.{Sift, Round, reached, last_still, saved_in, sifts_of_all, round_by, round_at, rounds_within}
use Rattle.laws.specs.Sums.Lists.{flat_map_append, sum_over_append}
use Rattle.laws.specs.Crossings.Bound.{most_weighted}
use Rattle.laws.specs.Sifting.Optima.{most_optima}
use Rattle.laws.specs.Sifting.Sweeps.{reached_snoc, still_snoc, rounds_more, rounds_still}
use Rattle.sifting.specs.declared.rounds.Swept.{Swept}
use Rattle.sifting.specs.declared.convergence.Settled.{Settled}
use Rattle.sifting.specs.Arrays.{array_crossings, arrays, Drawn, drawn_bound}
use Rattle.sifting.specs.Sweeps.{best_at, swept_by, swept_round, Ready, round_ready}

-- a round added to what the rounds before it gave
unfoldable pub settled_next : Settled → Swept → Settled
settled_next s round =
    record {
      order = round.order;
      reduction = s.reduction + round.reduction;
      rounds = s.rounds + 1;
      converged = (round.moved == 0);
      optima = s.optima + round.optima;
    }

module _ (n : ℕ) (ws : List ℕ) where
  abbrev pub sifts_in : List (Round (List ℕ)) → List (Sift (List ℕ))
  sifts_in rs = flat_map (λ r. sifts_of_all (arrays n ws) r.before) rs

  -- what rounds that start from places answer
  unfoldable pub settled_by : List ℕ → List (Round (List ℕ)) → Settled
  settled_by places rs =
      record {
        order = reached (λ r. r.after) places rs;
        reduction = saved_in (arrays n ws) (sifts_in rs);
        rounds = length rs;
        converged = last_still rs;
        optima = sum_over (best_at n ws) (sifts_in rs);
      }

  unfoldable pub settled_within : ℕ → List ℕ → Settled
  settled_within limit places = settled_by places (rounds_within (arrays n ws) limit places)

  -- one round more
  settled_snoc : (places m : List ℕ) (rs : List (Round (List ℕ)))
      → settled_by places (rs ++ (round_at (arrays n ws) m ∷ [])) ≡ settled_next (settled_by places rs) (swept_round n ws m)
  unfolding settled_by settled_next swept_round swept_by round_at round_by saved_in flat_map
  settled_snoc places m rs =
      let xs = sifts_in rs in
      let more = sifts_of_all (arrays n ws) m in
      rw (
        reached_snoc (λ (x : Round (List ℕ)). x.after) places rs (round_at (arrays n ws) m),
        flat_map_append (λ (r : Round (List ℕ)). sifts_of_all (arrays n ws) r.before) rs (round_at (arrays n ws) m ∷ []),
        append-nil more,
        sum_over_append (λ (x : Sift (List ℕ)). array_crossings n ws x.before - array_crossings n ws x.after) xs more,
        sum_over_append (best_at n ws) xs more,
        length-append rs (round_at (arrays n ws) m ∷ []),
        still_snoc rs (round_at (arrays n ws) m),
      )
      refl

-- the rounds done lead from places to the state, none of them still, and the rest is run from there
pub record SettlingUpTo (n : ℕ) (places ws : List ℕ) (limit : ℕ) (s : Settled) : Type 0 where
  pub done : List (Round (List ℕ))
  pub state : s ≡ settled_by n ws places done
  pub moving : s.converged ≡ false
  pub rest : rounds_within (arrays n ws) limit places ≡ done ++ rounds_within (arrays n ws) (limit - s.rounds) s.order
  pub inside : s.rounds ≤ limit
  pub drawn : Drawn n ws s.order
  pub exact : array_crossings n ws s.order + s.reduction ≡ array_crossings n ws places
  pub few : s.optima ≤ most_optima * s.rounds

abbrev pub first_state : List ℕ → Settled
first_state places = record { order = places; reduction = 0; rounds = 0; converged = false; optima = 0 }

pub settling_start : {n : ℕ} {places ws : List ℕ} (limit : ℕ) → Drawn n ws places → SettlingUpTo n places ws limit (first_state places)
unfolding settled_by reached flat_map saved_in sum_over last_still
settling_start {n} {places} {ws} limit d =
    record {
      done = [];
      state = refl;
      moving = refl;
      rest = ap (λ (k : ℕ). rounds_within (arrays n ws) k places) (sym (sub-zero limit));
      inside = omega arith;
      drawn = d;
      exact = add-zero (array_crossings n ws places);
      few = omega arith;
    }

module _ {n : ℕ} {places ws : List ℕ} {limit : ℕ} {s : Settled} (t : SettlingUpTo n places ws limit s) where
  -- where rounds are left, the next one stands behind those done
  module _ (h : s.rounds < limit) {round : Swept} (e : round ≡ swept_round n ws s.order) where
    abbrev left : ℕ
    left = limit - (s.rounds + 1)

    abbrev run : Round (List ℕ)
    run = round_at (arrays n ws) s.order

    one_more_left : rounds_within (arrays n ws) limit places ≡ t.done ++ rounds_within (arrays n ws) (suc left) s.order
    one_more_left = t.rest ∙ ap (λ (k : ℕ). t.done ++ rounds_within (arrays n ws) k s.order) (omega arith)

    known : Ready n s.order ws round n
    known = round_ready t.drawn e

    same_moved : round.moved ≡ run.moved
    unfolding swept_round swept_by round_at round_by
    same_moved = ap (λ (x : Swept). x.moved) e

    same_order : round.order ≡ run.after
    unfolding swept_round swept_by round_at round_by
    same_order = ap (λ (x : Swept). x.order) e

    -- the numbers stay small
    pub settling_bounds : Drawn n ws places
        → (s.reduction + round.reduction ≤ most_weighted) × (s.optima + round.optima ≤ most_optima * limit)
    settling_bounds d = (
      omega (arith, drawn_bound d, t.exact, known.exact),
      omega (arith, t.few, known.few, t.drawn.weighted.small),
    )

    module _ {next : Settled} (f : next ≡ settled_next s round) where
      stepped : next ≡ settled_by n ws places (t.done ++ (run ∷ []))
      stepped =
          f
          ∙ ap (settled_next s) e
          ∙ ap (λ (x : Settled). settled_next x (swept_round n ws s.order)) t.state
          ∙ sym (settled_snoc n ws places s.order t.done)

      pub settling_less : limit - next.rounds < limit - s.rounds
      unfolding settled_next
      settling_less = omega (arith, ap (λ (x : Settled). x.rounds) f)

      still : next.converged ≡ (round.moved == 0)
      unfolding settled_next
      still = ap (λ (x : Settled). x.converged) f

      pub settling_next : next.converged ≡ false → SettlingUpTo n places ws limit next
      unfolding settled_next
      settling_next c =
          let moved : run.moved ≡ 0 → ⊥ = λ z. eqb-false round.moved 0 (sym still ∙ c) (same_moved ∙ z) in
          rw f
          (record {
            done = t.done ++ (run ∷ []);
            state = sym f ∙ stepped;
            moving = sym still ∙ c;
            rest =
                one_more_left
                ∙ ap (λ (rs : List (Round (List ℕ))). t.done ++ rs) (rounds_more (arrays n ws) left s.order moved)
                ∙ sym (append_assoc t.done (run ∷ []) (rounds_within (arrays n ws) left run.after))
                ∙ ap (λ (p : List ℕ). (t.done ++ (run ∷ [])) ++ rounds_within (arrays n ws) left p) (sym same_order);
            inside = omega arith;
            drawn = known.drawn;
            exact = omega (arith, known.exact, t.exact);
            few = omega (arith, t.few, known.few, t.drawn.weighted.small);
          })

      pub settling_still : next.converged ≡ true → next ≡ settled_within n ws limit places
      unfolding settled_within
      settling_still c =
          stepped
          ∙ ap (settled_by n ws places)
          (sym
          (one_more_left
          ∙ ap (λ (rs : List (Round (List ℕ))). t.done ++ rs)
          (rounds_still (arrays n ws) left s.order (sym same_moved ∙ eqb-true round.moved 0 (sym still ∙ c)))))

  pub settling_limit : limit ≤ s.rounds → s ≡ settled_within n ws limit places
  unfolding settled_within rounds_within
  settling_limit h =
      t.state
      ∙ ap (settled_by n ws places)
      (sym
      (t.rest ∙ ap (λ (k : ℕ). t.done ++ rounds_within (arrays n ws) k s.order) (sub-eq-zero_of_le h) ∙ append-nil t.done))
