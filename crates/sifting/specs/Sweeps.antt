-- A round over arrays, as a loop over the vertices.
use Rattle.std.specs.Prelude.{◌≡◌, ℕ, suc, ◌+◌, ◌-◌, ◌*◌, ◌<◌, ◌≤◌, cond, List, ◌==◌}
use Rattle.std.proofs.Common.{arith, ◌∙◌}
use Rattle.std.proofs.Math.Path.{refl, sym, ap}
use Rattle.model.specs.Lists.{one, upto, sum_over}
use Rattle.model.specs.Search.{Sift, reached, moved_in, sift_best, sift_moves, sift_at, best_candidates, sifts_through, saved_in, sifts_of_all}
use Rattle.laws.specs.Sums.Indicators.{one_le}
use Rattle.laws.specs.Sums.Lists.{All, all_mono, all_upto, length_upto, sum_over_last, sum_over_most}
use Rattle.laws.specs.Sums.Loops.{MadeUpTo}
use Rattle.laws.specs.Crossings.Bound.{most_weighted}
use Rattle.laws.specs.Sifting.Optima.{most_optima}
use Rattle.laws.specs.Sifting.Sweeps.{sifts_chain, sifts_snoc, sifts_length, reached_snoc, sifts_proper, chain_valid, chain_exact}
use Rattle.sift_walk.specs.declared.Walk.{Walk}
use Rattle.sift_walk.specs.Finding.{Found}
use Rattle.sifting.specs.declared.rounds.Swept.{Swept}
use Rattle.sifting.specs.Arrays.{array_crossings, arrays, Drawn, arrays_lawful, drawn_bound, best_few}
use Rattle.sifting.specs.Arrays.{found_order, found_saving, found_moved, found_optima}

module _ (n : ℕ) (ws : List ℕ) where
  -- how many of its candidate places were best, and the sum over sifts
  abbrev pub best_at : Sift (List ℕ) → ℕ
  best_at x = best_candidates (arrays n ws) x.before x.vertex

  -- what sifts that start from places answer
  unfoldable pub swept_by : List ℕ → List (Sift (List ℕ)) → Swept
  swept_by places xs =
      record {
        order = reached (λ x. x.after) places xs;
        reduction = saved_in (arrays n ws) xs;
        moved = moved_in xs;
        optima = sum_over best_at xs;
      }

  -- the vertices below u sifted, and all of them
  unfoldable pub swept_to : List ℕ → ℕ → Swept
  swept_to places u = swept_by places (sifts_through (arrays n ws) (upto u) places)

  unfoldable pub swept_round : List ℕ → Swept
  swept_round places = swept_by places (sifts_of_all (arrays n ws) places)

  pub round_is : (places : List ℕ) → swept_to places n ≡ swept_round places
  unfolding swept_to swept_round sifts_of_all
  round_is places = refl

  pub swept_start : (places : List ℕ) → record { order = places; reduction = 0; moved = 0; optima = 0 } ≡ swept_to places 0
  unfolding swept_to swept_by sifts_through reached saved_in moved_in sum_over upto
  swept_start places = refl

  -- one more vertex sifted
  swept_after : Swept → ℕ → Swept
  swept_after s u =
      record {
        order = sift_best (arrays n ws) s.order u;
        reduction = s.reduction + (array_crossings n ws s.order - array_crossings n ws (sift_best (arrays n ws) s.order u));
        moved = s.moved + one (sift_moves (arrays n ws) s.order u);
        optima = s.optima + best_candidates (arrays n ws) s.order u;
      }

  swept_snoc : (places : List ℕ) (u : ℕ) → swept_to places (suc u) ≡ swept_after (swept_to places u) u
  unfolding swept_to swept_by swept_after saved_in moved_in upto
  swept_snoc places u =
      let xs = sifts_through (arrays n ws) (upto u) places in
      let x = sift_at (arrays n ws) (reached (λ x. x.after) places xs) u in
      rw (
        sifts_snoc (arrays n ws) (upto u) u places,
        reached_snoc (λ (x : Sift (List ℕ)). x.after) places xs x,
        sum_over_last x (λ (x : Sift (List ℕ)). array_crossings n ws x.before - array_crossings n ws x.after) xs,
        sum_over_last x (λ (x : Sift (List ℕ)). one x.moved) xs,
        sum_over_last x best_at xs,
      )
      refl

-- what the walk found, added to what the sifts before it gave
unfoldable pub swept_next : Swept → Walk → Swept
swept_next s best =
    record {
      order = best.order;
      reduction = s.reduction + best.saving;
      moved = s.moved + cond (best.saving == 0) 0 1;
      optima = s.optima + best.optima;
    }

pub next_made : (s : Swept) (best : Walk) {k : ℕ} → k ≡ cond (best.saving == 0) 0 1
    → record { order = best.order; reduction = s.reduction + best.saving; moved = s.moved + k; optima = s.optima + best.optima } ≡ swept_next s best
unfolding swept_next
next_made s best e = rw e refl

-- what a state has once u vertices were sifted
pub record Ready (n : ℕ) (places ws : List ℕ) (s : Swept) (u : ℕ) : Type 0 where
  pub drawn : Drawn n ws s.order
  pub exact : array_crossings n ws s.order + s.reduction ≡ array_crossings n ws places
  pub few_moved : s.moved ≤ u
  pub few : s.optima ≤ 63 * u

module _ {n : ℕ} {places ws : List ℕ} (d : Drawn n ws places) {s : Swept} {u : ℕ} (m : MadeUpTo (swept_to n ws places) n s u) where
  pub ready : Ready n places ws s u
  unfolding swept_to swept_by moved_in
  ready =
      let xs = sifts_through (arrays n ws) (upto u) places in
      let below : All (λ v. v < n) (upto u) = all_mono (all_upto u) (λ v b. omega (arith, m.inside)) in
      let proper = sifts_proper (arrays n ws) (Drawn n ws) (arrays_lawful n ws) (upto u) places d below in
      let chain = sifts_chain (arrays n ws) (upto u) places in
      let size = sifts_length (arrays n ws) (upto u) places in
      rw m.made
      (record {
        drawn = chain_valid (arrays n ws) (Drawn n ws) d chain proper;
        exact = chain_exact (arrays n ws) (Drawn n ws) chain proper;
        few_moved = omega (arith, sum_over_most (λ x. one x.moved) 1 (all_mono proper (λ x p. one_le x.moved)), size, length_upto u);
        few = omega (arith, sum_over_most (best_at n ws) 63 (all_mono proper (λ x p. best_few p.valid_before p.vertex_below)), size, length_upto u);
      })

  -- the numbers stay small
  pub swept_bounds : u < n → {best : Walk} → Found n s.order ws u best
      → (s.reduction + best.saving ≤ most_weighted) × (s.moved ≤ 64) × (s.optima + best.optima ≤ most_optima)
  swept_bounds h found =
      let now = ready in
      let small = d.weighted.small in (
        omega (arith, drawn_bound d, now.exact, found.saving),
        omega (arith, now.few_moved),
        omega (arith, now.few, found_optima now.drawn h found, best_few now.drawn h),
      )

  pub swept_next_lem : u < n → {best : Walk} → Found n s.order ws u best → {next : Swept} → next ≡ swept_next s best → next ≡ swept_to n ws places (suc u)
  unfolding swept_next swept_after
  swept_next_lem h {best} found e =
      let here = ready.drawn in
      e
      ∙ rw (found_moved here h found, found_order here h found, found_saving here h found, found_optima here h found) refl
      ∙ ap (λ (x : Swept). swept_after n ws x u) m.made
      ∙ sym (swept_snoc n ws places u)

-- a whole round
pub round_ready : {n : ℕ} {places ws : List ℕ} → Drawn n ws places → {r : Swept} → r ≡ swept_round n ws places → Ready n places ws r n
round_ready {n} {places} {ws} d e = ready d (record { inside = omega arith; made = e ∙ sym (round_is n ws places) })
