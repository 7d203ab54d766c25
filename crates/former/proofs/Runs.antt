-- The former rule, step by step: but for isolated vertices it places what the rule places, at the same ends and with the same tally.
use Rattle.std.specs.Prelude.{ℕ, zero, suc, ◌<◌, ◌≡◌, Bool, cond, ◌&&◌, ◌||◌, length}
use Rattle.std.proofs.Common.{add-zero, arith, ◌∙◌, subst}
use Rattle.std.proofs.Math.Path.{refl, sym, ap, ap₂}
use Rattle.std.proofs.Math.Bool.{true, false, not, and-true, and-false, or-true}
use mathlib.Core.List.{List, [], ◌∷◌, ◌++◌, append-nil}
use Rattle.std.proofs.Math.Dec.{eqb, ltb}
use borrow.Author.Tests.{eq-eqb, ne_eqb, eqb-true, lt-ltb}
use Rattle.model.specs.Lists.{upto, keep, member, occurrences}
use Rattle.model.specs.Crossings.{unit_weight}
use Rattle.model.specs.GreedyAppend.{unplaced, waiting, isolated, has_edges, next_vertex, front_crossings, back_crossings}
use Rattle.model.specs.GreedyAppend.{Placing, alone, place_front, place_back, place_vertex, place_more, place_linked, place_all, former_place_all, stays}
use Rattle.laws.specs.Sums.Indicators.{one_eq}
use Rattle.laws.specs.Sums.Lists.{All, none, also, all_append, all_keep, all_mono, all_places, keep_append, keep_keep, keep_true, keep_split}
use Rattle.laws.specs.Sums.Pairs.{Symmetric}
use Rattle.laws.specs.Orders.Permutations.{Permutation, at_lt, occurrences_cons, occurrences_append, member_occurs}
use Rattle.laws.specs.Append.Order.{Waiting, all_waiting, next_waiting, waiting_others}
use Rattle.laws.specs.Layouts.Weights.{WithinWords}
use Rattle.laws.specs.Append.Isolated.{front_none, back_none, isolated_at_back}
use Rattle.laws.specs.Append.Calls.{either_end, step_waiting}
use Rattle.former.specs.Kept.{member_keep}
use Rattle.former.specs.Choices.{next_kept}
use Rattle.former.specs.Unseen.{Dropping, passed, waiting_seen, next_seen, front_seen, back_seen}

abbrev placing : List ℕ → ℕ → Placing
placing xs t = record { placed = xs; tally = t }

module _ (n : ℕ) (adj : List ℕ) (start : ℕ) where
  -- the list so far without the others, and the tally
  abbrev staying_part : Placing → Placing
  staying_part s = placing (keep (stays adj start) s.placed) s.tally

  -- the list with all others at the back, in rising number
  abbrev pub rest_at_back : Placing → Placing
  rest_at_back s = placing (keep (stays adj start) s.placed ++ keep (λ v. not (stays adj start v)) (upto n)) s.tally

  dropping : Dropping adj (stays adj start)
  unfolding stays
  dropping = record { dropped = λ v e. by_test (has_edges adj v) (eqb v start) e }
    where
      by_test : (a b : Bool) → (a || b) ≡ false → a ≡ false
      by_test false b e = refl
      by_test true b e = e

  lone_goes : (v : ℕ) → has_edges adj v ≡ false → (v ≡ start → ⊥) → stays adj start v ≡ false
  unfolding stays
  lone_goes v e d = rw (e, ne_eqb v start d)

  -- ---- a step

  -- the start is placed
  record Started (s : Placing) : Type 0 where
    below : All (λ x. x < n) s.placed
    first : 0 < occurrences start s.placed

  module _ {W : ℕ → ℕ → ℕ} (bare : WithinWords n adj W) where
    module _ (v : ℕ) (s : Placing) where
      step_started : Started s → v < n → Started (place_vertex n W s v)
      unfolding place_front place_back
      step_started t h =
          either_end n W Started s v
          (record { below = also h t.below; first = omega (arith, t.first, occurrences_cons start v s.placed) })
          (record { below = all_append t.below (also h none); first = omega (arith, t.first, occurrences_append start s.placed (v ∷ [])) })

      -- does v meet fewer crossings at the front? And v put there, or at the back
      abbrev front_fewer : List ℕ → Bool
      front_fewer xs = ltb (front_crossings n W xs v) (back_crossings n W xs v)

      abbrev placed_at : Bool → Placing → Placing
      placed_at front s = cond front (place_front n W s v) (place_back n W s v)

      -- an isolated one changes nothing for those that stay
      lone_next : All (λ x. x < n) s.placed → v < n → has_edges adj v ≡ false → (v ≡ start → ⊥) → staying_part (place_vertex n W s v) ≡ staying_part s
      unfolding place_vertex place_back keep
      lone_next below h lone d =
          ap (λ (b : Bool). staying_part (placed_at b s)) (ap₂ ltb (front_none bare h lone below) (back_none bare h lone below))
          ∙ ap₂ placing (keep_append (stays adj start) s.placed (v ∷ []) ∙ rw (lone_goes v lone d) (append-nil _))
          (rw (back_none bare h lone below) (add-zero _))

      -- one with edges goes to the end that it goes to without the others
      linked_next : Symmetric n W → All (λ x. x < n) s.placed → v < n → has_edges adj v ≡ true
          → staying_part (place_vertex n W s v) ≡ place_vertex n W (staying_part s) v
      unfolding place_vertex place_front place_back keep
      linked_next symmetry below h linked =
          ap (λ (b : Bool). staying_part (placed_at b s)) (ap₂ ltb front back) ∙ by_test (front_fewer (staying_part s).placed)
        where
          front : front_crossings n W s.placed v ≡ front_crossings n W (staying_part s).placed v
          front = front_seen symmetry bare dropping below h

          back : back_crossings n W s.placed v ≡ back_crossings n W (staying_part s).placed v
          back = back_seen symmetry bare dropping below h

          by_test : (b : Bool) → staying_part (placed_at b s) ≡ placed_at b (staying_part s)
          by_test true = ap₂ placing (rw (passed dropping v linked)) (rw front)
          by_test false = ap₂ placing (keep_append (stays adj start) s.placed (v ∷ []) ∙ rw (passed dropping v linked)) (rw back)

    -- ---- a run

    -- the next of those that pass, and as many steps as there are of them
    abbrev next : (ℕ → Bool) → Placing → ℕ
    next p s = next_vertex n adj s.placed (waiting n p s.placed)

    run : (ℕ → Bool) → Placing → Placing
    run p s = place_more n adj W p (length (waiting n p s.placed)) s

    module _ (p : ℕ → Bool) (s : Placing) where
      run_none : length (waiting n p s.placed) ≡ 0 → run p s ≡ s
      unfolding run place_more
      run_none e = ap (λ (k : ℕ). place_more n adj W p k s) e

      module _ (some : 0 < length (waiting n p s.placed)) where
        waits : Waiting n p s.placed (next p s)
        waits = next_waiting n p s.placed adj some

        run_next : run p s ≡ run p (place_vertex n W s (next p s))
        unfolding run place_more
        run_next = sym (ap (λ (k : ℕ). place_more n adj W p k s) (step_waiting n W s waits))

    -- every vertex is one to choose from
    abbrev every_one : ℕ → Bool
    every_one v = true

    -- those with edges placed without the others
    abbrev linked_run : Placing → Placing
    linked_run s = run (has_edges adj) (staying_part s)

    module _ (words : Symmetric n (unit_weight adj)) (symmetry : Symmetric n W) where
      module _ (s : Placing) where
        linked_waiting : keep (has_edges adj) (waiting n every_one s.placed) ≡ waiting n (has_edges adj) (staying_part s).placed
        unfolding waiting
        linked_waiting = ap (keep (has_edges adj)) (keep_true (unplaced n s.placed)) ∙ waiting_seen dropping n s.placed

        module _ (t : Started s) where
          linked_chosen : has_edges adj (next every_one s) ≡ true → next every_one s ≡ next (has_edges adj) (staying_part s)
          linked_chosen linked =
              sym (next_kept n adj s.placed (has_edges adj) (waiting n every_one s.placed) linked)
              ∙ ap (next_vertex n adj s.placed) linked_waiting
              ∙ next_seen words dropping t.below (all_mono (all_waiting n (has_edges adj) (staying_part s).placed) (λ v w. w.below))

          linked_step : Waiting n every_one s.placed (next every_one s) → linked_run (place_vertex n W s (next every_one s)) ≡ linked_run s
          linked_step w = by_test (has_edges adj (next every_one s)) refl
            where
              by_test : (b : Bool) → has_edges adj (next every_one s) ≡ b → linked_run (place_vertex n W s (next every_one s)) ≡ linked_run s
              by_test true e =
                  let linked : Waiting n (has_edges adj) s.placed (next every_one s) = record { below = w.below; free = w.free; passes = e } in
                  let less = step_waiting n W s linked in
                  ap (run (has_edges adj)) (linked_next (next every_one s) s symmetry t.below w.below e)
                  ∙ ap (λ (u : ℕ). run (has_edges adj) (place_vertex n W (staying_part s) u)) (linked_chosen e)
                  ∙ sym (run_next (has_edges adj) (staying_part s) (omega (arith, less, ap length (waiting_seen dropping n s.placed))))
              by_test false e =
                  ap (run (has_edges adj))
                  (lone_next (next every_one s) s t.below w.below e (λ d. omega (arith, w.free, t.first, ap (λ (x : ℕ). occurrences x s.placed) d)))

      linked_run_lem : (k : ℕ) (s : Placing) → Started s → length (waiting n every_one s.placed) ≡ k → staying_part (run every_one s) ≡ linked_run s
      linked_run_lem zero s t e =
          ap staying_part (run_none every_one s e)
          ∙ sym (run_none (has_edges adj) (staying_part s)
          (omega (arith, keep_split (has_edges adj) (waiting n every_one s.placed), ap length (linked_waiting s))))
      linked_run_lem (suc k) s t e =
          let some : 0 < length (waiting n every_one s.placed) = omega arith in
          let w = waits every_one s some in
          ap staying_part (run_next every_one s some)
          ∙ linked_run_lem k (place_vertex n W s (next every_one s)) (step_started (next every_one s) s t w.below) (omega (arith, step_waiting n W s w))
          ∙ linked_step s t w

      -- ---- from the start on

      module _ (h : start < n) where
        abbrev formerly : Placing
        formerly = former_place_all n adj W start

        start_stays : staying_part (alone start) ≡ alone start
        unfolding alone keep stays
        start_stays =
            ap (λ (b : Bool). placing (cond b (start ∷ []) []) 0)
            (ap (λ (b : Bool). has_edges adj start || b) (eq-eqb start start refl) ∙ or-true (has_edges adj start))

        -- the rule places those with edges as the former one did
        linked_formerly : place_linked n adj W start ≡ staying_part formerly
        unfolding place_linked former_place_all alone run waiting
        linked_formerly =
            sym (ap (λ (k : ℕ). staying_part (place_more n adj W every_one k (alone start))) (waiting_others h)
            ∙ linked_run_lem (length (waiting n every_one (start ∷ []))) (alone start) started refl
            ∙ ap (run (has_edges adj)) start_stays)
          where
            started : Started (alone start)
            started = record { below = also h none; first = omega (arith, occurrences_cons start start [], one_eq start start refl) }

        -- what is left then are the others, in rising number
        rest_goes : Permutation n formerly.placed
            → waiting n (isolated adj) (place_linked n adj W start).placed ≡ keep (λ v. not (stays adj start v)) (upto n)
        unfolding waiting unplaced stays has_edges
        rest_goes once =
            ap (λ (s : Placing). waiting n (isolated adj) s.placed) linked_formerly
            ∙ keep_keep (isolated adj) (λ v. not (member v (staying_part formerly).placed)) (upto n)
            ∙ (λ i. keep (λ v. by_test v (isolated adj v) refl i) (upto n))
          where
            -- of the isolated ones only the start is placed
            by_start : (v : ℕ) (b : Bool) → eqb v start ≡ b → (b && member v formerly.placed) ≡ b
            by_start v true d =
                let often = ap (λ (x : ℕ). occurrences x formerly.placed) (eqb-true v start d) in
                member_occurs v formerly.placed ∙ lt-ltb 0 (occurrences v formerly.placed) (omega (arith, once.once start h, often))
            by_start v false d = refl

            among : (v : ℕ) → isolated adj v ≡ true → member v (staying_part formerly).placed ≡ eqb v start
            among v e = member_keep (stays adj start) v formerly.placed ∙ rw e (by_start v (eqb v start) refl)

            by_test : (v : ℕ) (b : Bool) → isolated adj v ≡ b
                → (not (member v (staying_part formerly).placed) && b) ≡ not (not b || eqb v start)
            by_test v true e = ap (λ (m : Bool). not m && true) (among v e) ∙ and-true (not (eqb v start))
            by_test v false e = and-false (not (member v (staying_part formerly).placed))

        -- so the list is the former one with the others at the back, and the tally is the same
        pub all_formerly : Permutation n formerly.placed → place_all n adj W start ≡ rest_at_back formerly
        unfolding place_all
        all_formerly once =
            let below : All (λ x. x < n) formerly.placed = all_places formerly.placed (λ i l. at_lt once i (rw once.size at l)) in
            isolated_at_back bare (place_linked n adj W start)
            (subst (λ (s : Placing). All (λ x. x < n) s.placed) (sym linked_formerly) (all_keep (stays adj start) below))
            ∙ ap₂ (λ (s : Placing) (vs : List ℕ). placing (s.placed ++ vs) s.tally) linked_formerly (rest_goes once)
