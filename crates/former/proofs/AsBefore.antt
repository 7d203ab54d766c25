-- "a ring whose weights are and stay 1 behaves as before but for the wider numbers and modulus" (document 02, Note 8), over every list of calls: `as_before`.
use Rattle.std.specs.Prelude.{ℕ, suc, ◌-◌, ◌<◌, ◌≡◌, refl, Bool, true, set, T}
use Rattle.std.proofs.Common.{sym, ◌∙◌, subst}
use Rattle.std.proofs.Math.Path.{ap}
use mathlib.Core.List.{List, [], ◌∷◌, ◌++◌, flat_map}
use Rattle.std.proofs.Math.ListN.{length, length-map}
use Rattle.model.specs.declared.Layout.{Layout}
use Rattle.model.specs.Answers.{Added}
use Rattle.model.specs.Answers.{Changed}
use Rattle.model.specs.Answers.{Appended}
use Rattle.model.specs.Answers.{Sifted}
use Rattle.model.specs.Answers.{Rounded}
use Rattle.model.specs.Answers.{Converged}
use Rattle.model.specs.declared.Call.{Call}
use Rattle.model.specs.declared.Call.TheVariants as call
use Rattle.model.specs.Lists.{one, sum_over, All, none, also}
use Rattle.model.specs.Crossings.{unit_weight}
use Rattle.model.specs.Layouts.{vertex_order, weight, valid, changed, reordered, is_weight}
use Rattle.model.specs.Checks.{Check, refusal, differ, limit_fits, is_valid, is_vertex, is_unlinked, is_linked, has_room, weighs}
use Rattle.model.specs.Edits.{added, add_checks, add_answer, add_refused, add_of, with_bit, without_bit, at_both_ends, both_ways, with_edges}
use Rattle.model.specs.Edits.{changed_or, link_checks, link_of, unlink_checks, unlink_of, moved_after, move_checks, move_of}
use Rattle.model.specs.GreedyAppend.{Placing, place_all, lay_checks, lay_answer, lay_of}
use Rattle.model.specs.Search.{Round, sift_best, sifts_of_all, rounds_within, reached, saved_in, moved_in, last_still, best_candidates}
use Rattle.model.specs.Sifting.{ring, reduction, sift_checks, sift_of, optima_in, swept, sift_round, round_of}
use Rattle.model.specs.Sifting.{settled, rounds_up_to, settle_checks, settle_of}
use Rattle.model.specs.WrittenCharts.{unit_weighted}
use Rattle.model.specs.Histories.{Start, Step, steps, played, ring_calls, of_added, of_changed, of_appended, of_sifted, of_rounded, of_converged, answer_of}
use Rattle.model.specs.Runs.{step_at, steps_from, played_from}
use Rattle.model.specs.Former.{FormerLayout, former_outcome, former_crossings, former_valid, former_changed, former_reordered}
use Rattle.model.specs.Former.{formerly_checked, was_valid, was_vertex, was_unlinked, was_linked, former_add, former_link, former_unlink, former_move}
use Rattle.model.specs.Former.{former_lay, former_ring, former_optima, former_sift, former_round, former_settle, former_answer, former_calls}
use Rattle.laws.specs.Sums.Indicators.{T_true}
use Rattle.laws.specs.Layouts.Refusals.{when_accepted, changed_accepted, behind_passes, vertex_passed}
use Rattle.laws.specs.Append.Agreeing.{all_same}
use Rattle.laws.specs.Sifting.Images.{shown_round, sift_shown, sift_good, best_shown, all_shown, all_good, moved_shown, saved_shown, bests_shown, sifts_reach}
use Rattle.laws.specs.Sifting.Images.{rounds_shown, rounds_good, rounds_reach, last_shown, swept_shown, swept_good, steps_shown, played_shown}
use Rattle.history.specs.StepLaws.{Whole, start_right, call_whole}
use Rattle.laws.specs.Layouts.Units.{Unit, Agreeing, unit_agrees, agrees_unit, unit_weighted_lem}
use Rattle.former.specs.Units.{UnitCall, adding, linking, unlinking, moving, laying, sifting, sifting_round, converging, call_unit}
use Rattle.former.specs.Forgetting.{forget, forget_outcome, forgotten_crossings}
use Rattle.former.proofs.Forgetting.{forgotten_changed, forgotten_reordered, shows}
use Rattle.former.specs.AsBefore.{checked_shown, was_valid_lem, OfWeightOne, AsBefore}

-- ---- call by call, on a layout whose weights are 1

module _ (l : Layout) (r : Whole l) (i : Unit l.weights) where
  here : Agreeing l
  here = unit_agrees l r.is_valid_lem i

  is_now : valid l ≡ true
  is_now = T_true (valid l) r.is_valid_lem

  was_then : former_valid (forget l) ≡ true
  was_then = T_true (former_valid (forget l)) (was_valid_lem l r.is_valid_lem)

  -- what a call leaves, which is m where it is accepted
  left_by : {c : Call} → UnitCall c → {m : Layout} → (answer_of l c).layout ≡ m → Agreeing m
  left_by {c} k e = subst (λ (x : Layout). Agreeing x) e (unit_agrees (answer_of l c).layout (call_whole l c r).is_valid_lem (call_unit l r i k))

  -- the first check passes now as then, so the others tell
  first_passes : (cs : List Check) → refusal (is_valid l ∷ cs) ≡ refusal (was_valid (forget l) ∷ cs)
  unfolding refusal is_valid was_valid
  first_passes cs = rw (is_now, was_then)

  -- add
  add_alike : forget_outcome (answer_of l call.AddVertex) ≡ former_add (forget l)
  unfolding answer_of add_of former_add added add_checks has_room changed
  add_alike =
      checked_shown (λ (a : Added). forget_outcome (of_added a)) (add_checks l) _ (first_passes (has_room l ∷ []))
      (λ z.
      ap (λ (m : FormerLayout). former_outcome 0 m l.n 0 0 0)
      (forgotten_changed l (suc l.n) (set l.order l.n l.n) l.adjacency l.weights here
      (left_by adding (ap (λ (a : Added). a.layout) (when_accepted (add_checks l) (add_answer l) (add_refused l) z)))))
      (λ k. refl)

  -- link, unlink and move: m is what they give formerly
  changed_alike : (cs ds : List Check) (next : Layout) (m : FormerLayout) → refusal cs ≡ refusal ds → (refusal cs ≡ 0 → forget next ≡ m)
      → forget_outcome (of_changed (changed_or l cs next)) ≡ formerly_checked (forget l) ds (former_outcome 0 m 0 0 0 0)
  unfolding changed_or
  changed_alike cs ds next m same given =
      checked_shown (λ (a : Changed). forget_outcome (of_changed a)) cs ds same
      (λ z. ap (λ (x : FormerLayout). former_outcome 0 x 0 0 0 0) (given z)) (λ k. refl)

  accepted_layout : (cs : List Check) (next : Layout) → refusal cs ≡ 0 → (changed_or l cs next).layout ≡ next
  accepted_layout cs next z = sym (ap (λ (a : Changed). a.layout) (changed_accepted l cs next z refl))

  module _ (a b : ℕ) where
    link_alike : forget_outcome (answer_of l (call.AddEdge a b 1)) ≡ former_link (forget l) a b
    unfolding answer_of link_of former_link with_edges link_checks is_vertex was_vertex is_unlinked was_unlinked weighs is_weight changed
    link_alike =
        let words = at_both_ends with_bit l.adjacency a b in
        let table = both_ways l.weights a b 1 in
        let next = with_edges l words table in
        changed_alike (link_checks l a b 1) _ next (former_changed (forget l) l.n l.order words) same
        (λ z. forgotten_changed l l.n l.order words table here (left_by linking (accepted_layout (link_checks l a b 1) next z)))
      where
        checks : List Check
        checks = is_vertex l a ∷ is_vertex l b ∷ differ a b ∷ is_unlinked l a b ∷ []

        same : refusal (is_valid l ∷ (checks ++ (weighs 1 ∷ []))) ≡ refusal (was_valid (forget l) ∷ checks)
        same = first_passes (checks ++ (weighs 1 ∷ [])) ∙ behind_passes (was_valid (forget l) ∷ checks) (weighs 1) refl

    unlink_alike : forget_outcome (answer_of l (call.RemoveEdge a b)) ≡ former_unlink (forget l) a b
    unfolding answer_of unlink_of former_unlink with_edges unlink_checks is_vertex was_vertex is_linked was_linked changed
    unlink_alike =
        let words = at_both_ends without_bit l.adjacency a b in
        let table = both_ways l.weights a b 0 in
        let next = with_edges l words table in
        changed_alike (unlink_checks l a b) _ next (former_changed (forget l) l.n l.order words)
        (first_passes (is_vertex l a ∷ is_vertex l b ∷ differ a b ∷ is_linked l a b ∷ []))
        (λ z. forgotten_changed l l.n l.order words table here (left_by unlinking (accepted_layout (unlink_checks l a b) next z)))

    move_alike : forget_outcome (answer_of l (call.MoveAfter a b)) ≡ former_move (forget l) a b
    unfolding answer_of move_of former_move move_checks is_vertex was_vertex vertex_order
    move_alike =
        let next = reordered l (moved_after a b (vertex_order l)) in
        changed_alike (move_checks l a b) _ next (former_reordered (forget l) (moved_after a b (vertex_order l)))
        (first_passes (is_vertex l a ∷ is_vertex l b ∷ differ a b ∷ [])) (λ z. forgotten_reordered l (moved_after a b (vertex_order l)) here)

  -- lay
  lay_alike : (s : ℕ) → forget_outcome (answer_of l (call.GreedyAppend s)) ≡ former_lay (forget l) s
  unfolding answer_of lay_of former_lay lay_checks is_vertex was_vertex weight
  lay_alike s =
      checked_shown (λ (a : Appended). forget_outcome (of_appended a)) (lay_checks l s) _ (first_passes (is_vertex l s ∷ []))
      (λ z.
      ap (λ (p : Placing). forget_outcome (of_appended (lay_answer l p))) (same_placing (vertex_passed l s z).1)
      ∙ ap (λ (m : FormerLayout). former_outcome 0 m formerly.tally 0 0 0) (forgotten_reordered l formerly.placed here))
      (λ k. refl)
    where
      formerly : Placing
      formerly = place_all l.n l.adjacency (unit_weight l.adjacency) s

      same_placing : s < l.n → place_all l.n l.adjacency (weight l) s ≡ formerly
      same_placing h = all_same here.agrees l.adjacency s h

  -- sift, round, settle
  sift_alike : (u : ℕ) → forget_outcome (answer_of l (call.Sift u)) ≡ former_sift (forget l) u
  unfolding answer_of sift_of former_sift sift_checks is_vertex was_vertex reduction
  sift_alike u =
      checked_shown (λ (a : Sifted). forget_outcome (of_sifted a)) (sift_checks l u) _ (first_passes (is_vertex l u ∷ []))
      (λ z. answered (sym (sift_shown shows l here u)) (sym (forgotten_crossings l here))
      (sym (ap former_crossings (sift_shown shows l here u) ∙ forgotten_crossings (sift_best ring l u) (sift_good shows l here u)))
      (sym (best_shown shows l here u)))
      (λ k. refl)
    where
      answered : {m k : FormerLayout} {a b c d o p : ℕ} → m ≡ k → a ≡ b → c ≡ d → o ≡ p → former_outcome 0 m (a - c) o 0 0 ≡ former_outcome 0 k (b - d) p 0 0
      answered e f g h = rw (e, f, g, h)

  round_alike : forget_outcome (answer_of l call.SiftingRound) ≡ former_round (forget l)
  unfolding answer_of round_of sift_round swept optima_in former_round former_optima
  round_alike =
      let xs = sifts_of_all ring l in
      let good = all_good shows l here in
      checked_shown (λ (a : Rounded). forget_outcome (of_rounded a)) (is_valid l ∷ []) _ (first_passes [])
      (λ z. answered
      (sym (ap (reached (λ x. x.after) (forget l)) (all_shown shows l here) ∙ sifts_reach shows l xs))
      (sym (ap (saved_in former_ring) (all_shown shows l here) ∙ saved_shown shows good))
      (sym (ap moved_in (all_shown shows l here) ∙ moved_shown shows xs))
      (sym (ap (sum_over (λ x. best_candidates former_ring x.before x.vertex)) (all_shown shows l here) ∙ bests_shown shows good)))
      (λ k. refl)
    where
      answered : {m k : FormerLayout} {a b c d o p : ℕ} → m ≡ k → a ≡ b → c ≡ d → o ≡ p → former_outcome 0 m a c o 0 ≡ former_outcome 0 k b d p 0
      answered e f g h = rw (e, f, g, h)

  settle_alike : (limit : ℕ) → forget_outcome (answer_of l (call.Converge limit)) ≡ former_settle (forget l) limit
  unfolding answer_of settle_of settle_checks rounds_up_to settled optima_in former_settle former_optima reached one
  settle_alike limit =
      let rs = rounds_within ring limit l in
      let told = rounds_shown shows limit l here in
      let good = swept_good shows (rounds_good shows limit l here) in
      let sifts = ap (flat_map (λ (q : Round FormerLayout). sifts_of_all former_ring q.before)) told ∙ swept_shown shows (rounds_good shows limit l here) in
      checked_shown (λ (a : Converged). forget_outcome (of_converged a)) (settle_checks l limit) _ (first_passes (limit_fits limit ∷ []))
      (λ z. answered
      (sym (ap (reached (λ q. q.after) (forget l)) told ∙ rounds_reach shows l rs))
      (sym (ap (saved_in former_ring) sifts ∙ saved_shown shows good))
      (sym (ap length told ∙ length-map rs (shown_round shows)))
      (sym (ap last_still told ∙ last_shown shows rs))
      (sym (ap (sum_over (λ x. best_candidates former_ring x.before x.vertex)) sifts ∙ bests_shown shows good)))
      (λ k. refl)
    where
      answered : {m k : FormerLayout} {a b c d o p : ℕ} {x y : Bool} → m ≡ k → a ≡ b → c ≡ d → x ≡ y → o ≡ p
          → former_outcome 0 m a c (one x) o ≡ former_outcome 0 k b d (one y) p
      answered e f g h i = rw (e, f, g, h, i)

pub call_alike : (l : Layout) (c : Call) → OfWeightOne l → UnitCall c → former_answer (forget l) c ≡ forget_outcome (answer_of l c)
unfolding former_answer
call_alike l c o adding = sym (add_alike l o.whole o.unit)
call_alike l c o (linking {a} {b}) = sym (link_alike l o.whole o.unit a b)
call_alike l c o (unlinking {a} {b}) = sym (unlink_alike l o.whole o.unit a b)
call_alike l c o (moving {a} {b}) = sym (move_alike l o.whole o.unit a b)
call_alike l c o (laying {s}) = sym (lay_alike l o.whole o.unit s)
call_alike l c o (sifting {u}) = sym (sift_alike l o.whole o.unit u)
call_alike l c o sifting_round = sym (round_alike l o.whole o.unit)
call_alike l c o (converging {limit}) = sym (settle_alike l o.whole o.unit limit)

pub keeps_one : (l : Layout) (c : Call) → OfWeightOne l → UnitCall c → OfWeightOne (answer_of l c).layout
keeps_one l c o k = record { whole = call_whole l c o.whole; unit = call_unit l o.whole o.unit k }

-- from every valid layout whose weights are 1, whatever count it carries, and for every list of calls in which each link has weight 1
pub as_before : {start : Layout} → Whole start → T (unit_weighted start) → {calls : List Call} → All UnitCall calls → AsBefore start calls
unfolding played_from steps_from
as_before {start} r w {calls} ks =
    let o : OfWeightOne start = record { whole = r; unit = unit_weighted_lem start r.is_valid_lem w } in
    let end = kept_one start o ks in
    record {
      same_steps = steps_shown ring_calls former_calls forget forget_outcome OfWeightOne UnitCall keeps_one call_alike (λ a. refl) start o ks;
      same_end = played_shown ring_calls former_calls forget forget_outcome OfWeightOne UnitCall keeps_one call_alike (λ a. refl) start o ks;
      each_one = all_one start o ks;
      end_one = end;
      still_one = agrees_unit (played start calls) (unit_agrees (played start calls) end.whole.is_valid_lem end.unit);
    }
  where
    kept_one : (l : Layout) → OfWeightOne l → {cs : List Call} → All UnitCall cs → OfWeightOne (played l cs)
    kept_one l o none = o
    kept_one l o (also {x = c} k more) = kept_one (answer_of l c).layout (keeps_one l c o k) more

    all_one : (l : Layout) → OfWeightOne l → {cs : List Call} → All UnitCall cs → All (λ (x : Step). OfWeightOne x.before) (steps l cs)
    all_one l o none = none
    all_one l o (also {x = c} {xs = cs} k more) = also {x = step_at ring_calls l c} o (all_one (answer_of l c).layout (keeps_one l c o k) more)

-- so from the empty layout, a chart that was read and a graph that was imported
pub start_as_before : {start : Layout} → Start start → T (unit_weighted start) → {calls : List Call} → All UnitCall calls → AsBefore start calls
start_as_before s = as_before (start_right s).whole
