-- That sifting over the arrays of a layout is sifting of the layout: the layout that it leads to, and the answers of a sift, a round and a settling.
use Rattle.std.specs.Prelude.{◌≡◌, ℕ, ◌+◌, ◌-◌, ◌%◌, ◌<◌, T, List, [], ◌∷◌, ◌++◌, map, length, take, drop}
use Rattle.std.proofs.Common.{arith, ◌∙◌}
use Rattle.std.proofs.Math.Path.{refl, sym, ap, ap₂}
use Rattle.std.proofs.Math.ListN.{length-map}
use Rattle.model.specs.declared.Layout.{Layout}
use Rattle.model.specs.Answers.{Rounded}
use Rattle.model.specs.Answers.{Converged}
use Rattle.model.specs.Lists.{All, none, also}
use Rattle.model.specs.Layouts.{vertex_order, valid, weight, crossings_of, modulus, carried, changed, reordered}
use Rattle.model.specs.Edits.{moved_after}
use Rattle.model.specs.Search.{sift_best, sifts_of_all}
use Rattle.model.specs.Sifting.{ring, clockwise_from, candidate_layouts, sifted, reduction, sift_answer}
use Rattle.model.specs.Sifting.{optima_in, swept, sift_round, rounds_from, settled, rounds_up_to}
use Rattle.laws.specs.Layouts.Weights.{weighted}
use Rattle.laws.specs.Layouts.Recount.{carried_wrapping}
use Rattle.laws.proofs.Layouts.Reordering.{crossings_fit}
use Rattle.laws.specs.Sifting.Sweeps.{sift_lowers}
use Rattle.laws.specs.Sifting.Candidates.{Rearranged, sifted_rearranged}
use Rattle.laws.specs.Sifting.Rounds.{Valid, proper_sift, round_reduced, settled_rearranged, settled_exact}
use Rattle.laws.specs.Sifting.Images.{Shows, shown_round, sift_shown, sift_good, best_shown, all_shown, all_good, sifts_reach, saved_shown}
use Rattle.laws.specs.Sifting.Images.{moved_shown, bests_shown, rounds_shown, rounds_good, rounds_reach, swept_shown, swept_good, last_shown}
use Rattle.sift_walk.specs.declared.Walk.{Walk}
use Rattle.sift_walk.specs.Finding.{Found}
use Rattle.sifting.specs.declared.rounds.Swept.{Swept}
use Rattle.sifting.specs.declared.convergence.Settled.{Settled}
use Rattle.sifting.specs.Arrays.{arrays, Drawn, map_map, found_order, found_saving, found_optima}
use Rattle.sifting.specs.Sweeps.{swept_by, swept_round}
use Rattle.sifting.specs.Settling.{settled_by, settled_within}

-- ---- the layout that sifts lead to

-- another order, and the count lowered by what it saves
unfoldable pub relaid : Layout → List ℕ → ℕ → Layout
relaid l places saving =
    record { n = l.n; order = places; adjacency = l.adjacency; weights = l.weights; count = carried l.count saving 0 }

-- wrapping subtraction lowers the count
pub lowered_wrapping : (count saving r : ℕ) → count < modulus → saving < modulus → r < modulus → (r + saving) % modulus ≡ count → r ≡ carried count saving 0
lowered_wrapping count saving r h k l e = carried_wrapping count saving 0 count r k l (omega arith) e

-- as it is carried from the crossings before to those after
lowered : (count before after saving : ℕ) → before < modulus → after + saving ≡ before → carried count saving 0 ≡ carried count before after
unfolding carried
lowered count before after saving h e = omega arith

same_layout : {n : ℕ} {places adj ws : List ℕ} {count : ℕ} {m : Layout} → n ≡ m.n → places ≡ m.order → adj ≡ m.adjacency → ws ≡ m.weights → count ≡ m.count
    → record { n = n; order = places; adjacency = adj; weights = ws; count = count } ≡ m
same_layout a b c d e = rw (a, b, c, d, e) refl

module _ (l : Layout) (t : T (valid l)) (fits : l.count < modulus) where
  -- where they save what the crossings are fewer
  relaid_is : {m : Layout} {places : List ℕ} (saving : ℕ) → Rearranged l m → places ≡ m.order → crossings_of m + saving ≡ crossings_of l
      → relaid l places saving ≡ m
  unfolding relaid
  relaid_is {m} saving p e exact =
      same_layout (sym p.same_n) e (sym p.same_adjacency) (sym p.same_weights)
      (lowered l.count (crossings_of l) (crossings_of m) saving (crossings_fit l t) exact ∙ sym (p.count_carried fits))

-- ---- a layout of n vertices with these weights, seen as its array

pub record Weighs (n : ℕ) (ws : List ℕ) (m : Layout) : Type 0 where
  pub same_n : m.n ≡ n
  pub same_weights : m.weights ≡ ws

abbrev places_of : Layout → List ℕ
places_of m = m.order

module _ (n : ℕ) (ws : List ℕ) where
  same_crossings : (m : Layout) → Weighs n ws m → (arrays n ws).cost m.order ≡ crossings_of m
  unfolding crossings_of vertex_order weight
  same_crossings m g = rw (g.same_n, g.same_weights) refl

  same_candidates : (u : ℕ) (m : Layout) → Weighs n ws m → (arrays n ws).candidates u m.order ≡ map places_of (candidate_layouts u m)
  unfolding candidate_layouts vertex_order reordered changed
  same_candidates u m g =
      ap (λ (k : ℕ). map (λ v. moved_after u v (take k m.order) ++ drop k m.order) (clockwise_from u (take k m.order))) (sym g.same_n)
      ∙ sym (map_map places_of (λ v. reordered m (moved_after u v (take m.n m.order))) (clockwise_from u (take m.n m.order)))

  all_weigh : (u : ℕ) (m : Layout) → Weighs n ws m → (vs : List ℕ) → All (Weighs n ws) (map (λ v. reordered m (moved_after u v (vertex_order m))) vs)
  unfolding reordered changed
  all_weigh u m g [] = none
  all_weigh u m g (v ∷ vs) = also (record { same_n = g.same_n; same_weights = g.same_weights }) (all_weigh u m g vs)

  shows : Shows ring (arrays n ws) places_of (Weighs n ws)
  unfolding candidate_layouts
  shows =
      record {
        size = λ m g. sym g.same_n;
        cost = same_crossings;
        candidates = same_candidates;
        good = λ u m g. all_weigh u m g (clockwise_from u (vertex_order m));
      }

-- of an answer what the loops hold
abbrev numbers_of : Rounded → Swept
numbers_of r = record { order = r.layout.order; reduction = r.reduction; moved = r.moved; optima = r.optima }

abbrev settled_of : Converged → Settled
settled_of c = record { order = c.layout.order; reduction = c.reduction; rounds = c.rounds; converged = c.converged; optima = c.optima }

module _ (l : Layout) where
  abbrev n : ℕ
  n = l.n

  abbrev ws : List ℕ
  ws = l.weights

  itself : Weighs n ws l
  itself = record { same_n = refl; same_weights = refl }

  abbrev seen : Shows ring (arrays n ws) places_of (Weighs n ws)
  seen = shows n ws

  -- a round of the array is one of the layout
  round_seen : swept_round n ws l.order ≡ numbers_of (sift_round l)
  unfolding swept_round swept_by sift_round swept optima_in
  round_seen =
      let xs = sifts_of_all ring l in
      ap (swept_by n ws l.order) (all_shown seen l itself)
      ∙ rw (sifts_reach seen l xs, saved_shown seen (all_good seen l itself), moved_shown seen xs, bests_shown seen (all_good seen l itself)) refl

  -- and so are rounds up to a limit
  rounds_seen : (limit : ℕ) → settled_within n ws limit l.order ≡ settled_of (rounds_up_to limit l)
  unfolding settled_within settled_by rounds_up_to settled optima_in
  rounds_seen limit =
      let rs = rounds_from limit l in
      let good = rounds_good seen limit l itself in
      ap (settled_by n ws l.order) (rounds_shown seen limit l itself)
      ∙ rw (
        rounds_reach seen l rs,
        swept_shown seen good,
        saved_shown seen (swept_good seen good),
        length-map rs (shown_round seen),
        last_shown seen rs,
        bests_shown seen (swept_good seen good),
      )
      refl

  -- ---- the answers

  pub layout_drawn : T (valid l) → length l.order ≡ 64 → Drawn n ws l.order
  layout_drawn t size = record { size = size; weighted = weighted l t }

  module _ (t : T (valid l)) (fits : l.count < modulus) where
    pub sift_answered : length l.order ≡ 64 → {u : ℕ} → u < n → {best : Walk} → Found n l.order ws u best
        → {m : Layout} → m ≡ relaid l best.order best.saving
        → record { refusal = 0; layout = m; reduction = best.saving; optima = best.optima } ≡ sift_answer l u
    unfolding reduction
    sift_answered size {u} h {best} found e =
        let d = layout_drawn t size in
        let after : (arrays n ws).cost (sift_best (arrays n ws) l.order u) ≡ crossings_of (sifted l u) =
        ap (arrays n ws).cost (sift_shown seen l itself u) ∙ same_crossings n ws (sifted l u) (sift_good seen l itself u) in
        let saves : best.saving ≡ crossings_of l - crossings_of (sifted l u) =
        found_saving d h found ∙ ap₂ ◌-◌ (same_crossings n ws l itself) after in
        let places : best.order ≡ (sifted l u).order = found_order d h found ∙ sift_shown seen l itself u in
        let exact : crossings_of (sifted l u) + best.saving ≡ crossings_of l = omega (arith, saves, sift_lowers ring Valid (proper_sift l t u h)) in
        rw (e ∙ relaid_is l t fits best.saving (sifted_rearranged l t u h) places exact, saves, found_optima d h found ∙ best_shown seen l itself u) refl

    pub round_answered : {r : Swept} → r ≡ swept_round n ws l.order → {m : Layout} → m ≡ relaid l r.order r.reduction
        → record { refusal = 0; layout = m; reduction = r.reduction; moved = r.moved; optima = r.optima } ≡ sift_round l
    unfolding sift_round swept
    round_answered e f =
        let same = e ∙ round_seen in
        let reduced = round_reduced l t in
        let exact = ap (λ (x : Swept). crossings_of (sift_round l).layout + x.reduction) same ∙ reduced.exact in
        ap₂ (λ (x : Layout) (s : Swept). record { refusal = 0; layout = x; reduction = s.reduction; moved = s.moved; optima = s.optima })
        (f ∙ relaid_is l t fits _ reduced.rearranged (ap (λ (x : Swept). x.order) same) exact) same

    pub rounds_answered : (limit : ℕ) {r : Settled} → r ≡ settled_within n ws limit l.order → {m : Layout} → m ≡ relaid l r.order r.reduction
        → record { refusal = 0; layout = m; reduction = r.reduction; rounds = r.rounds; converged = r.converged; optima = r.optima } ≡ rounds_up_to limit l
    unfolding rounds_up_to settled
    rounds_answered limit e f =
        let same = e ∙ rounds_seen limit in
        let exact = ap (λ (x : Settled). crossings_of (rounds_up_to limit l).layout + x.reduction) same ∙ settled_exact limit l t in
        ap₂ (λ (x : Layout) (s : Settled).
        record { refusal = 0; layout = x; reduction = s.reduction; rounds = s.rounds; converged = s.converged; optima = s.optima })
        (f ∙ relaid_is l t fits _ (settled_rearranged limit l t) (ap (λ (x : Settled). x.order) same) exact) same
