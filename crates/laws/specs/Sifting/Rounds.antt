-- The ring as what is searched (Sweeps): its candidates are lawful, and what the laws of sifts, rounds and settlings say of it.
use Rattle.std.specs.Prelude.{ℕ, ◌+◌, ◌≤◌, ◌<◌, ◌≡◌, refl, true, List, length, T}
use Rattle.std.proofs.Math.Nat.{le_trans}
use Rattle.std.proofs.Common.{le_of_eq, sym, ap, ◌∙◌}
use Rattle.model.specs.declared.Layout.{Layout}
use Rattle.model.specs.Answers.{Changed}
use Rattle.model.specs.Answers.{Rounded}
use Rattle.model.specs.Lists.{upto}
use Rattle.model.specs.Layouts.{vertex_order, weight, crossings_of, valid, changed, reordered}
use Rattle.model.specs.Edits.{move_of}
use Rattle.model.specs.Search.{Sift, Round, sifts_of_all, round_at, round_by}
use Rattle.model.specs.Sifting.{ring, candidate_layouts, sift_on, sifts_from, sift_round, round_on, rounds_from, rounds_up_to, swept, settled}
use Rattle.model.specs.Histories.{BestPlace, LocalMinimum}
use Rattle.laws.specs.Sums.Lists.{All, all_upto}
use Rattle.laws.specs.Layouts.Validity.{sound}
use Rattle.laws.specs.Layouts.Reordering.{move_accepted, move_layout, reordered_valid, reordered_order, reordered_crossings}
use Rattle.laws.specs.Sifting.Sweeps as sweeps
use Rattle.laws.specs.Sifting.Sweeps.{NoneBelow, Best, Minimum, Lawful, Sifts, Rounds, sift_best_lem, still_below, chain_exact, chain_fewer}
use Rattle.laws.specs.Sifting.Sweeps.{follow_keeps, sifts_chain, sifts_each, rounds_follow, rounds_chain, rounds_sifts}
use Rattle.laws.specs.Sifting.Circles.{Reorders, to_places, circle_lawful}
use Rattle.laws.specs.Sifting.Candidates.{Rearranged, rearranged_refl, rearranged_trans, sifted_rearranged}

abbrev pub Valid : Layout → Type 0
Valid l = T (valid l)

abbrev pub ProperSift : Sift Layout → Type 0
ProperSift = Sifts ring Valid

abbrev pub ProperRound : Round Layout → Type 0
ProperRound = Rounds ring Valid

-- ---- the candidates of a vertex, and the call move

reordered_n : (l : Layout) (o : List ℕ) → (reordered l o).n ≡ l.n
unfolding reordered changed
reordered_n l o = refl

reordered_twice : (l : Layout) (o p : List ℕ) → length o ≡ l.n → length p ≡ l.n → crossings_of (reordered (reordered l o) p) ≡ crossings_of (reordered l p)
unfolding reordered changed weight
reordered_twice l o p e f = reordered_crossings (reordered l o) p f ∙ sym (reordered_crossings l p f)

reorders : Reorders (λ l. l.n) crossings_of vertex_order reordered Valid
reorders =
    record {
      permuted = λ l t. (sound l t).permutation;
      keeps_valid = λ l o t p. reordered_valid l o t p;
      keeps_size = λ l o. reordered_n l o;
      has_order = reordered_order;
      costs_same = reordered_twice;
    }

pub lawful : Lawful ring Valid
unfolding candidate_layouts
lawful = circle_lawful (λ l. l.n) crossings_of vertex_order reordered Valid reorders

module _ (l : Layout) (t : T (valid l)) (u : ℕ) (h : u < l.n) where
  -- where no candidate of u has fewer than k crossings, no move of u behind another has
  pub to_moves : (k : ℕ) → NoneBelow ring Valid k u l → (v : ℕ) → v < l.n → (u ≡ v → ⊥) → k ≤ crossings_of (move_of l u v).layout
  unfolding candidate_layouts
  to_moves k b v m d =
      le_trans (to_places (λ l. l.n) crossings_of vertex_order reordered Valid reorders l t u h k b v m d)
      (le_of_eq (ap crossings_of (sym (move_layout l t u h v m d))))

  -- a vertex that stands best stands so by the call move
  pub best_place : Best ring Valid l u → BestPlace l u
  best_place b v m d = (ap (λ (c : Changed). c.refusal) (move_accepted l u v t h m d), to_moves (crossings_of l) b v m d)

pub local_minimum : (l : Layout) → T (valid l) → Minimum ring Valid l → LocalMinimum l
local_minimum l t b u h = best_place l t u h (b u h)

-- ---- a sift

module _ (l : Layout) (t : T (valid l)) (u : ℕ) (h : u < l.n) where
  pub proper_sift : ProperSift (sift_on l u)
  proper_sift = sweeps.proper_sift ring Valid lawful l t u h

-- the vertex that was sifted stands at a best place
pub best_sifted : {x : Sift Layout} → ProperSift x → (x.vertex < x.after.n) × BestPlace x.after x.vertex
best_sifted {x} p =
    let below = still_below ring Valid p in
    (below, best_place x.after p.candidate.valid_after x.vertex below (sift_best_lem ring Valid p))

-- ---- a round

-- the vertices us sifted one after the other, and what that answers
unfoldable pub sift_all : List ℕ → Layout → Rounded
sift_all us l = swept l (sifts_from us l)

-- what the numbers of sifts one after the other say: the reduction is exact, and each vertex that moves takes at least one crossing away
pub record Reduced (l : Layout) (r : Rounded) : Type 0 where
  pub rearranged : Rearranged l r.layout
  pub exact : crossings_of r.layout + r.reduction ≡ crossings_of l
  pub fewer : r.moved ≤ r.reduction

pub sifts_reduced : (us : List ℕ) (l : Layout) → T (valid l) → All (λ u. u < l.n) us → Reduced l (sift_all us l)
unfolding sift_all swept
sifts_reduced us l t below =
    let chain = sifts_chain ring us l in
    let proper = sweeps.sifts_proper ring Valid lawful us l t below in
    record {
      rearranged =
          follow_keeps Rearranged rearranged_trans (rearranged_refl l t) chain
          (sifts_each ring Valid lawful {P = λ x. Rearranged x.before x.after} sifted_rearranged us l t below);
      exact = chain_exact ring Valid chain proper;
      fewer = chain_fewer ring Valid proper;
    }

module _ (l : Layout) (t : T (valid l)) where
  pub round_reduced : Reduced l (sift_round l)
  unfolding sift_round sifts_of_all sift_all
  round_reduced = sifts_reduced (upto l.n) l t (all_upto l.n)

  pub proper_round : ProperRound (round_on l)
  proper_round = sweeps.proper_round ring Valid lawful l t

-- ---- rounds until one moves no vertex

module _ (limit : ℕ) (l : Layout) (t : T (valid l)) where
  pub proper_rounds : All ProperRound (rounds_from limit l)
  proper_rounds = sweeps.rounds_proper ring Valid lawful limit l t

  pub settled_rearranged : Rearranged l (rounds_up_to limit l).layout
  unfolding rounds_up_to settled round_at round_by sift_round swept
  settled_rearranged =
      follow_keeps Rearranged rearranged_trans (rearranged_refl l t) (rounds_follow ring limit l)
      (sweeps.rounds_each ring Valid lawful {P = λ r. Rearranged r.before r.after} (λ m v. (round_reduced m v).rearranged) limit l t)

  pub settled_exact : crossings_of (rounds_up_to limit l).layout + (rounds_up_to limit l).reduction ≡ crossings_of l
  unfolding rounds_up_to settled
  settled_exact = chain_exact ring Valid (rounds_chain ring Valid (rounds_follow ring limit l) proper_rounds) (rounds_sifts ring Valid proper_rounds)

  -- settled: no vertex has a better place
  pub settled_minimum : (rounds_up_to limit l).converged ≡ true → LocalMinimum (rounds_up_to limit l).layout
  unfolding rounds_up_to settled
  settled_minimum e =
      local_minimum (rounds_up_to limit l).layout settled_rearranged.valid_after (sweeps.settled_minimum ring Valid lawful limit l t e)
