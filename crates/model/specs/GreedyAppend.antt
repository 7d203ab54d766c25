-- The call lay: greedy append (document 004, Algorithm 1, Connectivity with Crossings), isolated vertices at the back (document 02, Note 2).
use Rattle.std.specs.Prelude.{ℕ, zero, suc, ◌+◌, ◌*◌, ◌-◌, Bool, true, not, cond, ◌&&◌, ◌||◌, List, [], ◌∷◌, ◌++◌, length, get_or, eqb, ltb}
use Rattle.model.specs.declared.Layout.{Layout}
use Rattle.model.specs.Answers.{Appended}
use Rattle.model.specs.Lists.{one, upto, keep, sum_over, sum_pairs, member}
use Rattle.model.specs.Crossings.{linked}
use Rattle.model.specs.Layouts.{weight, reordered}
use Rattle.model.specs.Checks.{Check, checked, is_valid, is_vertex}

-- the vertices that are not placed yet, in rising number
unfoldable pub unplaced : ℕ → List ℕ → List ℕ
unplaced n placed = keep (λ v. not (member v placed)) (upto n)

-- those of them that pass p
unfoldable pub waiting : ℕ → (ℕ → Bool) → List ℕ → List ℕ
waiting n p placed = keep p (unplaced n placed)

-- "unlinked": the neighbour word is 0
unfoldable pub isolated : List ℕ → ℕ → Bool
isolated adj v = eqb (get_or adj v 0) 0

-- "linked devices"
unfoldable pub has_edges : List ℕ → ℕ → Bool
has_edges adj v = not (isolated adj v)

-- how many of the vertices us are neighbours of v
unfoldable pub degree_in : List ℕ → ℕ → List ℕ → ℕ
degree_in adj v us = sum_over (λ u. one (linked adj v u)) us

module _ (n : ℕ) (adj : List ℕ) (placed : List ℕ) where
  -- v comes before u: "most placed neighbours; among those, fewest unplaced neighbours"
  unfoldable pub preferred : ℕ → ℕ → Bool
  preferred v u =
      ltb (degree_in adj u placed) (degree_in adj v placed)
      || eqb (degree_in adj v placed) (degree_in adj u placed)
      && ltb (degree_in adj v (unplaced n placed)) (degree_in adj u (unplaced n placed))

  -- "among those, the lowest number": of the candidates in rising number, a later one is taken only where it is preferred
  unfoldable pub best_of : ℕ → List ℕ → ℕ
  best_of best [] = best
  best_of best (v ∷ vs) = best_of (cond (preferred v best) v best) vs

  unfoldable pub next_vertex : List ℕ → ℕ
  next_vertex [] = 0
  next_vertex (v ∷ vs) = best_of v vs

module _ (n : ℕ) (W : ℕ → ℕ → ℕ) (placed : List ℕ) (v : ℕ) where
  -- "a closing link joins v to a placed device p": its weight
  unfoldable pub closing : ℕ → ℕ
  closing p = W v p

  -- "an open link joins a placed device q to an unplaced one other than v": the weight of them all
  unfoldable pub open' : ℕ → ℕ
  open' q = sum_over (W q) (keep (λ x. not (eqb v x)) (unplaced n placed))

  -- "At the front end the two cross when q stands before p"
  unfoldable pub front_crossings : ℕ
  front_crossings = sum_pairs (λ q p. closing p * open' q) placed

  -- "at the back end when q stands after p"
  unfoldable pub back_crossings : ℕ
  back_crossings = sum_pairs (λ p q. closing p * open' q) placed

-- the list so far, and the tally
pub record Placing : Type 0 where
  pub placed : List ℕ
  pub tally : ℕ

-- "The list starts as s alone."
unfoldable pub alone : ℕ → Placing
alone s = record { placed = s ∷ []; tally = 0 }

module _ (n : ℕ) (W : ℕ → ℕ → ℕ) where
  -- v at an end, with the crossings that it makes there
  unfoldable pub place_front : Placing → ℕ → Placing
  place_front s v = record { placed = v ∷ s.placed; tally = s.tally + front_crossings n W s.placed v }

  unfoldable pub place_back : Placing → ℕ → Placing
  place_back s v = record { placed = s.placed ++ (v ∷ []); tally = s.tally + back_crossings n W s.placed v }

  -- "v goes to the end with fewer such crossings; on a tie, to the back."
  unfoldable pub place_vertex : Placing → ℕ → Placing
  place_vertex s v = cond (ltb (front_crossings n W s.placed v) (back_crossings n W s.placed v)) (place_front s v) (place_back s v)

  -- each of the vertices vs in turn at the back
  unfoldable pub place_at_back : Placing → List ℕ → Placing
  place_at_back s [] = s
  place_at_back s (v ∷ vs) = place_at_back (place_back s v) vs

-- vertices are chosen by the words, and put at an end by the weights
module _ (n : ℕ) (adj : List ℕ) (W : ℕ → ℕ → ℕ) where
  -- k steps, each of which takes the next of those that pass p
  unfoldable pub place_more : (ℕ → Bool) → ℕ → Placing → Placing
  place_more p zero s = s
  place_more p (suc k) s = place_more p k (place_vertex n W s (next_vertex n adj s.placed (waiting n p s.placed)))

  module _ (s : ℕ) where
    -- "Lay now places linked devices by the old rule."
    unfoldable pub place_linked : Placing
    place_linked = place_more (has_edges adj) (length (waiting n (has_edges adj) (s ∷ []))) (alone s)

    -- "Then it appends unlinked ones at the back in rising number. The named start stays the first placed even if unlinked."
    unfoldable pub place_all : Placing
    place_all = place_at_back n W place_linked (waiting n (isolated adj) place_linked.placed)

    -- the former rule, that of document 01 alone: n - 1 steps, in which every vertex is one to choose from
    unfoldable pub former_place_all : Placing
    former_place_all = place_more (λ v. true) (n - 1) (alone s)

unfoldable pub lay_checks : Layout → ℕ → List Check
lay_checks l s = is_valid l ∷ is_vertex l s ∷ []

-- "The answer carries a tally, the sum over all steps of the crossings at the end taken."
abbrev pub lay_answer : Layout → Placing → Appended
lay_answer l done = record { refusal = 0; layout = reordered l done.placed; tally = done.tally }

abbrev pub lay_refused : Layout → ℕ → Appended
lay_refused l r = record { refusal = r; layout = l; tally = 0 }

unfoldable pub lay_of : Layout → ℕ → Appended
lay_of l s = checked (lay_checks l s) (lay_answer l (place_all l.n l.adjacency (weight l) s)) (lay_refused l)

-- what lay gave by the former rule, for the claim that "its crossings equal those of the former rule"; no code runs it
unfoldable pub former_lay_of : Layout → ℕ → Appended
former_lay_of l s = checked (lay_checks l s) (lay_answer l (former_place_all l.n l.adjacency (weight l) s)) (lay_refused l)

-- the vertices that keep their place from one rule to the other: those with edges, and the start
unfoldable pub stays : List ℕ → ℕ → ℕ → Bool
stays adj start v = has_edges adj v || eqb v start
