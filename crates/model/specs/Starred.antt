-- The starred rings of document 01, "Rings worked by hand", rings with isolated vertices (document 02, Note 2), how many places of a vertex are best
-- (Note 3), lays that leave crossings (Note 6), and rings whose links weigh (Note 8): five tables, and one theorem about the definitions that covers them.
use Rattle.std.specs.Prelude.{ℕ, ◌-◌, ◌^◌, Bool, true, false, ◌&&◌, length, replicate, T, eqb}
use Rattle.std.specs.Bool.{beq}
use Rattle.std.proofs.Math.Bool.{xor}
use mathlib.Core.List.{List, [], ◌∷◌, ◌++◌, flat_map}
use Rattle.model.specs.declared.Edge.{Edge}
use Rattle.model.specs.declared.Layout.{Layout}
use Rattle.model.specs.Answers.{Appended}
use Rattle.model.specs.Lists.{one, upto, every, any, keep, first_with, sum_over, sum_pairs, no_repeats, member, occurrences, place}
use Rattle.model.specs.Crossings.{bit, linked, edges, between, alternate, crosses, adjacent, weighted_edges, crossing_weight, crossings}
use Rattle.model.specs.Layouts.{vertex_order, table_weight, weight, crossings_of, each_once, zero_from, symmetric, loopless, bits_below}
use Rattle.model.specs.Layouts.{row_of, is_weight, even_weights, weighs_edges, blank_from, weights_fit, valid, carried, changed, reordered}
use Rattle.model.specs.Checks.{refusal, by_refusal, checked, is_valid, is_vertex, differ, limit_fits}
use Rattle.model.specs.Edits.{both_ways, changed_or, insert_after, moved_after, move_checks, move_of}
use Rattle.model.specs.Reading.{pair_with, or_else, first_pair, first_crossing_of}
use Rattle.model.specs.GreedyAppend.{unplaced, waiting, isolated, has_edges, degree_in, preferred, best_of, next_vertex, closing, open'}
use Rattle.model.specs.GreedyAppend.{front_crossings, back_crossings, alone, place_front, place_back, place_vertex, place_more, place_at_back, place_linked}
use Rattle.model.specs.GreedyAppend.{place_all, former_place_all, lay_checks, lay_of, former_lay_of}
use Rattle.model.specs.Search.{least, count_with, reached, moved_in, last_still, sift_best, sift_moves, best_candidates, sifts_through, saved_in, round_by}
use Rattle.model.specs.Search.{sifts_of_all, round_at, rounds_within}
use Rattle.model.specs.Sifting.{clockwise_from, candidate_layouts, reduction, sift_checks, sift_of, optima_in, swept, sift_round, round_of, settled}
use Rattle.model.specs.Sifting.{rounds_up_to, settle_checks, settle_of}
use Rattle.model.specs.Charts.{same_list, same_edge, joins, word_in, with_weights, table_in, layout_with}

-- ---- the tables

-- a ring: how many vertices, its edges and its order
pub record Ring : Type 0 where
  pub vertices : ℕ
  pub links : List Edge
  pub order : List ℕ

-- what a table says of a ring
pub data Claim : Type 0 where
  -- its crossings
  crossing : ℕ → Claim
  -- the shown crossing pair, or no edge for "none"
  showing : List Edge → Claim
  -- move a behind b: the order
  moving : ℕ → ℕ → List ℕ → Claim
  -- lay from s: the order and the tally
  laying : ℕ → List ℕ → ℕ → Claim
  -- the crossings of that order, counted pair by pair, are the tally and the count
  tallying : ℕ → List ℕ → ℕ → Claim
  -- and what it gave by the former rule
  formerly_laying : ℕ → List ℕ → ℕ → Claim
  -- sift u: the order and the saving
  sifting : ℕ → List ℕ → ℕ → Claim
  -- settle with a limit: the rounds, "settled", the count and the order
  settling : ℕ → ℕ → Bool → ℕ → List ℕ → Claim
  -- sift u, a round, settle with a limit: how many candidate places have the least crossings, summed over the sifts
  sift_optima : ℕ → ℕ → Claim
  round_optima : ℕ → Claim
  settle_optima : ℕ → ℕ → Claim

pub record Row : Type 0 where
  pub ring : Ring
  pub claims : List Claim

-- the same of a ring whose links have these weights, in their sequence
pub record WeightedRow : Type 0 where
  pub ring : Ring
  pub weights : List ℕ
  pub claims : List Claim

-- the edge a-b, written lower end first
infix 90 ◌to◌
unfoldable pub ◌to◌ : ℕ → ℕ → Edge
a to b = record { low = a; high = b }

-- all edges between n vertices
unfoldable pub complete : ℕ → List Edge
complete n = edges n (replicate n (2 ^ n - 1))

unfoldable pub first : Ring
first = record { vertices = 4; links = 0 to 2 ∷ 1 to 3 ∷ []; order = 0 ∷ 1 ∷ 2 ∷ 3 ∷ [] }

unfoldable pub starred : List Row
starred =
    record { ring = first; claims = crossing 1 ∷ showing (0 to 2 ∷ 1 to 3 ∷ []) ∷ [] }
    ∷ record {
      ring = record { vertices = 4; links = 0 to 2 ∷ 1 to 3 ∷ []; order = 0 ∷ 2 ∷ 1 ∷ 3 ∷ [] };
      claims = crossing 0 ∷ showing [] ∷ [];
    }
    ∷ record {
      ring = record { vertices = 4; links = 0 to 2 ∷ 0 to 3 ∷ []; order = 0 ∷ 1 ∷ 2 ∷ 3 ∷ [] };
      claims = crossing 0 ∷ [];
    }
    ∷ record {
      ring = record { vertices = 4; links = complete 4; order = 0 ∷ 1 ∷ 2 ∷ 3 ∷ [] };
      claims = crossing 1 ∷ settling 1 1 true 1 (0 ∷ 1 ∷ 2 ∷ 3 ∷ []) ∷ [];
    }
    ∷ record {
      ring = record { vertices = 5; links = complete 5; order = 0 ∷ 1 ∷ 2 ∷ 3 ∷ 4 ∷ [] };
      claims = crossing 5 ∷ [];
    }
    ∷ record { ring = first; claims = sifting 0 (1 ∷ 0 ∷ 2 ∷ 3 ∷ []) 1 ∷ [] }
    ∷ record {
      ring = first;
      claims = settling 1 1 false 0 (1 ∷ 0 ∷ 2 ∷ 3 ∷ []) ∷ settling 2 2 true 0 (1 ∷ 0 ∷ 2 ∷ 3 ∷ []) ∷ [];
    }
    ∷ record {
      ring = record { vertices = 4; links = []; order = 0 ∷ 1 ∷ 2 ∷ 3 ∷ [] };
      claims = moving 3 0 (0 ∷ 3 ∷ 1 ∷ 2 ∷ []) ∷ [];
    }
    ∷ record {
      ring = record { vertices = 4; links = 0 to 1 ∷ 0 to 2 ∷ 1 to 3 ∷ 2 to 3 ∷ []; order = 0 ∷ 1 ∷ 2 ∷ 3 ∷ [] };
      claims = laying 0 (2 ∷ 0 ∷ 1 ∷ 3 ∷ []) 0 ∷ [];
    }
    ∷ []

-- some vertices without edges, and all
unfoldable pub with_isolated : List Row
with_isolated =
    record {
      ring = record { vertices = 6; links = 1 to 2 ∷ 1 to 3 ∷ 2 to 4 ∷ 3 to 4 ∷ []; order = 0 ∷ 1 ∷ 2 ∷ 3 ∷ 4 ∷ 5 ∷ [] };
      claims =
          laying 5 (3 ∷ 5 ∷ 1 ∷ 2 ∷ 4 ∷ 0 ∷ []) 0
          ∷ formerly_laying 5 (3 ∷ 5 ∷ 0 ∷ 1 ∷ 2 ∷ 4 ∷ []) 0
          ∷ laying 1 (3 ∷ 1 ∷ 2 ∷ 4 ∷ 0 ∷ 5 ∷ []) 0
          ∷ [];
    }
    ∷ record {
      ring = record { vertices = 5; links = 0 to 1 ∷ 0 to 2 ∷ 1 to 3 ∷ 2 to 3 ∷ []; order = 0 ∷ 1 ∷ 2 ∷ 3 ∷ 4 ∷ [] };
      claims = laying 4 (2 ∷ 4 ∷ 0 ∷ 1 ∷ 3 ∷ []) 0 ∷ formerly_laying 4 (2 ∷ 4 ∷ 0 ∷ 1 ∷ 3 ∷ []) 0 ∷ [];
    }
    ∷ record {
      ring = record { vertices = 4; links = []; order = 0 ∷ 1 ∷ 2 ∷ 3 ∷ [] };
      claims = laying 2 (2 ∷ 0 ∷ 1 ∷ 3 ∷ []) 0 ∷ [];
    }
    ∷ []

-- how many places are best, where a vertex moves, where it stays, and with one vertex and none
unfoldable pub with_optima : List Row
with_optima =
    record { ring = first; claims = sift_optima 0 2 ∷ round_optima 8 ∷ settle_optima 1 8 ∷ settle_optima 2 16 ∷ [] }
    ∷ record {
      ring = record { vertices = 4; links = complete 4; order = 0 ∷ 1 ∷ 2 ∷ 3 ∷ [] };
      claims = sift_optima 0 3 ∷ [];
    }
    ∷ record { ring = record { vertices = 2; links = []; order = 0 ∷ 1 ∷ [] }; claims = sift_optima 0 1 ∷ sift_optima 1 1 ∷ [] }
    ∷ record { ring = record { vertices = 1; links = []; order = 0 ∷ [] }; claims = sift_optima 0 0 ∷ round_optima 0 ∷ [] }
    ∷ record { ring = record { vertices = 0; links = []; order = [] }; claims = round_optima 0 ∷ settle_optima 1 0 ∷ [] }
    ∷ []

-- lay leaves crossings: more than there were, fewer than at the other ends, with an isolated vertex at the back and at the start
unfoldable pub with_tally : List Row
with_tally =
    record {
      ring = record { vertices = 5; links = 0 to 1 ∷ 0 to 2 ∷ 0 to 4 ∷ 1 to 2 ∷ 1 to 3 ∷ 2 to 3 ∷ 3 to 4 ∷ []; order = 0 ∷ 1 ∷ 2 ∷ 3 ∷ 4 ∷ [] };
      claims = crossing 1 ∷ tallying 1 (1 ∷ 0 ∷ 2 ∷ 3 ∷ 4 ∷ []) 2 ∷ tallying 0 (2 ∷ 1 ∷ 0 ∷ 4 ∷ 3 ∷ []) 1 ∷ [];
    }
    ∷ record {
      ring = record { vertices = 6; links = 0 to 2 ∷ 0 to 3 ∷ 0 to 5 ∷ 2 to 3 ∷ 2 to 4 ∷ 3 to 4 ∷ 4 to 5 ∷ []; order = 0 ∷ 1 ∷ 2 ∷ 3 ∷ 4 ∷ 5 ∷ [] };
      claims = tallying 5 (5 ∷ 0 ∷ 2 ∷ 3 ∷ 4 ∷ 1 ∷ []) 1 ∷ tallying 1 (1 ∷ 5 ∷ 0 ∷ 2 ∷ 3 ∷ 4 ∷ []) 1 ∷ [];
    }
    ∷ []

-- a crossing counts the product; lay goes by weights at its ends, and by numbers of links in its choice; a sift and a settling go by weights
unfoldable pub with_link_weights : List WeightedRow
with_link_weights =
    record {
      ring = first;
      weights = 2 ∷ 3 ∷ [];
      claims =
          crossing 6
          ∷ showing (0 to 2 ∷ 1 to 3 ∷ [])
          ∷ sifting 0 (1 ∷ 0 ∷ 2 ∷ 3 ∷ []) 6
          ∷ sift_optima 0 2
          ∷ settling 1 1 false 0 (1 ∷ 0 ∷ 2 ∷ 3 ∷ [])
          ∷ settling 2 2 true 0 (1 ∷ 0 ∷ 2 ∷ 3 ∷ [])
          ∷ [];
    }
    ∷ record {
      ring = record { vertices = 4; links = complete 4; order = 0 ∷ 1 ∷ 2 ∷ 3 ∷ [] };
      weights = 1 ∷ 2 ∷ 1 ∷ 2 ∷ 3 ∷ 1 ∷ [];
      claims = crossing 6 ∷ tallying 2 (1 ∷ 2 ∷ 0 ∷ 3 ∷ []) 1 ∷ [];
    }
    ∷ record {
      ring = record { vertices = 4; links = complete 4; order = 0 ∷ 1 ∷ 2 ∷ 3 ∷ [] };
      weights = replicate 6 1;
      claims = crossing 1 ∷ tallying 2 (2 ∷ 0 ∷ 1 ∷ 3 ∷ []) 1 ∷ [];
    }
    ∷ record {
      ring = record { vertices = 4; links = 0 to 1 ∷ 0 to 2 ∷ 0 to 3 ∷ 1 to 2 ∷ 1 to 3 ∷ []; order = 0 ∷ 1 ∷ 2 ∷ 3 ∷ [] };
      weights = 2 ∷ 1 ∷ 1 ∷ 7 ∷ 7 ∷ [];
      claims = crossing 7 ∷ tallying 0 (0 ∷ 2 ∷ 1 ∷ 3 ∷ []) 0 ∷ [];
    }
    ∷ record {
      ring = record { vertices = 5; links = 0 to 2 ∷ 0 to 3 ∷ 0 to 4 ∷ 1 to 3 ∷ 1 to 4 ∷ 2 to 3 ∷ []; order = 0 ∷ 1 ∷ 2 ∷ 3 ∷ 4 ∷ [] };
      weights = 1 ∷ 1 ∷ 255 ∷ 1 ∷ 5 ∷ 1 ∷ [];
      claims = crossing 11 ∷ sifting 0 (1 ∷ 2 ∷ 3 ∷ 0 ∷ 4 ∷ []) 10 ∷ settling 50 2 true 0 (1 ∷ 3 ∷ 2 ∷ 0 ∷ 4 ∷ []) ∷ settle_optima 50 10 ∷ [];
    }
    ∷ []

-- ---- the theorem

-- the layout of a ring whose links have these weights, with its true count
unfoldable pub weighted_layout_of : Ring → List ℕ → Layout
weighted_layout_of r ws = layout_with r.vertices r.links ws r.order

-- of a ring of a table: every link weighs 1
unfoldable pub layout_of : Ring → Layout
layout_of r = weighted_layout_of r (replicate (length r.links) 1)

-- are two lists of edges the same?
unfoldable pub same_edges : List Edge → List Edge → Bool
same_edges es fs = same_list (ends es) (ends fs)
  where
    ends : List Edge → List ℕ
    ends [] = []
    ends (e ∷ es) = e.low ∷ e.high ∷ ends es

-- does a call's answer have refusal code 0 and this order?
unfoldable pub gives : ℕ → Layout → List ℕ → Bool
gives refused l o = eqb refused 0 && same_list (vertex_order l) o

-- this order and this tally?
unfoldable pub lays : Appended → List ℕ → ℕ → Bool
lays r o tally = gives r.refusal r.layout o && eqb r.tally tally

unfoldable pub holds : Layout → Claim → Bool
holds l (crossing k) = eqb (crossings_of l) k && eqb l.count k
holds l (showing pair) =
    let a = first_crossing_of l in
    eqb a.refusal 0 && same_edges a.pair pair && beq a.none (eqb (length pair) 0)
holds l (moving a b o) = let r = move_of l a b in gives r.refusal r.layout o
holds l (laying s o tally) = lays (lay_of l s) o tally
holds l (tallying s o k) = let r = lay_of l s in lays r o k && eqb (crossings_of r.layout) k && eqb r.layout.count k
holds l (formerly_laying s o tally) = lays (former_lay_of l s) o tally
holds l (sifting u o saving) = let r = sift_of l u in gives r.refusal r.layout o && eqb r.reduction saving
holds l (settling limit rounds settled count o) =
    let r = settle_of l limit in
    gives r.refusal r.layout o
    && eqb r.rounds rounds
    && beq r.converged settled
    && eqb r.layout.count count
holds l (sift_optima u k) = let r = sift_of l u in eqb r.refusal 0 && eqb r.optima k
holds l (round_optima k) = let r = round_of l in eqb r.refusal 0 && eqb r.optima k
holds l (settle_optima limit k) = let r = settle_of l limit in eqb r.refusal 0 && eqb r.optima k

-- every claim of the tables holds, by computation
pub starred_holds : T (every (λ row. every (holds (layout_of row.ring)) row.claims) (starred ++ with_isolated ++ with_optima ++ with_tally)
    && every (λ row. every (holds (weighted_layout_of row.ring row.weights)) row.claims) with_link_weights)
unfolding starred with_isolated with_optima with_tally with_link_weights first complete ◌to◌ weighted_layout_of layout_of same_edges gives lays holds
    row_of is_weight even_weights weighs_edges blank_from weights_fit table_weight with_weights table_in both_ways one upto every any keep first_with sum_over
    sum_pairs no_repeats member occurrences place bit linked edges between alternate crosses adjacent weighted_edges crossing_weight crossings vertex_order
    weight crossings_of each_once zero_from symmetric loopless bits_below valid carried changed reordered refusal by_refusal checked is_valid is_vertex
    differ limit_fits changed_or insert_after moved_after move_checks move_of pair_with or_else first_pair first_crossing_of unplaced waiting isolated has_edges
    degree_in preferred best_of next_vertex closing open' front_crossings back_crossings alone place_front place_back place_vertex place_more place_at_back
    place_linked place_all former_place_all lay_checks lay_of former_lay_of clockwise_from candidate_layouts least count_with reached moved_in last_still sift_best
    sift_moves best_candidates sifts_through saved_in round_by sifts_of_all round_at rounds_within reduction sift_checks sift_of optima_in swept sift_round round_of
    settled rounds_up_to settle_checks settle_of same_list same_edge joins word_in flat_map xor
starred_holds = tt
