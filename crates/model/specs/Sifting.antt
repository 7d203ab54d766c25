-- The calls sift, round and settle: circular sifting (document 004, Algorithm 2).
use Rattle.std.specs.Prelude.{ℕ, suc, ◌-◌, Bool, false, length, take, drop}
use mathlib.Core.List.{List, [], ◌∷◌, ◌++◌, map, flat_map}
use Rattle.model.specs.declared.Layout.{Layout}
use Rattle.model.specs.Answers.{Sifted}
use Rattle.model.specs.Answers.{Rounded}
use Rattle.model.specs.Answers.{Converged}
use Rattle.model.specs.Lists.{sum_over, place}
use Rattle.model.specs.Layouts.{vertex_order, crossings_of, reordered}
use Rattle.model.specs.Checks.{Check, checked, is_valid, is_vertex, limit_fits}
use Rattle.model.specs.Edits.{moved_after}
use Rattle.model.specs.Search.{Search, Sift, Round, sift_best, sift_moves, sift_at, best_candidates, sifts_through, sifts_of_all, round_at, rounds_within, reached}
use Rattle.model.specs.Search.{saved_in, moved_in, last_still}

-- ---- the ring as what is searched

-- "Let v1 to v(n−1) be the other devices clockwise from u."
unfoldable pub clockwise_from : ℕ → List ℕ → List ℕ
clockwise_from u o = drop (suc (place o u)) o ++ take (place o u) o

-- "For each k from 1, the candidate ring has u directly after vk."
unfoldable pub candidate_layouts : ℕ → Layout → List Layout
candidate_layouts u l = map (λ v. reordered l (moved_after u v (vertex_order l))) (clockwise_from u (vertex_order l))

abbrev pub ring : Search Layout
ring = record { size = λ l. l.n; cost = crossings_of; candidates = candidate_layouts }

-- ---- sift

-- "If no candidate has fewer crossings than the present ring, the list stays exactly as it was. Otherwise u is moved behind the vk of the
-- lowest k with least crossings."
abbrev pub sifted : Layout → ℕ → Layout
sifted = sift_best ring

-- "Answers the saving (crossings before less after)."
unfoldable pub reduction : Layout → Layout → ℕ
reduction before after = crossings_of before - crossings_of after

-- "how many of its n − 1 candidate places have the least crossings, 0 when n is below 2" (document 02, Note 3): those of the layout before the sift. The
-- present ring is the last candidate, so the least of the candidates is the least of it and them.
abbrev pub optima_of : Layout → ℕ → ℕ
optima_of = best_candidates ring

unfoldable pub sift_checks : Layout → ℕ → List Check
sift_checks l u = is_valid l ∷ is_vertex l u ∷ []

-- an accepted sift's answer, and a refused one's
abbrev pub sift_answer : Layout → ℕ → Sifted
sift_answer l u = record { refusal = 0; layout = sifted l u; reduction = reduction l (sifted l u); optima = optima_of l u }

abbrev pub sift_refused : Layout → ℕ → Sifted
sift_refused l r = record { refusal = r; layout = l; reduction = 0; optima = 0 }

unfoldable pub sift_of : Layout → ℕ → Sifted
sift_of l u = checked (sift_checks l u) (sift_answer l u) (sift_refused l)

-- ---- round

-- does sifting u move it?
abbrev pub moves : Layout → ℕ → Bool
moves = sift_moves ring

-- a sift; the vertices us sifted one after the other
abbrev pub sift_on : Layout → ℕ → Sift Layout
sift_on = sift_at ring

abbrev pub sifts_from : List ℕ → Layout → List (Sift Layout)
sifts_from = sifts_through ring

-- how many of its candidate places were best, and the sum over sifts
abbrev pub optima_at : Sift Layout → ℕ
optima_at x = optima_of x.before x.vertex

unfoldable pub optima_in : List (Sift Layout) → ℕ
optima_in xs = sum_over optima_at xs

-- what sifts that start from l answer: "Answers the summed saving and how many devices moved." "Round and settle answer the sum over their sifts."
unfoldable pub swept : Layout → List (Sift Layout) → Rounded
swept l xs =
    record { refusal = 0; layout = reached (λ x. x.after) l xs; reduction = saved_in ring xs; moved = moved_in xs; optima = optima_in xs }

-- "sifts devices 0 to n − 1 in rising number"
unfoldable pub sift_round : Layout → Rounded
sift_round l = swept l (sifts_of_all ring l)

abbrev pub round_refused : Layout → ℕ → Rounded
round_refused l r = record { refusal = r; layout = l; reduction = 0; moved = 0; optima = 0 }

unfoldable pub round_of : Layout → Rounded
round_of l = checked (is_valid l ∷ []) (sift_round l) (round_refused l)

-- ---- settle

abbrev pub round_on : Layout → Round Layout
round_on = round_at ring

-- the sifts that a round runs
abbrev pub sifts_of_round : Round Layout → List (Sift Layout)
sifts_of_round r = sifts_of_all ring r.before

-- "rounds until one moves no device, or the limit is reached"
abbrev pub rounds_from : ℕ → Layout → List (Round Layout)
rounds_from = rounds_within ring

-- what rounds that start from l answer: "Answers the saving, the rounds run, the unchanged last one included, and "settled" exactly when the last round
-- run moved no device."
unfoldable pub settled : Layout → List (Round Layout) → Converged
settled l rs =
    let xs = flat_map sifts_of_round rs in
    record {
      refusal = 0;
      layout = reached (λ r. r.after) l rs;
      reduction = saved_in ring xs;
      rounds = length rs;
      converged = last_still rs;
      optima = optima_in xs;
    }

unfoldable pub rounds_up_to : ℕ → Layout → Converged
rounds_up_to limit l = settled l (rounds_from limit l)

unfoldable pub settle_checks : Layout → ℕ → List Check
settle_checks l limit = is_valid l ∷ limit_fits limit ∷ []

abbrev pub settle_refused : Layout → ℕ → Converged
settle_refused l r = record { refusal = r; layout = l; reduction = 0; rounds = 0; converged = false; optima = 0 }

unfoldable pub settle_of : Layout → ℕ → Converged
settle_of l limit = checked (settle_checks l limit) (rounds_up_to limit l) (settle_refused l)
