-- What the walk finds: the order after the sift, by how much its crossings are fewer, and how many candidates have as few.
use Prim.Native.Nat.{ℕ, suc, ◌+◌, ◌-◌, ◌≤◌, ◌<◌}
use Rattle.std.proofs.Math.Nat.{le_antisymm}
use Rattle.std.proofs.Common.{le_of_eq, not-suc-le-zero, arith, ◌∙◌}
use Rattle.std.specs.Prelude.{◌≡◌, Bool, get_or, take, ltb}
use Rattle.std.proofs.Math.Path.{sym, ap, ap₂}
use Rattle.std.proofs.Math.Bool.{cond, ◌&&◌}
use mathlib.Core.List.{List, ◌++◌}
use Rattle.std.proofs.Math.ListN.{length, drop, take-append-drop, get_or-map}
use Rattle.std.proofs.lemmas.List.{length-map}
use borrow.Author.Tests.{lt-ltb, le-ltb}
use Rattle.model.specs.Lists.{place}
use Rattle.model.specs.Crossings.{crossings}
use Rattle.model.specs.Edits.{moved_after}
use Rattle.model.specs.Search.{count_with}
use Rattle.laws.specs.Sums.Indicators.{less, same, more, order}
use Rattle.laws.specs.Orders.Permutations.{at, at_lt, place_below, place_of_at}
use Rattle.laws.specs.Tables.Rows.{table_weight}
use Rattle.laws.specs.Sifting.LocalSearch.{least_default, count_most}
use Rattle.laws.specs.Sifting.Keeping.{best_as, best_shifted, best_none, number_kept, first_kept, least_kept, least_over}
use Rattle.laws.specs.Sifting.Candidates.{candidates, least_crossings, improves, sifted_order, optima, sift_stays}
use Rattle.laws.specs.Sifting.Walk.{last_stays}
use Rattle.places.specs.MovedPlaces.{shifted, shifted_moved}
use Rattle.sift_walk.specs.declared.Kept.{Kept}
use Rattle.sift_walk.specs.declared.Walk.{Walk}
use Rattle.sift_walk.specs.Keeping.{KeptOf}
use Rattle.sift_walk.specs.Seats.{turned, Seated, others_of, small, perm, below, others_length, turned_vertex}
use Rattle.sift_walk.specs.Walks.{start, candidate_crossings, present_crossings, KeptRight}

pub record Found (n : ℕ) (places ws : List ℕ) (u : ℕ) (r : Walk) : Type 0 where
  pub order : r.order ≡ sifted_order n (table_weight ws) u (take n places) ++ drop n places
  pub saving : r.saving + least_crossings n (table_weight ws) u (take n places) ≡ crossings n (take n places) (table_weight ws)
  pub optima_are : r.optima ≡ optima n (table_weight ws) u (take n places)

-- ---- what is chosen

-- the entries after the one at place p was moved behind the one at place q, if both are places
unfoldable pub moved_places : List ℕ → ℕ → ℕ → List ℕ
moved_places places p q = cond (ltb p 64 && ltb q 64) (shifted places p q) places

-- the first best candidate, where its number is below the start
abbrev pub moving : ℕ → ℕ → List ℕ → Kept → Walk
moving n p places kept = record { order = moved_places places p (turned n p kept.first); saving = start - kept.least; optima = kept.optima }

abbrev pub staying : List ℕ → Kept → Walk
staying places kept = record { order = places; saving = 0; optima = kept.optima }

unfoldable pub chosen : ℕ → ℕ → List ℕ → Kept → Walk
chosen n p places kept = cond (ltb kept.least start) (moving n p places kept) (staying places kept)

module _ (n p : ℕ) (places : List ℕ) (kept : Kept) where
  pub chosen_moved : {q : ℕ} {xs : List ℕ} → kept.least < start → q ≡ turned n p kept.first → xs ≡ moved_places places p q
      → record { order = xs; saving = start - kept.least; optima = kept.optima } ≡ chosen n p places kept
  unfolding chosen
  chosen_moved l there e = rw (lt-ltb kept.least start l, e, there)

  pub chosen_kept : start ≤ kept.least → staying places kept ≡ chosen n p places kept
  unfolding chosen
  chosen_kept l = rw (le-ltb kept.least start l)

module _ {n : ℕ} {places ws : List ℕ} {u p : ℕ} (seat : Seated n places ws u p) where
  abbrev o : List ℕ
  o = take n places

  abbrev candidate : ℕ → List ℕ
  candidate j = moved_after u (at (others_of n places u) j) (take n places)

  abbrev W : ℕ → ℕ → ℕ
  W = table_weight ws

  abbrev score : List ℕ → ℕ
  score c = crossings n c (table_weight ws)

  -- the array that moving by places makes of candidate j
  candidate_array : (j : ℕ) → j + 1 < n → moved_places places p (turned n p j) ≡ candidate j ++ drop n places
  unfolding moved_places
  candidate_array j l =
      let t = turned_vertex seat j l in
      let q = turned n p j in
      let standing : p < n = omega (arith, seat.here, place_below (perm seat) u (below seat)) in
      let there = place_of_at (perm seat) q t.inside in
      ap (λ (b : Bool). cond b (shifted places p q) places)
      (ap₂ ◌&&◌ (lt-ltb p 64 (omega (arith, small seat))) (lt-ltb q 64 (omega (arith, small seat, t.inside))))
      ∙ ap₂ (shifted places) seat.here (sym there)
      ∙ shifted_moved n places seat.walker.size (small seat) (perm seat) u (at (take n places) q) (below seat) (at_lt (perm seat) q t.inside)
      (λ k. t.apart (seat.here ∙ ap (place (take n places)) k ∙ there))
      ∙ ap (λ (v : ℕ). moved_after u v (take n places) ++ drop n places) (sym t.vertex)

  -- ---- the list of the candidates

  candidates_length : suc (length (candidates u o)) ≡ n
  unfolding candidates
  candidates_length = ap suc (length-map (others_of n places u) (λ v. moved_after u v o)) ∙ others_length seat

  candidate_at : (j : ℕ) → get_or (candidates u o) j (moved_after u 0 o) ≡ candidate j
  unfolding candidates
  candidate_at j = get_or-map (λ v. moved_after u v o) (others_of n places u) j 0

  module _ {kept : Kept} (s : KeptRight n places ws u kept) where
    -- some candidates
    module _ (some : 0 < n - 1) where
      -- what is kept, in crossings
      abbrev best : Kept
      best = record { least = score (candidate kept.first); first = kept.first; optima = kept.optima }

      counted : KeptOf (candidate_crossings n places ws u) (n - 1) best
      counted = best_shifted (present_crossings n places ws) start (λ i l. omega (arith, s.exact_all i l)) some s.kept_all

      listed : KeptOf (λ i. score (get_or (candidates u o) i (moved_after u 0 o))) (length (candidates u o)) best
      listed =
          let size : n - 1 ≡ length (candidates u o) = omega (arith, candidates_length) in
          rw size at (best_as (λ i. ap score (sym (candidate_at i))) counted)

      there : kept.first < n - 1
      there = (s.kept_all.has some).0

      shift : kept.least + score o ≡ start + score (candidate kept.first)
      shift = omega (arith, (s.kept_all.has some).1, s.exact_all kept.first there)

      -- the last candidate has the crossings of the present order, so that the least are no more than these
      at_most : score (candidate kept.first) ≤ score o
      at_most =
          omega (
            arith,
            counted.below (n - 2) (omega arith),
            last_stays (perm seat) W seat.walker.symmetry u (below seat) (omega arith),
          )

      fewest : score (candidate kept.first) ≡ least_crossings n W u o
      unfolding least_crossings
      fewest = least_kept score (candidates u o) (moved_after u 0 o) listed (omega (arith, candidates_length)) at_most

      number : kept.optima ≡ optima n W u o
      unfolding optima
      number = number_kept score (candidates u o) (moved_after u 0 o) listed ∙ ap (λ (k : ℕ). count_with score k (candidates u o)) fewest

      first_best : score (candidate kept.first) < score o → sifted_order n W u o ≡ candidate kept.first
      unfolding sifted_order improves
      first_best l =
          rw (← fewest, lt-ltb (score (candidate kept.first)) (score o) l)
          (first_kept score (candidates u o) (moved_after u 0 o) listed (omega (arith, candidates_length)) o ∙ candidate_at kept.first)

      found_moving : kept.least < start → Found n places ws u (moving n p places kept)
      found_moving l =
          record {
            order =
                candidate_array kept.first (omega (arith, there))
                ∙ ap (λ (x : List ℕ). x ++ drop n places) (sym (first_best (omega (arith, shift))));
            saving = omega (arith, shift, fewest);
            optima_are = number;
          }

    found_staying : least_crossings n W u o ≡ score o → kept.optima ≡ optima n W u o → Found n places ws u (staying places kept)
    unfolding improves
    found_staying least_same told =
        record {
          order =
              sym
              (ap (λ (x : List ℕ). x ++ drop n places)
              (sift_stays n W u o (le-ltb (least_crossings n W u o) (score o) (omega (arith, least_same))))
              ∙ take-append-drop n places);
          saving = omega (arith, least_same);
          optima_are = told;
        }

    found_some : 0 < n - 1 → Found n places ws u (chosen n p places kept)
    unfolding chosen
    found_some some =
        elim (order kept.least start) [
          | less l ↦ rw (lt-ltb kept.least start l) (found_moving some l)
          | same d ↦ rw (le-ltb kept.least start (omega arith)) (stays (omega arith))
          | more l ↦ rw (le-ltb kept.least start (omega arith)) (stays (omega arith))
        ]
      where
        stays : start ≤ kept.least → Found n places ws u (staying places kept)
        stays l = found_staying (omega (arith, fewest some, shift some, at_most some)) (number some)

    -- one vertex alone has no candidates
    found_none : 0 ≡ n - 1 → Found n places ws u (chosen n p places kept)
    unfolding chosen least_crossings optima
    found_none z =
        let none : length (candidates u o) ≡ 0 = omega (arith, candidates_length) in
        let least_same : least_crossings n W u o ≡ score o =
        le_antisymm (least_default score (score o) (candidates u o))
        (least_over score (score o) (score o) (moved_after u 0 o) (candidates u o) (le_of_eq (λ i. score o)) (λ i l. absurd (omega arith))) in
        rw (le-ltb kept.least start (omega (arith, s.kept_all.none_yet (sym z))))
        (found_staying least_same (omega (arith, best_none z s.kept_all, count_most score (least_crossings n W u o) (candidates u o))))

    pub walk_found : {r : Walk} → r ≡ chosen n p places kept → Found n places ws u r
    walk_found x =
        rw x
        (elim (order 0 (n - 1)) [
          | less l ↦ found_some l
          | same z ↦ found_none z
          | more l ↦ absurd (not-suc-le-zero l)
        ])
