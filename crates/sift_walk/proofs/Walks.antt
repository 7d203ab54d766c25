-- The next exchange of the walk: the running number is that of the next candidate, by the law of the walk in the sums of the code.
use Prim.Native.Nat.{ℕ, suc, ◌+◌, ◌%◌, ◌≤◌, ◌<◌}
use Rattle.std.proofs.Common.{mod-eq_of_lt, add-one, ◌∙◌, below_more}
use native.Mathlib.Omega.{arith}
use Rattle.std.specs.Prelude.{◌≡◌, List, length}
use Rattle.std.proofs.Math.Path.{sym, ap}
use Rattle.std.proofs.Math.ListN.{get_or}
use Rattle.laws.specs.Tables.Rows.{table_weight, row_weight, RowsOf, AddedRow}
use Rattle.sift_walk.specs.declared.Step.{Step}
use Rattle.sift_walk.specs.Keeping.{nothing, kept_next_lem}
use Rattle.sift_walk.specs.Seats.{other_at, Seated}
use Rattle.sift_walk.specs.Reaching.{ReachesOf}
use Rattle.sift_walk.specs.Walks.{start, SmallStep, Passed, WalkedUpTo, WalkUpTo, present_crossings, walked_crossings, candidate_crossings, running}
use Rattle.sift_walk.specs.Walks.{small_next, crossings_walked, factor, law, passed_more, behind_next}

module _ {n : ℕ} {places ws : List ℕ} {u p : ℕ} (seat : Seated n places ws u p) where
  abbrev W : ℕ → ℕ → ℕ
  W = table_weight ws

  module _ {whole : ℕ} (e : whole ≡ row_weight ws u) {rs rows : List ℕ} (started : ReachesOf n places ws u rs) (given : RowsOf ws rows)
      {step r : Step} {bs cs : List ℕ} {v j : ℕ} (s : WalkedUpTo n places ws u step bs j) (small_step : SmallStep step bs j)
      (high : r.number < nothing) (l : j + 1 < n) (there : v ≡ other_at n p places j)
      (told : Passed step ws rs whole (get_or rows v 0) (get_or bs v 0) u v j r) (added : AddedRow ws v bs cs) where
    number_next : r.number + present_crossings n places ws ≡ start + walked_crossings n places ws u (suc j)
    unfolding factor
    number_next =
        omega (
          arith,
          law seat e started given s small_step high l there told added,
          told.number_is.exact,
          s.present,
          crossings_walked seat j s.inside,
          crossings_walked seat (suc j) (omega arith),
        )

    walk_next : WalkedUpTo n places ws u r cs (j + 1)
    unfolding walked_crossings
    walk_next =
        let more : suc j < n = omega arith in
        let now : r.number ≡ running n places ws u j = omega (arith, number_next) in
        rw (add-one j)
        (record {
          inside = more;
          present = number_next;
          kept_right = rw told.kept_is (kept_next_lem s.kept_right now high);
          exact =
              rw (add-one j)
              at (below_more (λ i. present_crossings n places ws ≤ start + candidate_crossings n places ws u i) j s.exact (omega (arith, number_next)));
          met_are = told.met_is ∙ ap (λ (y : ℕ). y + W u v) s.met_are ∙ sym (passed_more seat e started given s small_step high l there told added (W u));
          behind_are = behind_next seat e started given s small_step high l there told added;
        })

module _ {n p : ℕ} {places ws rows : List ℕ} {u : ℕ} where
  module _ {step : Step} {bs : List ℕ} {j : ℕ} (s : WalkUpTo n p places ws rows u step bs j) (h : n ≤ 64) where
    pub walking_next : {whole v : ℕ} {rs cs : List ℕ} {r : Step} → u < 64 → v < 64 → whole ≡ row_weight ws (u % 64)
        → (Seated n places ws u p → ReachesOf n places ws u rs) → j + 1 < n → v ≡ other_at n p places j
        → Passed step ws rs whole (get_or rows v 0) (get_or bs v 0) u v j r → (length bs ≡ 64 → AddedRow ws (v % 64) bs cs)
        → WalkUpTo n p places ws rows u r cs (j + 1)
    walking_next {whole} {v} {rs} {cs} {r} u-few v-few weighed started l there told row =
        let e : whole ≡ row_weight ws u = rw (mod-eq_of_lt u-few) at weighed in
        let added : AddedRow ws v bs cs = rw (mod-eq_of_lt v-few) at (row s.small_step.size) in
        let small_then = small_next (omega arith) s.small_step told added in
        record {
          inside = omega arith;
          small_step = small_then;
          right = λ seat given.
              walk_next seat e (started seat) given (s.right seat given) s.small_step (omega (arith, small_then.not_higher)) l there told added;
        }
