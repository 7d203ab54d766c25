-- The walk: the vertex is exchanged with its next neighbour in the order, again and again. After each exchange the running number is that of the present
-- candidate, and what is kept is right for the candidates so far.
use Prim.Native.Nat.{ℕ, zero, suc, ◌+◌, ◌*◌, ◌-◌, ◌%◌, ◌≤◌, ◌<◌}
use Rattle.std.proofs.Common.{lt_of_lt_of_le, mod-eq_of_lt, ap₂, ◌∙◌, subst}
use native.Mathlib.Omega.{arith}
use Rattle.std.specs.Prelude.{◌≡◌, refl, List, length, take, replicate}
use Rattle.std.proofs.Math.Path.{sym, ap}
use Rattle.std.proofs.Math.ListN.{get_or, get_or-replicate}
use Rattle.std.proofs.lemmas.List.{length-replicate}
use Rattle.model.specs.Lists.{upto, sum_over}
use Rattle.model.specs.Crossings.{crossings}
use Rattle.model.specs.Edits.{moved_after}
use Rattle.laws.specs.Sums.Lists.{sum_over_last}
use Rattle.laws.specs.Sums.Pairs.{Symmetric}
use Rattle.laws.specs.Tables.Rows.{table_weight, row_weight, row_sum, RowsOf, AddedRow, row_weight_lem, row_products}
use Rattle.laws.specs.Orders.Permutations.{at}
use Rattle.laws.proofs.Crossings.Reaches.{row_reached}
use Rattle.laws.specs.Sifting.Keeping.{best_start}
use Rattle.laws.specs.Sifting.Walk.{other_at_lem, walked, present_walked, candidate_walked}
use Rattle.sift_walk.specs.declared.Kept.{Kept}
use Rattle.sift_walk.specs.declared.Step.{Step}
use Rattle.sift_walk.specs.Keeping.{KeptOf, kept_next, nothing, next_few, next_first}
use Rattle.sift_walk.specs.Seats.{other_at, Seated, others_of, small, perm, below, other_right, taken_next}
use Rattle.sift_walk.specs.Reaching.{ReachesOf}

-- ---- one exchange

-- the number that stands for the crossings of the present order
abbrev pub start : ℕ
start = 1099511627776

-- no number changes by more in one exchange
abbrev pub most_change : ℕ
most_change = 4294967296

pub record Exchanged (number factor row w reached r : ℕ) : Type 0 where
  pub exact : r + (factor * w + reached) ≡ number + factor * row
  pub not_lower : number ≤ r + most_change
  pub not_higher : r ≤ number + most_change

-- one more vertex v passed, its row's weight given, and its weight on those passed before
pub record Passed (step : Step) (ws rs : List ℕ) (whole row behind u v j : ℕ) (r : Step) : Type 0 where
  pub number_is :
      Exchanged step.number (whole + table_weight ws u v + 2 * step.met) row (table_weight ws u v) (row_sum ws v rs + 2 * whole * behind) r.number
  pub light : table_weight ws u v ≤ 255
  pub met_is : r.met ≡ step.met + table_weight ws u v
  pub kept_is : r.kept ≡ kept_next step.kept r.number j

-- by what is read of the table, where a vertex is taken modulo 64
pub passed_made : {step : Step} {ws rs : List ℕ} {whole row behind u v j w reached number : ℕ} {kept : Kept} → u < 64 → v < 64
    → w ≡ table_weight ws (u % 64) (v % 64) → w ≤ 255 → reached ≡ row_sum ws (v % 64) rs
    → Exchanged step.number (whole + w + 2 * step.met) row w (reached + 2 * whole * behind) number
    → kept ≡ kept_next step.kept number j → Passed step ws rs whole row behind u v j (record { number = number; met = step.met + w; kept = kept })
passed_made {step} {ws} {rs} {u = u} {v} {w = w} {reached} h k e few g x next =
    let weight_is : w ≡ table_weight ws u v = rw (mod-eq_of_lt h, mod-eq_of_lt k) at e in
    let sum_is : reached ≡ row_sum ws v rs = rw (mod-eq_of_lt k) at g in
    record {
      number_is = rw (← weight_is, ← sum_is) x;
      light = rw (← weight_is) few;
      met_is = ap (λ (y : ℕ). step.met + y) weight_is;
      kept_is = next;
    }

-- ---- after j candidates

-- the crossings of candidate i, and of the present order
abbrev pub candidate_crossings : ℕ → List ℕ → List ℕ → ℕ → ℕ → ℕ
candidate_crossings n places ws u i = crossings n (moved_after u (at (others_of n places u) i) (take n places)) (table_weight ws)

abbrev pub present_crossings : ℕ → List ℕ → List ℕ → ℕ
present_crossings n places ws = crossings n (take n places) (table_weight ws)

-- once j of the others were passed: of the present order at first, then of candidate j - 1
unfoldable pub walked_crossings : ℕ → List ℕ → List ℕ → ℕ → ℕ → ℕ
walked_crossings n places ws u zero = present_crossings n places ws
walked_crossings n places ws u (suc i) = candidate_crossings n places ws u i

-- the running number of candidate i: its crossings, as much above the start as they are above those of the present order
abbrev pub running : ℕ → List ℕ → List ℕ → ℕ → ℕ → ℕ
running n places ws u i = start + candidate_crossings n places ws u i - present_crossings n places ws

pub record WalkedUpTo (n : ℕ) (places ws : List ℕ) (u : ℕ) (step : Step) (bs : List ℕ) (j : ℕ) : Type 0 where
  pub inside : j < n
  -- the running number is that of the present candidate
  pub present : step.number + present_crossings n places ws ≡ start + walked_crossings n places ws u j
  -- what is kept is right for the candidates so far, none of which is below the start by more than that
  pub kept_right : KeptOf (running n places ws u) j step.kept
  pub exact : (i : ℕ) → i < j → present_crossings n places ws ≤ start + candidate_crossings n places ws u i
  pub met_are : step.met ≡ sum_over (table_weight ws u) (take j (others_of n places u))
  -- of each vertex, its weight on those passed
  pub behind_are : (y : ℕ) → y < n → get_or bs y 0 ≡ sum_over (table_weight ws y) (take j (others_of n places u))

-- small numbers, whatever the bytes are
pub record SmallStep (step : Step) (bs : List ℕ) (j : ℕ) : Type 0 where
  pub size : length bs ≡ 64
  pub behind_few : (y : ℕ) → y < 64 → get_or bs y 0 ≤ 255 * j
  pub met_few : step.met ≤ 255 * j
  pub optima_few : step.kept.optima ≤ j
  pub first_few : step.kept.first ≤ j
  pub not_lower : start ≤ step.number + most_change * j
  pub not_higher : step.number ≤ start + most_change * j

abbrev pub first_step : Step
first_step = record { number = start; met = 0; kept = record { least = nothing; first = 0; optima = 0 } }

-- all right for the candidates so far
pub record KeptRight (n : ℕ) (places ws : List ℕ) (u : ℕ) (kept : Kept) : Type 0 where
  pub kept_all : KeptOf (running n places ws u) (n - 1) kept
  pub exact_all : (i : ℕ) → i < n - 1 → present_crossings n places ws ≤ start + candidate_crossings n places ws u i

small_start : SmallStep first_step (replicate 64 0) 0
small_start =
    record {
      size = length-replicate {A = ℕ} 64 0;
      behind_few = λ y l. rw (get_or-replicate {A = ℕ} 64 y 0 0 l) (omega arith);
      met_few = omega arith;
      optima_few = omega arith;
      first_few = omega arith;
      not_lower = omega arith;
      not_higher = omega arith;
    }

pub small_next : {step r : Step} {ws rs bs cs : List ℕ} {whole row behind u v j : ℕ} → j < 64 → SmallStep step bs j → Passed step ws rs whole row behind u v j r
    → AddedRow ws v bs cs → SmallStep r cs (j + 1)
small_next {step} {r} {ws} {rs} {bs} {cs} {whole} {row} {behind} {u} {v} {j} l s p added =
    record {
      size = added.size;
      behind_few = λ y b. rw (added.added y b) (omega (arith, s.behind_few y b, added.light y b));
      met_few = rw p.met_is (omega (arith, s.met_few, p.light));
      optima_few = rw p.kept_is (next_few step.kept r.number j s.optima_few);
      first_few = rw p.kept_is (next_first step.kept r.number j s.first_few);
      not_lower = omega (arith, s.not_lower, p.number_is.not_lower);
      not_higher = omega (arith, s.not_higher, p.number_is.not_higher);
    }

module _ {n : ℕ} {places ws : List ℕ} {u p : ℕ} (seat : Seated n places ws u p) where
  abbrev W : ℕ → ℕ → ℕ
  W = table_weight ws

  abbrev others : List ℕ
  others = others_of n places u

  abbrev symmetry : Symmetric n (table_weight ws)
  symmetry = seat.walker.symmetry

  walk_start : WalkedUpTo n places ws u first_step (replicate 64 0) 0
  unfolding walked_crossings sum_over
  walk_start =
      record {
        inside = omega (arith, below seat);
        present = refl;
        kept_right = best_start;
        exact = λ i l. absurd (omega arith);
        met_are = refl;
        behind_are = λ y l. get_or-replicate {A = ℕ} 64 y 0 0 (lt_of_lt_of_le l (small seat));
      }

  pub crossings_walked : (j : ℕ) → j < n → walked_crossings n places ws u j ≡ walked W u others j
  unfolding walked_crossings
  crossings_walked zero l = present_walked (perm seat) W symmetry u (below seat)
  crossings_walked (suc i) l = candidate_walked (perm seat) W symmetry u (below seat) i l

  row_of : (x : ℕ) → x < n → row_weight ws x ≡ sum_over (W x) (upto n)
  row_of x l = row_weight_lem ws x (small seat) (λ y h k. seat.walker.blank x y l h k)

  module _ {whole : ℕ} (e : whole ≡ row_weight ws u) {rs rows : List ℕ} (started : ReachesOf n places ws u rs) (given : RowsOf ws rows)
      {step r : Step} {bs cs : List ℕ} {v j : ℕ} (s : WalkedUpTo n places ws u step bs j) (small_step : SmallStep step bs j)
      (high : r.number < nothing) (l : j + 1 < n) (there : v ≡ other_at n p places j)
      (told : Passed step ws rs whole (get_or rows v 0) (get_or bs v 0) u v j r) (added : AddedRow ws v bs cs) where
    here : v ≡ at others j
    here = there ∙ other_right seat j l

    inside_v : v < n
    inside_v = rw here (other_at_lem (perm seat) u (below seat) j (omega arith)).0

    in_table : v < 64
    in_table = lt_of_lt_of_le inside_v (small seat)

    unfoldable pub factor : ℕ
    factor = whole + W u v + 2 * step.met

    -- what the law of the walk says, in the sums of the code
    pub law : walked W u others (suc j) + (factor * W u v + (row_sum ws v rs + 2 * whole * get_or bs v 0)) ≡ walked W u others j + factor * get_or rows v 0
    unfolding factor
    law =
        let more : suc j < n = omega arith in
        let by_rows = rw (← here) at (row_reached symmetry (perm seat) (below seat) j more started.reached started.of_itself) in
        let sums : row_sum ws v rs ≡ sum_over (λ y. W v y * get_or rs y 0) (upto n) =
        row_products ws v (small seat) (λ y h k. seat.walker.blank v y inside_v h k) rs started.low in
        let row : get_or rows v 0 ≡ sum_over (W v) (upto n) = given.row_is v in_table ∙ row_of v inside_v in
        rw (sums, row, s.behind_are v inside_v, e, row_of u (below seat), s.met_are) (omega (arith, by_rows))

    -- one more of the others passed, in any sum over them
    pub passed_more : (f : ℕ → ℕ) → sum_over f (take (suc j) others) ≡ sum_over f (take j others) + f v
    passed_more f = ap (sum_over f) (taken_next seat j l there) ∙ sum_over_last v f (take j others)

    pub behind_next : (y : ℕ) → y < n → get_or cs y 0 ≡ sum_over (W y) (take (suc j) others)
    behind_next y b =
        let in_row : y < 64 = lt_of_lt_of_le b (small seat) in
        let fits : get_or bs y 0 + W v y < 65536 = omega (arith, small_step.behind_few y in_row, added.light y in_row, s.inside, small seat) in
        added.added y in_row
        ∙ mod-eq_of_lt fits
        ∙ ap₂ (λ (a b : ℕ). a + b) (s.behind_are y b) (symmetry.swap v y inside_v b)
        ∙ sym (passed_more (W y))

-- ---- the loop

-- small numbers whatever the bytes are, and all right where u is seated and the weights of the vertices are given
pub record WalkUpTo (n p : ℕ) (places ws rows : List ℕ) (u : ℕ) (step : Step) (bs : List ℕ) (j : ℕ) : Type 0 where
  pub inside : j ≤ n
  pub small_step : SmallStep step bs j
  pub right : Seated n places ws u p → RowsOf ws rows → WalkedUpTo n places ws u step bs j

module _ {n p : ℕ} {places ws rows : List ℕ} {u : ℕ} where
  pub walking_start : WalkUpTo n p places ws rows u first_step (replicate 64 0) 0
  walking_start = record { inside = omega arith; small_step = small_start; right = λ seat given. walk_start seat }

  module _ {step : Step} {bs : List ℕ} {j : ℕ} (s : WalkUpTo n p places ws rows u step bs j) (h : n ≤ 64) where
    pub walking_end : n ≤ j + 1
        → (step.kept.first ≤ 64) × (Seated n places ws u p → RowsOf ws rows → KeptRight n places ws u step.kept)
    walking_end l = (
      omega (arith, s.inside, s.small_step.first_few),
      λ seat given.
          let walked = s.right seat given in
          let all : j ≡ n - 1 = omega (arith, walked.inside) in
          record {
            kept_all = subst (λ (k : ℕ). KeptOf (running n places ws u) k step.kept) all walked.kept_right;
            exact_all = λ i b. walked.exact i (omega arith);
          },
    )
