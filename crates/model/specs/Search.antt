-- Sifting over any kind of layout (document 004, Algorithm 2): a sift, a round of sifts, and rounds up to a limit. The ring is one kind (`ring` in
-- Sifting).
use Rattle.std.specs.Prelude.{ℕ, zero, suc, ◌-◌, min, Bool, true, false, cond, List, [], ◌∷◌, eqb, ltb}
use Rattle.model.specs.Lists.{one, upto, first_with, sum_over}

-- ---- the best of the present layout and the candidates

-- the least of f over the list, or d where that is less
unfoldable pub least : {A : Type 0} → (A → ℕ) → ℕ → List A → ℕ
least f d [] = d
least f d (x ∷ xs) = min (f x) (least f d xs)

-- how many entries of the list have k as their f
unfoldable pub count_with : {A : Type 0} → (A → ℕ) → ℕ → List A → ℕ
count_with f k xs = sum_over (λ x. one (eqb (f x) k)) xs

module _ {A : Type 0} (cost : A → ℕ) (present : A) (others : List A) where
  -- the least cost of the present one and the candidates
  abbrev pub least_cost : ℕ
  least_cost = least cost (cost present) others

  -- does some candidate cost less than the present one?
  abbrev pub better : Bool
  better = ltb least_cost (cost present)

  -- "If no candidate has fewer crossings than the present ring, the list stays exactly as it was. Otherwise" the first with least crossings
  abbrev pub chosen : A
  chosen = cond better (first_with (λ c. eqb (cost c) least_cost) present others) present

-- ---- what is searched

-- a kind of layout, as sifting sees it: how many vertices one has, its crossings, and the layouts that a vertex put at each of its candidate places
-- gives, in the sequence of these
pub record Search (S : Type 0) : Type 0 where
  pub size : S → ℕ
  pub cost : S → ℕ
  pub candidates : ℕ → S → List S

-- a sift: the state before it, the vertex, the state after it, and whether the vertex moved
pub record Sift (S : Type 0) : Type 0 where
  pub before : S
  pub vertex : ℕ
  pub after : S
  pub moved : Bool

-- a round: the state before it and after it, and how many vertices moved
pub record Round (S : Type 0) : Type 0 where
  pub before : S
  pub after : S
  pub moved : ℕ

-- the state after the last of things that lead from one state to another
unfoldable pub reached : {A S : Type 0} → (A → S) → S → List A → S
reached after s [] = s
reached after s (x ∷ xs) = reached after (after x) xs

-- how many of the sifts moved their vertex
unfoldable pub moved_in : {S : Type 0} → List (Sift S) → ℕ
moved_in xs = sum_over (λ x. one x.moved) xs

-- did the last of the rounds move no vertex?
unfoldable pub last_still : {S : Type 0} → List (Round S) → Bool
last_still [] = false
last_still (r ∷ []) = eqb r.moved 0
last_still (r ∷ q ∷ rs) = last_still (q ∷ rs)

-- what a call sifts: nothing, a vertex, each vertex in a round, or rounds up to a limit
pub data Sweep : Type 0 where
  no_sift : Sweep
  one_sift : ℕ → Sweep
  one_round : Sweep
  some_rounds : ℕ → Sweep

module _ {S : Type 0} (k : Search S) where
  -- ---- sift

  -- u sifted
  unfoldable pub sift_best : S → ℕ → S
  sift_best s u = chosen k.cost s (k.candidates u s)

  -- does that move it?
  unfoldable pub sift_moves : S → ℕ → Bool
  sift_moves s u = better k.cost s (k.candidates u s)

  abbrev pub sift_at : S → ℕ → Sift S
  sift_at s u = record { before = s; vertex = u; after = sift_best s u; moved = sift_moves s u }

  -- how many of the candidate places have the least crossings
  unfoldable pub best_candidates : S → ℕ → ℕ
  best_candidates s u = count_with k.cost (least_cost k.cost s (k.candidates u s)) (k.candidates u s)

  -- ---- round

  -- the vertices us sifted one after the other
  unfoldable pub sifts_through : List ℕ → S → List (Sift S)
  sifts_through [] s = []
  sifts_through (u ∷ us) s = sift_at s u ∷ sifts_through us (sift_best s u)

  -- "(crossings before less after)", summed
  unfoldable pub saved_in : List (Sift S) → ℕ
  saved_in xs = sum_over (λ x. k.cost x.before - k.cost x.after) xs

  -- the round that the sifts from s are
  unfoldable pub round_by : S → List (Sift S) → Round S
  round_by s xs = record { before = s; after = reached (λ x. x.after) s xs; moved = moved_in xs }

  -- "sifts devices 0 to n − 1 in rising number"
  unfoldable pub sifts_of_all : S → List (Sift S)
  sifts_of_all s = sifts_through (upto (k.size s)) s

  unfoldable pub round_at : S → Round S
  round_at s = round_by s (sifts_of_all s)

  -- ---- settle

  -- "rounds until one moves no device, or the limit is reached"
  unfoldable pub rounds_within : ℕ → S → List (Round S)
  rounds_within zero s = []
  rounds_within (suc limit) s =
      let r = round_at s in
      r ∷ elim (eqb r.moved 0) [ true ↦ [] | false ↦ rounds_within limit r.after ]

  -- ---- what a call runs

  -- its rounds
  unfoldable pub rounds_run : S → Sweep → List (Round S)
  rounds_run s no_sift = []
  rounds_run s (one_sift u) = []
  rounds_run s one_round = round_at s ∷ []
  rounds_run s (some_rounds limit) = rounds_within limit s

  -- the sifts that it runs besides those of its rounds: the one called
  unfoldable pub sift_run : S → Sweep → List (Sift S)
  sift_run s no_sift = []
  sift_run s (one_sift u) = sift_at s u ∷ []
  sift_run s one_round = []
  sift_run s (some_rounds limit) = []
