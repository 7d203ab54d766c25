-- Greedy append over a table of weights: the weight of each vertex's open edges is kept as a number, and both ends are sums over these.
use Rattle.std.specs.Prelude.{ℕ, ◌*◌, ◌≤◌, ◌<◌, ◌≡◌, List, [], ◌∷◌, ◌++◌}
use Rattle.std.proofs.Common.{arith, sym, ◌∙◌}
use Rattle.std.proofs.Math.Path.{ap}
use Rattle.std.proofs.Math.ListN.{get_or}
use Rattle.model.specs.Lists.{upto, any, member, occurrences, sum_over, sum_pairs}
use Rattle.model.specs.GreedyAppend.{unplaced, closing, open', front_crossings, back_crossings}
use Rattle.laws.specs.Sums.Lists.{All, keep_true, sum_pairs_ext}
use Rattle.laws.specs.Append.Order.{unplaced_but, unplaced_front, unplaced_back, sum_over_but}
use Rattle.laws.specs.Tables.Rows.{table_weight, row_weight_lem, RowsOf, TakenRow, taken_exact}

-- ---- the weight of the open edges

-- for each vertex the weight of its edges to those that are not placed
pub record StillOpen (n : ℕ) (W : ℕ → ℕ → ℕ) (placed opens : List ℕ) : Type 0 where
  pub still_open : (y : ℕ) → y < n → get_or opens y 0 ≡ sum_over (W y) (unplaced n placed)

-- to those that are neither placed nor v
pub record OpenOf (n : ℕ) (W : ℕ → ℕ → ℕ) (placed : List ℕ) (v : ℕ) (opens : List ℕ) : Type 0 where
  pub open_is : (y : ℕ) → y < n → get_or opens y 0 ≡ sum_over (W y) (unplaced_but n placed v)

none_placed : (n : ℕ) → unplaced n [] ≡ upto n
unfolding unplaced member any
none_placed n = keep_true (upto n)

-- before a vertex is placed they are the weights of the rows
pub open_start : {n : ℕ} {ws rows : List ℕ} → n ≤ 64 → ((y x : ℕ) → y < n → n ≤ x → x < 64 → table_weight ws y x ≡ 0) → RowsOf ws rows
    → StillOpen n (table_weight ws) [] rows
open_start {n} {ws} {rows} small blank r =
    record {
      still_open = λ y l.
          r.row_is y (omega arith) ∙ row_weight_lem ws y small (λ x. blank y x l) ∙ sym (ap (sum_over (table_weight ws y)) (none_placed n));
    }

-- the row of the next vertex is taken away
pub open_taken : {n v : ℕ} {ws placed opens left : List ℕ} → n ≤ 64 → ((y : ℕ) → y < n → table_weight ws y v ≡ table_weight ws v y)
    → v < n → occurrences v placed ≡ 0 → StillOpen n (table_weight ws) placed opens → TakenRow ws v opens left
    → OpenOf n (table_weight ws) placed v left
open_taken {n} {v} {ws} {placed} {opens} {left} small symmetric h free o t =
    record {
      open_is = λ y l.
          let split = o.still_open y l ∙ sum_over_but n placed v (table_weight ws y) h free in
          let contained : table_weight ws v y ≤ get_or opens y 0 = omega (arith, split, symmetric y l) in
          omega (arith, split, symmetric y l, taken_exact t y (omega arith) contained);
    }

-- and it is placed, at either end
module _ {n v : ℕ} {W : ℕ → ℕ → ℕ} {placed opens : List ℕ} (o : OpenOf n W placed v opens) where
  pub open_front : StillOpen n W (v ∷ placed) opens
  open_front = record { still_open = λ y l. o.open_is y l ∙ sym (ap (sum_over (W y)) (unplaced_front n placed v)) }

  pub open_back : StillOpen n W (placed ++ (v ∷ [])) opens
  open_back = record { still_open = λ y l. o.open_is y l ∙ sym (ap (sum_over (W y)) (unplaced_back n placed v)) }

-- ---- the crossings at either end

module _ {n v : ℕ} {W : ℕ → ℕ → ℕ} {placed opens : List ℕ} (below : All (λ x. x < n) placed) (o : OpenOf n W placed v opens) where
  pub front_open : sum_pairs (λ q p. W v p * get_or opens q 0) placed ≡ front_crossings n W placed v
  unfolding front_crossings closing open'
  front_open =
      sum_pairs_ext
      (λ q p. W v p * get_or opens q 0)
      (λ q p. W v p * sum_over (W q) (unplaced_but n placed v))
      below
      (λ q p a b. ap (λ (x : ℕ). W v p * x) (o.open_is q a))

  pub back_open : sum_pairs (λ p q. W v p * get_or opens q 0) placed ≡ back_crossings n W placed v
  unfolding back_crossings closing open'
  back_open =
      sum_pairs_ext
      (λ p q. W v p * get_or opens q 0)
      (λ p q. W v p * sum_over (W q) (unplaced_but n placed v))
      below
      (λ p q a b. ap (λ (x : ℕ). W v p * x) (o.open_is q b))
