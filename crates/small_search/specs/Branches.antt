-- The placed vertices as the code holds them, what one vertex more makes of them, and the search of the rest.
use Rattle.std.specs.Prelude.{ℕ, ◌+◌, ◌-◌, ◌%◌, ◌≤◌, ◌<◌, ◌≡◌, false, length, take}
use Rattle.std.proofs.Common.{arith, sym, ◌∙◌, subst}
use Rattle.std.proofs.Math.Nat.{lt_of_lt_of_le}
use Rattle.std.proofs.Math.Path.{ap, ap₂}
use mathlib.Core.List.{List, [], ◌∷◌, ◌++◌}
use Rattle.model.specs.Lists.{member, occurrences}
use Rattle.model.specs.GreedyAppend.{back_crossings}
use Rattle.model.specs.SmallOrders.{least_of_all, first_least}
use Rattle.laws.specs.Sums.Lists.{all_mono}
use Rattle.laws.specs.Sums.Pairs.{Symmetric}
use Rattle.laws.specs.Orders.Permutations.{occurrences_nil}
use Rattle.laws.specs.Tables.Rows.{table_weight, RowsOf, TakenRow}
use Rattle.laws.specs.Tables.Ends.{StillOpen, OpenOf, open_start, open_taken, open_front, open_back, back_open}
use Rattle.laws.specs.Small.Search.{Best}
use Rattle.append_ends.specs.Ends.{ends_of}
use Rattle.append_ends.specs.Placed.{as_vertices, as_itself}
use Rattle.small_prefix.specs.declared.Prefix.{Prefix}
use Rattle.small_prefix.specs.Prefixes.{entries, alone, next_of, Ready, ready_alone, out_free, entries_next, ready_next}
use Rattle.small_search.specs.declared.Branch.{Branch}
use Rattle.small_search.specs.declared.Found.{Found}

-- ---- what the functions are given and give

-- more crossings than any order has
abbrev pub most : ℕ
most = 1099511627776

-- what is found, as the definition has it
unfoldable pub found_in : ℕ → Found → Best
found_in n b = record { count = b.least; order = take n b.order }

-- "the least weighted crossings", and "the first order that has them"
unfoldable pub least_found : ℕ → (ℕ → ℕ → ℕ) → Best
least_found n W = record { count = least_of_all n W; order = first_least n W }

-- the weights of at most eight vertices: equal both ways round, bytes, and 0 towards numbers that are no vertices
pub record Graph (n : ℕ) (ws : List ℕ) : Type 0 where
  pub small : n ≤ 8
  pub symmetry : Symmetric n (table_weight ws)
  pub light : (u v : ℕ) → u < n → v < n → table_weight ws u v ≤ 255
  pub blank : (u v : ℕ) → u < n → n ≤ v → v < 64 → table_weight ws u v ≡ 0

-- the placed ones are in their places, and there is room for the crossings of one more
pub record Room (b : Branch) : Type 0 where
  pub size : b.prefix.size ≤ 8
  pub met : b.met ≤ most

-- vertex 0 is placed
pub record Begins (ws : List ℕ) (b : Branch) : Type 0 where
  pub rows : List ℕ
  pub rows_are : RowsOf ws rows
  pub prefix_is : b.prefix ≡ alone
  pub met_is : b.met ≡ 0
  pub weights_are : b.edges.weights.now ≡ ws
  pub opens_are : TakenRow ws 0 rows b.edges.sums

-- r is b with v placed
pub record Extends (ws : List ℕ) (b : Branch) (v : ℕ) (r : Branch) : Type 0 where
  pub prefix_is : r.prefix ≡ next_of b.prefix v
  pub weights_are : r.edges.weights.now ≡ ws
  pub opens_are : TakenRow ws (v % 64) b.edges.sums r.edges.sums
  pub met_is : r.met ≡ b.met + (ends_of ws r.edges.sums (v % 64) (as_vertices (entries b.prefix))).back

-- of n vertices all but left are placed, with the weight of each one's open edges
pub record Underway (n left : ℕ) (ws : List ℕ) (b : Branch) : Type 0 where
  pub ready : Ready n left b.prefix
  pub open_edges : StillOpen n (table_weight ws) (entries b.prefix) b.edges.sums
  pub size : length b.edges.sums ≡ 64

-- ---- one vertex more

module _ {n : ℕ} {ws : List ℕ} (g : Graph n ws) where
  abbrev W : ℕ → ℕ → ℕ
  W = table_weight ws

  pub underway_alone : {b : Branch} → 0 < n → Begins ws b → Underway n (n - 1) ws b
  underway_alone {b} some s =
      record {
        ready = subst (Ready n (n - 1)) (sym s.prefix_is) (ready_alone some g.small);
        open_edges =
            subst (λ (p : Prefix). StillOpen n W (entries p) b.edges.sums) (sym s.prefix_is)
            (open_front
            (open_taken (omega (arith, g.small)) (λ y l. g.symmetry.swap y 0 l some) some (occurrences_nil 0)
            (open_start (omega (arith, g.small)) g.blank s.rows_are) s.opens_are));
        size = s.opens_are.size;
      }

  -- what the search of the rest asks for, of the weights that the branch goes by
  pub begun_asked : {b : Branch} → 0 < n → Begins ws b → Graph n b.edges.weights.now × Underway n (n - 1) b.edges.weights.now b
  begun_asked {b} some s =
      subst (λ (k : List ℕ). Graph n k × Underway n (n - 1) k b) (sym s.weights_are) (g, underway_alone some s)

  module _ {left : ℕ} {b : Branch} (u : Underway n left ws b) where
    pub room : b.met < most → Room b
    room h = record { size = omega (arith, u.ready.counted, u.ready.small); met = omega arith }

    module _ {v : ℕ} (h : v < n) (some : 0 < left) (out : member v (entries b.prefix) ≡ false) {r : Branch} (e : Extends ws b v r) where
      free : occurrences v (entries b.prefix) ≡ 0
      free = out_free u.ready h out

      vertex : v % 64 ≡ v
      vertex = omega (arith, g.small)

      left_open : OpenOf n W (entries b.prefix) v r.edges.sums
      left_open =
          open_taken (omega (arith, g.small)) (λ y l. g.symmetry.swap y v l h) h free u.open_edges
          (subst (λ (k : ℕ). TakenRow ws k b.edges.sums r.edges.sums) vertex e.opens_are)

      pub entries_are : entries r.prefix ≡ entries b.prefix ++ (v ∷ [])
      entries_are = ap entries e.prefix_is ∙ entries_next u.ready h some free

      pub underway_next : Underway n (left - 1) ws r
      underway_next =
          record {
            ready = subst (Ready n (left - 1)) (sym e.prefix_is) (ready_next u.ready h some free);
            open_edges = subst (λ (xs : List ℕ). StillOpen n W xs r.edges.sums) (sym entries_are) (open_back left_open);
            size = e.opens_are.size;
          }

      pub next_asked : Graph n r.edges.weights.now × Underway n (left - 1) r.edges.weights.now r
      next_asked = subst (λ (k : List ℕ). Graph n k × Underway n (left - 1) k r) (sym e.weights_are) (g, underway_next)

      -- it adds what it adds to the tally of greedy append
      pub met_are : r.met ≡ b.met + back_crossings n W (entries b.prefix) v
      unfolding ends_of
      met_are =
          let below = u.ready.begun.placed.below in
          let inside = as_itself (all_mono below (λ x l. lt_of_lt_of_le l (omega (arith, g.small)))) in
          e.met_is
          ∙ ap₂ (λ (k : ℕ) (xs : List ℕ). b.met + (ends_of ws r.edges.sums k xs).back) vertex inside
          ∙ ap (λ (k : ℕ). b.met + k) (back_open below left_open)
