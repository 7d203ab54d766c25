use Rattle.std.proofs.Common.{ℕ, List, ◌≡◌, ◌<◌, ◌%◌, ◌∙◌, arith, subst, le-leb}
use Rattle.laws.specs.Sums.Bits.{set_within}
use Rattle.laws.specs.Tables.Rows.{TakenRow}
use Rattle.append_choice.specs.Choices.{best_below}
use Rattle.append.specs.Steps.{place_start, next_fits, place_end}
use Rattle.append.proofs.Stepping.{place_less, place_next_lem}
use Rattle.append.proofs.steps.place_linked.Goals as goal
use Rattle.append.proofs.steps.place_linked.Goals.{In-Some}

pub loop-v-init : goal.loop-v-init
loop-v-init c =
    let asked = c.requires in (
      c.close.ensures.weights ∙ c.all-edges.ensures.weights,
      place_start asked.0 asked.1 c.alone.ensures c.set.type_inv
          (set_within _ _ (omega (arith, asked.0.words.small)) c.set.ensures)
          c.all-edges.ensures.rows
          (subst (λ (k : List ℕ). TakenRow k (c.args.s % 64) c.all-edges.result.sums c.close.new.self.sums) c.all-edges.ensures.weights c.close.ensures.row),
    )

-- a turn has a vertex to place
vertex : (c : In-Some) → (c.in-Some.v ≡ (best_below c.args.n c.args.adjacency.now c.loop-v.so_far.placed c.args.n).vertex) × (c.in-Some.v < c.args.n)
vertex c = rw (le-leb c.args.n 64 c.requires.0.words.small) at c.in-Some.ensures

pub place-requires : goal.place-requires
place-requires c =
    let v = vertex (goal.at.place-requires c).In-Some in next_fits c.requires.0 c.loop-v.invariant.1 v.0 v.1

pub loop-v-smaller : goal.loop-v-smaller
loop-v-smaller c =
    let v = vertex (goal.at.loop-v-smaller c).In-Some in
    let inv = c.loop-v.invariant in
    let less = place_less c.requires.0 inv.1 v.0 v.1 inv.0 c.close-in-Some.ensures.weights c.close-in-Some.ensures.row c.place.ensures.0 in
    omega (arith, less.0, less.1)

pub loop-v-preserved : goal.loop-v-preserved
loop-v-preserved c =
    let v = vertex (goal.at.loop-v-preserved c).In-Some in
    let inv = c.loop-v.invariant in (
      c.close-in-Some.ensures.weights ∙ inv.0,
      place_next_lem c.requires.0 inv.1 v.0 v.1 inv.0 c.close-in-Some.ensures.weights c.close-in-Some.ensures.row c.place.ensures.0 c.place.ensures.1,
    )

-- at the end none is next:
-- the choice of the definition is then n
pub returns : goal.returns
returns c =
    place_end c.requires.0 c.loop-v.invariant.1 (rw (le-leb c.args.n 64 c.requires.0.words.small) at c.in_default.ensures)
