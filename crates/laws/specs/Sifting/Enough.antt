-- Enough rounds (document 02, Note 9), over any kind of layout: each round but the last lowers the cost, so that at most one round more than the cost at the
-- start is run, and a limit that is larger than that cost ends with a round that moves no vertex. What a larger limit adds to a smaller one. And so of the
-- call settle.
use Prim.Native.Nat.{ℕ, zero, suc, ◌+◌, ◌≤◌, ◌<◌}
use Rattle.std.proofs.Common.{zero-add, suc-add, arith, ◌∙◌, true≢false}
use Rattle.std.specs.Prelude.{◌≡◌, Bool, length}
use Rattle.std.proofs.Math.Path.{refl, sym, ap}
use Rattle.std.proofs.Math.Bool.{true, false}
use Rattle.std.proofs.lemmas.Bool.{false≢true}
use mathlib.Core.List.{List, [], ◌∷◌, ◌++◌}
use Rattle.std.proofs.Math.Dec.{eqb}
use Rattle.model.specs.declared.Layout.{Layout}
use Rattle.model.specs.Answers.{Converged}
use Rattle.model.specs.Lists.{All, none, also}
use Rattle.model.specs.Layouts.{crossings_of}
use Rattle.model.specs.Search.{Search, Round, reached, last_still, round_at, rounds_within}
use Rattle.model.specs.Sifting.{ring, rounds_up_to, settled, settle_of}
use Rattle.laws.specs.Sifting.Sweeps.{reached_append, Settles, spent, last, further, still_more, last_reached, settles}
use Rattle.laws.specs.Sifting.Sweeps.{Lawful, Rounds, chain_exact, chain_fewer, rounds_proper}
use Rattle.laws.specs.Sifting.Rounds.{Valid, settled_rearranged, settled_exact}
use Rattle.laws.specs.Sifting.Calls.{settle_passed, settle_accepted}

-- ---- over any kind of layout

module _ {S : Type 0} (k : Search S) (Valid : S → Type 0) where
  -- a round lowers the cost by at least as many as it moved vertices
  pub round_lowers : {r : Round S} → Rounds k Valid r → k.cost r.after + r.moved ≤ k.cost r.before
  round_lowers p = omega (arith, chain_exact k Valid p.chain p.sifts, chain_fewer k Valid p.sifts, p.counted)

  -- so there is at most one round more than was taken away from the cost
  settles_few : {limit : ℕ} {s t : S} {rs : List (Round S)} {b : Bool} → Settles limit s rs t b → All (Rounds k Valid) rs
      → length rs + k.cost t ≤ k.cost s + 1
  settles_few spent none = omega arith
  settles_few (last z) (also p ps) = omega (arith, round_lowers p)
  settles_few (further m q) (also p ps) = omega (arith, round_lowers p, settles_few q ps)

  -- and at least as much as the limit was, where the limit ended them
  settles_short : {limit : ℕ} {s t : S} {rs : List (Round S)} {b : Bool} → Settles limit s rs t b → All (Rounds k Valid) rs → b ≡ false
      → limit + k.cost t ≤ k.cost s
  settles_short spent none e = omega arith
  settles_short (last z) (also p ps) e = absurd (true≢false e)
  settles_short (further m q) (also p ps) e = omega (arith, round_lowers p, settles_short q ps e)

  module _ (lawful : Lawful k Valid) (limit : ℕ) (s : S) (v : Valid s) where
    -- how many rounds are run, and what they leave of the cost
    pub rounds_cost : length (rounds_within k limit s) + k.cost (last_reached k limit s) ≤ k.cost s + 1
    rounds_cost = settles_few (settles k limit s) (rounds_proper k Valid lawful limit s v)

    pub unsettled_cost : last_still (rounds_within k limit s) ≡ false → limit + k.cost (last_reached k limit s) ≤ k.cost s
    unsettled_cost e = settles_short (settles k limit s) (rounds_proper k Valid lawful limit s v) e

    -- a limit that is larger than the cost is enough
    pub limit_enough : k.cost s < limit → last_still (rounds_within k limit s) ≡ true
    limit_enough h = by_test (last_still (rounds_within k limit s)) refl
      where
        by_test : (b : Bool) → last_still (rounds_within k limit s) ≡ b → last_still (rounds_within k limit s) ≡ true
        by_test true e = e
        by_test false e = absurd (omega (arith, unsettled_cost e))

    -- at most one round more than the cost is run
    pub rounds_few : length (rounds_within k limit s) ≤ k.cost s + 1
    rounds_few = omega (arith, rounds_cost)

-- ---- a limit and a larger one

module _ {S : Type 0} (k : Search S) (more : ℕ) where
  -- what comes behind the first round, with a limit for it
  later : ℕ → S → Bool → List (Round S)
  later limit s b = elim b [ true ↦ [] | false ↦ rounds_within k limit (round_at k s).after ]

  -- it tells the end where the first round moved a vertex
  later_still : (limit : ℕ) (s : S) → eqb (round_at k s).moved 0 ≡ false → {b : Bool} → last_still (round_at k s ∷ later limit s false) ≡ b
      → last_still (rounds_within k limit (round_at k s).after) ≡ b
  unfolding later
  later_still limit s z e = sym (still_more (round_at k s) (rounds_within k limit (round_at k s).after) z) ∙ e

  -- where the smaller one was enough, the rounds are the same
  abbrev Same : ℕ → S → Type 0
  Same limit s = last_still (rounds_within k limit s) ≡ true → rounds_within k (limit + more) s ≡ rounds_within k limit s

  pub rounds_same : (limit : ℕ) (s : S) → Same limit s
  unfolding rounds_within last_still later
  rounds_same zero s e = absurd (false≢true e)
  rounds_same (suc limit) s e =
      ap (λ (i : ℕ). rounds_within k i s) (suc-add limit more) ∙ by_test (eqb (round_at k s).moved 0) refl e (rounds_same limit (round_at k s).after)
    where
      by_test : (b : Bool) → eqb (round_at k s).moved 0 ≡ b → last_still (round_at k s ∷ later limit s b) ≡ true → Same limit (round_at k s).after
          → round_at k s ∷ later (limit + more) s b ≡ round_at k s ∷ later limit s b
      by_test true z e same = refl
      by_test false z e same = ap (λ (rs : List (Round S)). round_at k s ∷ rs) (same (later_still limit s z e))

  -- where it was not, they go on from where it ended
  abbrev On : ℕ → S → Type 0
  On limit s =
      last_still (rounds_within k limit s) ≡ false → rounds_within k (limit + more) s ≡ rounds_within k limit s ++ rounds_within k more (last_reached k limit s)

  pub rounds_on : (limit : ℕ) (s : S) → On limit s
  unfolding rounds_within last_still reached later
  rounds_on zero s e = ap (λ (i : ℕ). rounds_within k i s) (zero-add more)
  rounds_on (suc limit) s e =
      ap (λ (i : ℕ). rounds_within k i s) (suc-add limit more) ∙ by_test (eqb (round_at k s).moved 0) refl e (rounds_on limit (round_at k s).after)
    where
      by_test : (b : Bool) → eqb (round_at k s).moved 0 ≡ b → last_still (round_at k s ∷ later limit s b) ≡ false → On limit (round_at k s).after
          → round_at k s ∷ later (limit + more) s b
          ≡ (round_at k s ∷ later limit s b) ++ rounds_within k more (reached (λ r. r.after) (round_at k s).after (later limit s b))
      by_test true z e on = absurd (true≢false (sym z ∙ e))
      by_test false z e on = ap (λ (rs : List (Round S)). round_at k s ∷ rs) (on (later_still limit s z e))

-- ---- of the call settle

-- what an accepted settling with this limit answers, by the crossings at its start, counted pair by pair; the count that is carried plays no part
pub record LimitFacts (l : Layout) (limit : ℕ) (a : Converged) : Type 0 where
  -- a limit larger than the crossings is enough, and at most one round more than the crossings is run
  pub enough : crossings_of l < limit → a.converged ≡ true
  pub few : a.rounds ≤ crossings_of l + 1
  -- at most one more than were saved, too; and where the limit was not enough at least as many as the limit were saved
  pub saved : a.rounds ≤ a.reduction + 1
  pub not_enough : a.converged ≡ false → limit ≤ a.reduction

module _ (l : Layout) (limit : ℕ) (e : (settle_of l limit).refusal ≡ 0) where
  pub whole : Valid l
  whole = (settle_passed l limit e).0

  pub answered : settle_of l limit ≡ rounds_up_to limit l
  answered = let p = settle_passed l limit e in settle_accepted l limit p.0 p.1 p.2

  -- the saving is exact
  pub settle_exact : crossings_of (settle_of l limit).layout + (settle_of l limit).reduction ≡ crossings_of l
  settle_exact = rw answered (settled_exact limit l whole)

  -- did the last of its rounds move no vertex?
  told : {b : Bool} → (settle_of l limit).converged ≡ b → last_still (rounds_within ring limit l) ≡ b
  unfolding rounds_up_to settled
  told c = ap (λ (a : Converged). a.converged) (sym answered) ∙ c

  -- a larger limit
  module _ (more : ℕ) (h : limit + more ≤ 1000) where
    answered_more : settle_of l (limit + more) ≡ rounds_up_to (limit + more) l
    answered_more = settle_accepted l (limit + more) whole (omega (arith, (settle_passed l limit e).1)) h

    -- where the limit was enough, the larger one gives the same answer
    pub settle_same : (settle_of l limit).converged ≡ true → settle_of l (limit + more) ≡ settle_of l limit
    unfolding rounds_up_to
    settle_same c = answered_more ∙ ap (settled l) (rounds_same ring more limit l (told c)) ∙ sym answered

    -- where it was not, going on from what it gave leads to what the larger one leads to
    pub settle_on : (settle_of l limit).converged ≡ false → 1 ≤ more
        → (settle_of (settle_of l limit).layout more).layout ≡ (settle_of l (limit + more)).layout
    unfolding rounds_up_to settled
    settle_on c g =
        let end = last_reached ring limit l in
        ap (λ (a : Converged). (settle_of a.layout more).layout) answered
        ∙ ap (λ (a : Converged). a.layout) (settle_accepted end more (settled_rearranged limit l whole).valid_after g (omega (arith, h)))
        ∙ sym (reached_append (λ (r : Round Layout). r.after) l (rounds_within ring limit l) (rounds_within ring more end))
        ∙ ap (reached (λ (r : Round Layout). r.after) l) (sym (rounds_on ring more limit l (told c)))
        ∙ sym (ap (λ (a : Converged). a.layout) answered_more)
