-- Link and unlink as one call: a change of one bit at both ends and of the weight between them, behind more checks than a move has.
use Rattle.std.specs.Prelude.{ℕ, ◌%◌, ◌≤◌, ◌<◌, ◌≡◌, refl, Bool, true, false, not, cond, List, length}
use Rattle.std.proofs.Common.{arith, sym, ap, ap₂, ◌∙◌, le-leb}
use Rattle.std.proofs.lemmas.Bool.{lt-leb}
use Rattle.model.specs.declared.Layout.{Layout}
use Rattle.model.specs.Crossings.{linked}
use Rattle.model.specs.Layouts.{is_weight}
use Rattle.model.specs.Checks.{Check, refusal}
use Rattle.model.specs.Edits.{move_checks, link_checks, unlink_checks, with_bit, without_bit, at_both_ends, both_ways, with_edges}
use Rattle.model.specs.Edits.{changed_to, change_refused, changed_or}
use Rattle.laws.specs.Layouts.Refusals.{Pair, pair_passed, within_capacity, changed_refused, changed_accepted}
use Rattle.laws.specs.Layouts.Refusals.{link_last, link_pair, link_weight, unlink_last, unlink_pair}
use Rattle.laws.specs.Layouts.Recount.{recounted}
use Rattle.laws.specs.Layouts.EdgeEdits.{ChangesOne, set_changes, clear_changes, WeighsAs, set_weighs, clear_weighs, edges_recounted}

pub record EdgeCall : Type 0 where
  pub change : ℕ → ℕ → ℕ
  pub value : ℕ
  pub changes : ChangesOne change value
  pub weight : ℕ
  pub checks : Layout → ℕ → ℕ → List Check
  pub pair : (l : Layout) (a b : ℕ) → refusal (checks l a b) ≡ 0 → Pair l a b
  pub weighs : (l : Layout) (a b : ℕ) → refusal (checks l a b) ≡ 0 → WeighsAs value weight

abbrev pub linking : ℕ → EdgeCall
linking w =
    record {
      change = with_bit;
      value = 1;
      changes = set_changes;
      weight = w;
      checks = λ l a b. link_checks l a b w;
      pair = λ l a b. link_pair l a b w;
      weighs = λ l a b e. set_weighs (link_weight l a b w e);
    }

abbrev pub unlinking : EdgeCall
unlinking =
    record {
      change = without_bit;
      value = 0;
      changes = clear_changes;
      weight = 0;
      checks = unlink_checks;
      pair = unlink_pair;
      weighs = λ l a b e. clear_weighs;
    }

-- a byte is a weight where it is not 0
pub byte_weight : (w : ℕ) → w ≤ 255 → (w ≡ 0 → ⊥) → is_weight w ≡ true
unfolding is_weight
byte_weight w h d = rw (le-leb 1 w (omega arith), le-leb w 255 h)

pub no_weight : (w : ℕ) → w ≡ 0 → is_weight w ≡ false
unfolding is_weight
no_weight w e = rw (lt-leb 1 w (omega arith))

module _ (l : Layout) (a b : ℕ) where
  -- the shared checks have passed: the first vertex is a place of the array
  pub first_inside : {r : ℕ} → r ≡ refusal (move_checks l a b) → r ≡ 0 → a < 64
  first_inside e z = (within_capacity (pair_passed l a b (sym e ∙ z))).0

  -- then the last checks tell
  module _ {r : ℕ} (e : r ≡ refusal (move_checks l a b)) (z : r ≡ 0) {t : Bool} (s : t ≡ linked l.adjacency a b) where
    pub may_join : (w : ℕ) {k : ℕ} → k ≡ cond t 14 (cond (is_weight w) 0 25) → k ≡ refusal (link_checks l a b w)
    may_join w told =
        told
        ∙ turned t
        ∙ ap (λ (x : Bool). cond (not x) (cond (is_weight w) 0 25) 14) s
        ∙ sym (link_last l a b w {joined = not (linked l.adjacency a b)} {light = is_weight w} (sym e ∙ z) refl refl)
      where
        turned : (x : Bool) → ◌≡◌ {A = ℕ} (cond x 14 (cond (is_weight w) 0 25)) (cond (not x) (cond (is_weight w) 0 25) 14)
        turned true = refl
        turned false = refl

    pub may_part : {v : Bool} → t ≡ v → cond v 0 15 ≡ refusal (unlink_checks l a b)
    may_part d = ap (λ (x : Bool). cond x 0 15) (sym d ∙ s) ∙ sym (unlink_last l a b (sym e ∙ z))

module _ (k : EdgeCall) (l : Layout) (a b : ℕ) where
  abbrev next : Layout
  next = with_edges l (at_both_ends k.change l.adjacency a b) (both_ways l.weights a b k.weight)

  -- what the call answers
  pub edge_refused : {r : ℕ} → r ≡ refusal (k.checks l a b) → (r ≡ 0 → ⊥) → change_refused l r ≡ changed_or l (k.checks l a b) next
  edge_refused e n = changed_refused l (k.checks l a b) next e n

  -- the arrays have their places
  pub record Places : Type 0 where
    pub words : length l.adjacency ≡ 64
    pub table : length l.weights ≡ 4096

  pub edge_accepted : {r : ℕ} {words table : List ℕ} {m : Layout} → r ≡ refusal (k.checks l a b) → r ≡ 0
      → words ≡ at_both_ends k.change l.adjacency (a % 64) (b % 64) → table ≡ both_ways l.weights (a % 64) (b % 64) k.weight → Places
      → m ≡ recounted l l.n l.order words table → changed_to m ≡ changed_or l (k.checks l a b) next
  edge_accepted e z w t sized m =
      let passed = sym e ∙ z in
      let pair = k.pair l a b passed in
      let ends = within_capacity pair in
      let first : a % 64 ≡ a = omega (arith, ends.0) in
      let second : b % 64 ≡ b = omega (arith, ends.1) in
      changed_accepted l (k.checks l a b) next passed
      (m
      ∙ edges_recounted k.change k.changes (k.weighs l a b passed) pair sized.words sized.table
      (w ∙ ap₂ (at_both_ends k.change l.adjacency) first second)
      (t ∙ ap₂ (λ (x y : ℕ). both_ways l.weights x y k.weight) first second))
