-- The carried count of a changed layout, by the counter's formula and by the definition.
use Rattle.std.specs.Prelude.{ℕ, ◌+◌, ◌-◌, ◌%◌, ◌≤◌, ◌<◌, ◌≡◌, List, T}
use Rattle.std.proofs.Common.{mod-eq_of_lt, arith, sym, ap, ap₂, ◌∙◌}
use Rattle.std.proofs.Math.Nat.{mod-add-mod, add-mod_right}
use Rattle.model.specs.declared.Layout.{Layout}
use Rattle.model.specs.Layouts.{modulus, vertex_order, table_weight, weight, crossings_of, valid, carried, changed, uncounted}
use Rattle.laws.specs.Tables.Counts.{counted, counted_crossings}
use Rattle.laws.specs.Layouts.Validity.{sound, valid_symmetric}

-- of a valid layout the counter counts its crossings
pub counted_valid : (l : Layout) → T (valid l) → counted l.n l.order (table_weight l.weights) ≡ crossings_of l
unfolding crossings_of vertex_order weight
counted_valid l t = counted_crossings l.order (sound l t).small (sound l t).permutation (valid_symmetric l t)

-- a layout changed and its count carried on to so many crossings, those before the change by the counter's answer
unfoldable pub carried_to : Layout → ℕ → List ℕ → List ℕ → List ℕ → ℕ → Layout
carried_to l n order adj ws after =
    record {
      n = n;
      order = order;
      adjacency = adj;
      weights = ws;
      count = carried l.count (counted l.n l.order (table_weight l.weights)) after;
    }

-- if these are the crossings of the changed layout, it is that of the definition
pub carried_changed : (l : Layout) (n : ℕ) (order adj ws : List ℕ) {after : ℕ} → T (valid l) → after ≡ crossings_of (uncounted n order adj ws)
    → carried_to l n order adj ws after ≡ changed l n order adj ws
unfolding carried_to changed
carried_changed l n order adj ws t right =
    ap₂ (λ (x y : ℕ). record { n = n; order = order; adjacency = adj; weights = ws; count = carried l.count x y }) (counted_valid l t) right

-- those after it counted too
unfoldable pub recounted : Layout → ℕ → List ℕ → List ℕ → List ℕ → Layout
recounted l n order adj ws = carried_to l n order adj ws (counted n order (table_weight ws))

pub recounted_changed : (l : Layout) (n : ℕ) (order adj ws : List ℕ) → T (valid l) → T (valid (changed l n order adj ws))
    → recounted l n order adj ws ≡ changed l n order adj ws
unfolding recounted changed crossings_of vertex_order weight
recounted_changed l n order adj ws t u = carried_changed l n order adj ws t (counted_valid (changed l n order adj ws) u)

-- wrapping add and subtract carry the count on
pub carried_wrapping : (count before after sum difference : ℕ) → before < modulus → difference < modulus
    → sum ≡ (count + after) % modulus → (difference + before) % modulus ≡ sum → difference ≡ carried count before after
unfolding carried
carried_wrapping count before after sum difference b d s e =
    sym (mod-eq_of_lt d)
    ∙ sym (add-mod_right difference modulus)
    ∙ ap (λ (x : ℕ). x % modulus) (shift difference before (omega arith))
    ∙ sym (mod-add-mod (difference + before) modulus (modulus - before))
    ∙ ap (λ (x : ℕ). (x + (modulus - before)) % modulus) (e ∙ s)
    ∙ mod-add-mod (count + after) modulus (modulus - before)
    ∙ ap (λ (x : ℕ). (count + after + (modulus - x)) % modulus) (sym (mod-eq_of_lt b))
  where
    shift : (d b : ℕ) → b ≤ modulus → d + modulus ≡ d + b + (modulus - b)
    shift d b h = omega arith
