-- The fields of a chart, one after the other, whatever the number of steps.
use Rattle.std.specs.Prelude.{ℕ, zero, suc, ◌+◌, ◌≤◌, ◌≡◌, refl, Bool, true, false, List, [], ◌∷◌, length, drop, eqb, leb}
use Rattle.std.proofs.Common.{arith, sym, ap, ◌∙◌, length-drop, length-take-le, eqb-true, leb-true}
use Rattle.model.specs.Lists.{sum_over}
use Rattle.model.specs.Charts.{Field, Fields, body_length, starts_with_field, first_field, fields_in, fields_of}
use Rattle.laws.specs.Sums.Indicators.{both_right}

-- what is behind the first field
unfoldable pub behind_field : List ℕ → List ℕ
behind_field s = drop (3 + body_length s) s

-- a field in front of others
unfoldable pub in_front : Field → Fields → Fields
in_front f rest = record { complete = rest.complete; fields = f ∷ rest.fields }

-- no field any more: the input ends here, or is cut off
unfoldable pub no_field : List ℕ → Fields
no_field s = record { complete = eqb (length s) 0; fields = [] }

-- ---- the fields, whatever the number of steps

step_there : (k : ℕ) (s : List ℕ) → starts_with_field s ≡ true → fields_in (suc k) s ≡ in_front (first_field s) (fields_in k (behind_field s))
unfolding fields_in in_front behind_field
step_there k s e = rw (e, fields_in)

step_none : (k : ℕ) (s : List ℕ) → starts_with_field s ≡ false → fields_in k s ≡ no_field s
unfolding fields_in no_field
step_none zero s e = refl
step_none (suc k) s e = rw (e, fields_in)

-- a field has a header, and its body is there
pub field_fits : (s : List ℕ) → starts_with_field s ≡ true → 3 + body_length s ≤ length s
unfolding starts_with_field
field_fits s e = leb-true (3 + body_length s) (length s) (both_right (leb 3 (length s)) (leb (3 + body_length s) (length s)) e)

no_bytes : (s : List ℕ) → length s ≤ 0 → starts_with_field s ≡ false
no_bytes s h = by_test (starts_with_field s) refl
  where
    by_test : (b : Bool) → starts_with_field s ≡ b → b ≡ false
    by_test true e = absurd (omega (arith, field_fits s e))
    by_test false e = refl

behind_shorter : (s : List ℕ) (k : ℕ) → length s ≤ suc k → length (behind_field s) ≤ k
unfolding behind_field
behind_shorter s k h = omega (arith, length-drop (3 + body_length s) s)

-- as many steps as bytes are enough
steps_enough : (k j : ℕ) (s : List ℕ) → length s ≤ k → length s ≤ j → fields_in k s ≡ fields_in j s
steps_enough zero j s hk hj = step_none zero s (no_bytes s hk) ∙ sym (step_none j s (no_bytes s hk))
steps_enough (suc k) zero s hk hj = step_none (suc k) s (no_bytes s hj) ∙ sym (step_none zero s (no_bytes s hj))
steps_enough (suc k) (suc j) s hk hj =
    by_test (starts_with_field s) refl (steps_enough k j (behind_field s) (behind_shorter s k hk) (behind_shorter s j hj))
  where
    by_test : (b : Bool) → starts_with_field s ≡ b → fields_in k (behind_field s) ≡ fields_in j (behind_field s) → fields_in (suc k) s ≡ fields_in (suc j) s
    by_test true e r = step_there k s e ∙ ap (in_front (first_field s)) r ∙ sym (step_there j s e)
    by_test false e r = step_none (suc k) s e ∙ sym (step_none (suc j) s e)

-- the fields one after the other
pub fields_there : (s : List ℕ) → starts_with_field s ≡ true → fields_of s ≡ in_front (first_field s) (fields_of (behind_field s))
unfolding fields_of
fields_there s e =
    steps_enough (length s) (suc (length s)) s (omega arith) (omega arith)
    ∙ step_there (length s) s e
    ∙ ap (in_front (first_field s)) (steps_enough (length s) (length (behind_field s)) (behind_field s) (behind_shorter s (length s) (omega arith)) (omega arith))

pub fields_none : (s : List ℕ) → starts_with_field s ≡ false → fields_of s ≡ no_field s
unfolding fields_of
fields_none s e = step_none (length s) s e

-- ---- how long they are

-- a field with its header
abbrev pub field_length : Field → ℕ
field_length f = 3 + length f.body

first_length : (s : List ℕ) → starts_with_field s ≡ true → length s ≡ field_length (first_field s) + length (behind_field s)
unfolding first_field behind_field
first_length s e =
    let inside : body_length s ≤ length (drop 3 s) = omega (arith, field_fits s e, length-drop 3 s) in
    omega (arith, field_fits s e, length-take-le (body_length s) (drop 3 s) inside, length-drop (3 + body_length s) s)

-- input that divides into fields has their bytes and no others
pub fields_length : (s : List ℕ) → (fields_of s).complete ≡ true → length s ≡ sum_over field_length (fields_of s).fields
unfolding fields_of fields_in sum_over no_field in_front
fields_length s t = in_steps (length s) s t
  where
    in_steps : (k : ℕ) (s : List ℕ) → (fields_in k s).complete ≡ true → length s ≡ sum_over field_length (fields_in k s).fields
    in_steps zero s t = eqb-true (length s) 0 t
    in_steps (suc k) s t = by_test (starts_with_field s) refl (in_steps k (behind_field s))
      where
        by_test : (b : Bool) → starts_with_field s ≡ b
            → ((fields_in k (behind_field s)).complete ≡ true → length (behind_field s) ≡ sum_over field_length (fields_in k (behind_field s)).fields)
            → length s ≡ sum_over field_length (fields_in (suc k) s).fields
        by_test true e r =
            let step = step_there k s e in
            first_length s e
            ∙ ap (λ (x : ℕ). field_length (first_field s) + x) (r (ap (λ (f : Fields). f.complete) (sym step) ∙ t))
            ∙ ap (λ (f : Fields). sum_over field_length f.fields) (sym step)
        by_test false e r =
            let step = step_none (suc k) s e in
            eqb-true (length s) 0 (ap (λ (f : Fields). f.complete) (sym step) ∙ t)
            ∙ ap (λ (f : Fields). sum_over field_length f.fields) (sym step)
