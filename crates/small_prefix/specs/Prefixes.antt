-- The first vertices of an order of at most eight, as the code holds them.
use Rattle.std.specs.Prelude.{ℕ, zero, suc, ◌+◌, ◌-◌, ◌%◌, ◌^◌, ◌≤◌, ◌<◌, ◌≡◌, refl, false, List, [], ◌∷◌, ◌++◌, length, take, set, replicate, eqb}
use Rattle.std.proofs.Common.{add-one, arith, sym, ap, ◌∙◌, subst, length-set, length-append, take-suc-set, length-take-le, ltb-false}
use Rattle.model.specs.Lists.{member, occurrences}
use Rattle.model.specs.Crossings.{bit}
use Rattle.model.specs.Edits.{with_bit}
use Rattle.laws.specs.Sums.Bits.{set_lt}
use Rattle.laws.specs.Orders.Permutations.{occurrences_nil, member_occurs}
use Rattle.laws.specs.Append.Order.{placed_back}
use Rattle.laws.specs.Append.Held.{Held, held_none, held_front, held_back, placed_test}
use Rattle.laws.specs.Small.Entries.{Begun, begun_alone}
use Rattle.small_prefix.specs.declared.Prefix.{Prefix}

abbrev pub entries : Prefix → List ℕ
entries p = take p.size p.places

abbrev pub alone : Prefix
alone = record { places = replicate 8 0; size = 1; bits = 1 }

-- v behind them
unfoldable pub next_of : Prefix → ℕ → Prefix
next_of p v =
    record { places = set p.places (p.size % 8) (v % 64); size = p.size % 8 + 1; bits = with_bit p.bits (v % 64) }

-- of n vertices, at most eight, all but left are placed
pub record Ready (n left : ℕ) (p : Prefix) : Type 0 where
  pub small : n ≤ 8
  pub whole : length p.places ≡ 8
  pub counted : left + p.size ≡ n
  pub begun : Begun n left (entries p)
  pub held : Held p.bits (entries p)

pub ready_alone : {n : ℕ} → 0 < n → n ≤ 8 → Ready n (n - 1) alone
unfolding with_bit bit
ready_alone {n} some small =
    record {
      small = small;
      whole = refl;
      counted = omega arith;
      begun = by_number n some;
      held = held_front 0 held_none (occurrences_nil 0) (omega arith) refl;
    }
  where
    by_number : (n : ℕ) → 0 < n → Begun n (n - 1) (0 ∷ [])
    by_number zero h = absurd (omega arith)
    by_number (suc n) h = subst (λ (k : ℕ). Begun (suc n) k (0 ∷ [])) less_one (begun_alone n)
      where
        less_one : n ≡ suc n - 1
        less_one = omega arith

module _ {n left : ℕ} {p : Prefix} (r : Ready n left p) where
  pub entries_length : length (entries p) ≡ p.size
  entries_length = length-take-le p.size p.places (omega (arith, r.counted, r.small, r.whole))

  -- once none is left, they are the first n places
  pub all_entries : left ≡ 0 → n ≡ p.size
  all_entries e = omega (arith, r.counted)

  module _ {v : ℕ} (h : v < n) where
    -- a vertex is placed exactly where its bit is set
    pub in_bits : eqb (bit p.bits v) 1 ≡ member v (entries p)
    in_bits = placed_test (omega (arith, r.small)) r.begun.placed r.held v h

    pub out_free : member v (entries p) ≡ false → occurrences v (entries p) ≡ 0
    out_free out = omega (arith, ltb-false 0 (occurrences v (entries p)) (sym (member_occurs v (entries p)) ∙ out))

    module _ (some : 0 < left) (free : occurrences v (entries p) ≡ 0) where
      -- what fits is not changed by the moduli
      next_is : next_of p v ≡ record { places = set p.places p.size v; size = p.size + 1; bits = with_bit p.bits v }
      unfolding next_of
      next_is =
          let place : p.size % 8 ≡ p.size = omega (arith, r.counted, r.small) in
          let vertex : v % 64 ≡ v = omega (arith, r.small) in
          rw (place, vertex)

      pub entries_next : entries (next_of p v) ≡ entries p ++ (v ∷ [])
      entries_next =
          ap entries next_is
          ∙ ap (λ (k : ℕ). take k (set p.places p.size v)) (add-one p.size)
          ∙ take-suc-set p.places p.size v (omega (arith, r.whole, r.counted, r.small))

      marked_fits : with_bit p.bits v < 2 ^ 64
      marked_fits = set_lt 64 p.bits v r.held.fits (omega (arith, r.small))

      pub ready_next : Ready n (left - 1) (next_of p v)
      ready_next =
          record {
            small = r.small;
            whole = ap (λ (q : Prefix). length q.places) next_is ∙ length-set p.places p.size v ∙ r.whole;
            counted = omega (arith, r.counted, ap (λ (q : Prefix). q.size) next_is);
            begun =
                subst (Begun n (left - 1)) (sym entries_next)
                (record {
                  placed = placed_back r.begun.placed h free;
                  left = omega (arith, length-append (entries p) (v ∷ []), entries_length, r.counted);
                });
            held =
                subst (Held (next_of p v).bits) (sym entries_next)
                (held_back v r.held free (rw (ap (λ (q : Prefix). q.bits) next_is) marked_fits) (ap (λ (q : Prefix). q.bits) next_is));
          }
