-- The pass goes on: one more vertex met.
use Rattle.std.specs.Prelude.{ℕ, ◌+◌, ◌≤◌, ◌<◌, ◌≡◌, List, length, take}
use Rattle.std.proofs.Common.{add-one, arith, sym, ap₂, ◌∙◌, take-suc}
use Rattle.std.proofs.Math.Path.{ap}
use Rattle.std.proofs.Math.ListN.{get_or}
use Rattle.laws.specs.Tables.Rows.{table_weight}
use Rattle.append_ends.specs.declared.Met.{Met}
use Rattle.append_ends.specs.Passes.{passed_of, met_of, met_last, small_next, MetUpTo}

module _ {ws opens : List ℕ} {v : ℕ} {xs : List ℕ} where
  module _ {met : Met} {i : ℕ} (m : MetUpTo ws opens v xs met i) (short : length xs ≤ 64) where
    pub met_next : i < length xs → {next : Met} {c o : ℕ} → c ≡ table_weight ws v (get_or xs i 0) → c ≤ 255 → o ≡ get_or opens (get_or xs i 0) 0 → o ≤ 65535
        → next ≡ passed_of met c o → MetUpTo ws opens v xs next (i + 1)
    met_next h {next} {c} {o} hc light ho fits n =
        record {
          inside = omega arith;
          counted =
              n ∙ ap (λ (m : Met). passed_of m c o) m.counted
              ∙ ap₂ (passed_of (met_of ws opens v (take i xs))) hc ho
              ∙ sym (ap (λ (k : ℕ). met_of ws opens v (take k xs)) (add-one i)
              ∙ ap (met_of ws opens v) (take-suc xs i 0 h) ∙ met_last ws opens v (take i xs) (get_or xs i 0));
          few = rw n (small_next m.few (omega arith) light fits);
        }
