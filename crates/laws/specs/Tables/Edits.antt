-- A weight set between two vertices of a table, both ways round: the entries then, and that the table fits the words with their bits set or cleared.
use Rattle.std.specs.Prelude.{ℕ, ◌+◌, ◌*◌, ◌<◌, ◌≡◌, List, set}
use Rattle.std.proofs.Common.{arith, ◌∙◌}
use Rattle.std.proofs.Math.ListN.{length, length-set}
use Rattle.std.proofs.Math.Seq.{get_or-set_same, get_or-set_other}
use Rattle.model.specs.Layouts.{table_places, table_weight}
use Rattle.model.specs.Edits.{both_ways}

module _ (ws : List ℕ) (a b w : ℕ) (size : length ws ≡ table_places) (first : a < 64) (second : b < 64) where
  pub both_size : length (both_ways ws a b w) ≡ table_places
  unfolding both_ways
  both_size = simp length-set size

  pub both_back : table_weight (both_ways ws a b w) b a ≡ w
  unfolding table_weight both_ways
  both_back =
      let inside : 64 * b + a < length (set ws (64 * a + b) w) = omega (arith, length-set ws (64 * a + b) w, size) in
      get_or-set_same (set ws (64 * a + b) w) (64 * b + a) w 0 inside

  pub both_there : (a ≡ b → ⊥) → table_weight (both_ways ws a b w) a b ≡ w
  unfolding table_weight both_ways
  both_there different =
      get_or-set_other (set ws (64 * a + b) w) (64 * b + a) (64 * a + b) w 0 (λ e. different (omega arith))
      ∙ get_or-set_same ws (64 * a + b) w 0 (omega (arith, size))

  pub both_other : (u v : ℕ) → v < 64 → (u ≡ a → v ≡ b → ⊥) → (u ≡ b → v ≡ a → ⊥) → table_weight (both_ways ws a b w) u v ≡ table_weight ws u v
  unfolding table_weight both_ways
  both_other u v h there back =
      get_or-set_other (set ws (64 * a + b) w) (64 * b + a) (64 * u + v) w 0 (λ e. back (omega arith) (omega arith))
      ∙ get_or-set_other ws (64 * a + b) (64 * u + v) w 0 (λ e. there (omega arith) (omega arith))
