-- A number that a function answers: what it is, and that it is no more than so many.
use Rattle.std.specs.Prelude.{ℕ, ◌≤◌, ◌≡◌}

pub record Bounded (value most r : ℕ) : Type 0 where
  pub is : r ≡ value
  pub small : r ≤ most
