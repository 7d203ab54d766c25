-- One part written behind another.
use Rattle.std.specs.Prelude.{ℕ, ◌≤◌, List, ◌++◌, length}
use Rattle.laws.specs.Buffers.Writing.{Written, written_step}

module _ {start : List ℕ} {base : ℕ} {s bytes : List ℕ} {at : ℕ} {t next : List ℕ} {to : ℕ} where
  pub behind : Written start base s bytes at → Written bytes at t next to → at ≤ length start → Written start base (s ++ t) next to
  behind w v h = written_step w t h v.held v.place
