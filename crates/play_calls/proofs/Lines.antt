-- The bytes written of a line.
use Prim.Native.Nat.{ℕ, ◌≤◌}
use native.Mathlib.Omega.{arith}
use mathlib.Core.Path.{◌≡◌, sym}
use mathlib.Core.List.{List}
use lib.ListN.{length}
use lib.Seq.{length-take-le}
use Rattle.io.specs.Counts.{IsPrefixLen}

pub counted : (n : ℕ) (line : List ℕ) → n ≤ 65536 → length line ≡ 65536 → IsPrefixLen n line
counted n line few size = let fits : n ≤ length line = omega arith in (fits, sym (length-take-le n line fits))
