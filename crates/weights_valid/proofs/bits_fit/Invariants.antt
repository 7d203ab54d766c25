use Prim.Native.Nat.{ℕ}
use mathlib.Core.Bool.{Bool}
use mathlib.Core.List.{List}
use lib.Dec.{eqb}
use lib.ListN.{get_or}
use Rattle.laws.specs.Sums.Below.{ToldBelow}
use Rattle.weights_valid.specs.Bytes.{byte_of}
use Rattle.weights_valid.proofs.bits_fit.Given as goal

abbrev pub passes : List ℕ → List ℕ → ℕ → ℕ → Bool
passes adj bits k v = eqb (byte_of (get_or adj v 0) k) (get_or bits v 0)

abbrev pub invariant-loop-v : goal.invariant-loop-v
invariant-loop-v l = ToldBelow (passes l.adjacency l.bits l.k) 64 (eqb l.differences 0) l.v
