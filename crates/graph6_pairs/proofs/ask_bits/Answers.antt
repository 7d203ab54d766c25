use Prim.Native.Nat.{min}
use native.Mathlib.Omega.{arith}
use mathlib.Core.Path.{◌≡◌, ◌∙◌}
use lib.ListN.{length}
use Rattle.model.specs.Graph6.{bytes_for, pairs_by_higher}
use Rattle.graph6_pairs.specs.Questions.{another_length, right_length}
use Rattle.graph6_pairs.proofs.ask_bits.Goals as goal
use Rattle.graph6_pairs.proofs.ask_bits.Goals.{Else-bytes-data_length}

-- the bytes are as many as the pairs take
long : (c : Else-bytes-data_length) → let s = c.args in length s.bytes.now ≡ bytes_for (length (pairs_by_higher (min s.n 64)))
long c = omega (arith, c.data_length.ensures, c.if-bytes-data_length.false)

pub returns-then-bytes-data_length : goal.returns-then-bytes-data_length
returns-then-bytes-data_length c = another_length _ _ (λ e. omega (arith, c.data_length.ensures, c.if-bytes-data_length.true))

pub returns-else-bytes-data_length : goal.returns-else-bytes-data_length
returns-else-bytes-data_length c =
    let l = long (goal.at.returns-else-bytes-data_length c).Else-bytes-data_length in
    c.answer_of.ensures ∙ right_length _ _ l c.all_hold_six.ensures (c.is_padded.ensures l)
