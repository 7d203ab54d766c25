-- The bytes that hold six bits.
use Rattle.std.specs.Prelude.{ℕ, ◌≤◌, ◌≡◌, true, leb}
use Rattle.std.proofs.Common.{le-leb, leb-true}
use Rattle.model.specs.Graph6.{holds_six}
use Rattle.laws.specs.Sums.Indicators.{both_left, both_right}

pub six_within : {byte : ℕ} → holds_six byte ≡ true → (63 ≤ byte) × (byte ≤ 126)
unfolding holds_six
six_within {byte} e =
    (leb-true 63 byte (both_left (leb 63 byte) (leb byte 126) e), leb-true byte 126 (both_right (leb 63 byte) (leb byte 126) e))

pub within_six : {byte : ℕ} → 63 ≤ byte → byte ≤ 126 → holds_six byte ≡ true
unfolding holds_six
within_six {byte} h l = rw (le-leb 63 byte h, le-leb byte 126 l)
