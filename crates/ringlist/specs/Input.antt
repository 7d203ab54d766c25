-- What reading says of its buffer.
use Rattle.std.specs.Prelude.{ℕ, ◌≤◌, ◌<◌, List, Option, Result, Ok, Err, length, take}
use Rattle.std.specs.Io.KnownBytes.{Consumes, IsAtEnd}

-- what was read lies within so many bytes
abbrev pub Within : {E : Type 0} → Result ℕ E → ℕ → Type 0
Within (Ok got) most = got ≤ most
Within (Err e) most = Unit {0}

-- what was read are the next bytes that the reader had, where they are known, and less than a whole buffer only if they are all
abbrev pub TakenFrom : {E : Type 0} → Result ℕ E → Option (List ℕ) → Option (List ℕ) → List ℕ → Type 0
TakenFrom (Ok got) before after buffer = Consumes before after (take got buffer) × (got < length buffer → IsAtEnd after)
TakenFrom (Err e) before after buffer = Unit {0}
