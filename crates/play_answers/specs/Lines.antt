-- The room of an answer line.
use Rattle.std.specs.Prelude.{ℕ}

abbrev pub line_room : ℕ
line_room = 65536
