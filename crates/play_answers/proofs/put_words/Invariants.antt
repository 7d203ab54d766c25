use Rattle.std.proofs.Common.{◌≡◌, ◌+◌, ◌*◌, ◌≤◌, length}
use Rattle.play_answers.proofs.put_words.Given as goal

abbrev pub invariant-loop-v : goal.invariant-loop-v
invariant-loop-v l = (l.end ≤ l.at + 6 + 25 * l.v) × (length l.line ≡ length l.initial.line)
