use Rattle.std.proofs.Common.{arith, ◌+◌, ◌≤◌, length}
use Rattle.model.specs.Playing.{answer_width, answer_numbers}
use Rattle.calls_encoding.specs.Answers.{not_answered, numbers_copied}
use Rattle.text.specs.Room.{no_room, has_room_lem}
use Rattle.calls_encoding.proofs.answers.put_answer.Goals as goal
use Rattle.calls_encoding.proofs.answers.put_answer.Goals.{Else-lacks}

-- there are the places
room : (c : Else-lacks) → let s = c.args in s.at + answer_width ≤ length s.table.now
room c = has_room_lem c.lacks.ensures c.if-lacks.false

pub returns-then-lacks : goal.returns-then-lacks
returns-then-lacks c = not_answered _ _ _ (no_room c.lacks.ensures c.if-lacks.true)

pub returns : goal.returns
unfolding answer_numbers
returns c = numbers_copied _ _ _ (room (goal.at.returns c).Else-lacks) (omega arith) c.copy_from_slice.ensures.after
