use Rattle.std.proofs.Common.{rules, ◌≡◌, length}
use Rattle.append_line.specs.Lines.{placed_in, placed_length, written_over}
use Rattle.append_line.proofs.Line.written.Goals as goal

pub returns : goal.returns
unfolding written_over placed_in
returns c =
    let room : length c.args.self.now.places ≡ 128 = search rules in
    rw (c.copy_from_slice.ensures.after, c.placed-placed.ensures.value, placed_length c.args.self.now room)
