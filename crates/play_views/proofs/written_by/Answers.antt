use Rattle.std.proofs.Common.{◌≡◌, length, arith, rules, sym, ◌∙◌, length-take-le}
use Rattle.play_views.proofs.written_by.Goals as goal

pub slice_bounds-buffer-end : goal.slice_bounds-buffer-end
slice_bounds-buffer-end g c = sym (length-take-le _ _ (search rules))

-- the call lends the buffer on, and it keeps its length
pub returns : goal.returns
returns g c =
    let size : length c.write-answer.new.arg3 ≡ c.min.result = c.write-answer.auto.arg3 ∙ length-take-le _ _ (search rules) in
    omega (arith, size, c.min.ensures)
