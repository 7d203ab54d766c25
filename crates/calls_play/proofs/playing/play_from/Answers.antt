use Rattle.calls_play.specs.PlayedFrom.{played_from_lem}
use Rattle.calls_play.proofs.playing.play_from.Goals as goal

pub returns : goal.returns
returns c =
    let s = c.args in
    let e = c.play.ensures in
    let t = played_from_lem s.bytes.now s.calls.now s.answers.now c.from.ensures (e.returned, (e.table, e.claim)) in
    record { returned = t.0; table = t.1.0; claim = t.1.1 }
