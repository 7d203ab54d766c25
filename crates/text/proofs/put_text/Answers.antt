use Rattle.std.proofs.Common.{List, ◌++◌, take, drop, le_refl, refl, drop-drop, ap, ap₂, ◌∙◌, ℕ, length}
use Rattle.std.proofs.Math.Nat.{add-sub_cancel_left}
use Rattle.laws.specs.Buffers.Writing.{written}
use Rattle.text.specs.Room.{put_full, put_fits, no_room, has_room_lem}
use Rattle.text.proofs.put_text.Goals as goal

pub returns-then-lacks : goal.returns-then-lacks
returns-then-lacks c = put_full _ (no_room c.lacks.ensures c.if-lacks.true)

pub returns : goal.returns
unfolding written
returns c =
    let out = c.args.out.now in
    let at = c.args.at in
    let t = c.args.t.now in
    put_fits (has_room_lem c.lacks.ensures c.if-lacks.false) (le_refl _)
    (record {
      held =
          ap₂ (λ (part : List ℕ) (k : ℕ). take at out ++ (part ++ drop k (drop at out))) c.copy_from_slice.ensures.after
          (add-sub_cancel_left at (length t))
          ∙ ap (λ (rest : List ℕ). take at out ++ (t ++ rest)) (drop-drop (length t) at out);
      place = refl;
    })
