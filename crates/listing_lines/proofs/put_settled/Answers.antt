use Rattle.std.proofs.Common.{ℕ, ◌≡◌, Bool, cond, List, sym, subst, arith}
use Rattle.model.specs.Lists.{upto}
use Rattle.model.specs.Listing.{text, line}
use Rattle.text.specs.Room.{Put, put_fits, has_room_lem}
use Rattle.listing_lines.proofs.put_settled.Goals as goal

-- what the line says, put where it is yes or no
said : {converged b : Bool} → converged ≡ b → (start : List ℕ) (at : ℕ) {after : List ℕ} {end : ℕ}
    → Put 12 start at (line "settled" (text (cond b " yes" " no"))) after end
    → Put 12 start at (line "settled" (text (cond converged " yes" " no"))) after end
said e start at {after} {end} p = subst (λ (t : Bool). Put 12 start at (line "settled" (text (cond t " yes" " no"))) after end) (sym e) p

pub returns-then-converged : goal.returns-then-converged
unfolding line text upto
returns-then-converged c =
    let room = has_room_lem c.lacks.ensures c.if-lacks.false in
    said c.if-converged.true _ _ (put_fits room (omega arith) (c.put_text.ensures.fits (omega (arith, room))))

pub returns-else-converged : goal.returns-else-converged
unfolding line text upto
returns-else-converged c =
    let room = has_room_lem c.lacks.ensures c.if-lacks.false in
    said c.if-converged.false _ _ (put_fits room (omega arith) (c.put_text-else-converged.ensures.fits (omega (arith, room))))
