use Rattle.std.proofs.Common.{◌≡◌, ℕ, ◌+◌, ◌%◌, ◌<◌, get_or, get_or-take, length-take-le, set, arith, sym, subst}
use Rattle.places.specs.AllPlaces.{PlacesUpTo, places_start, places_next, places_end}
use Rattle.places.proofs.places_of.Goals as goal

pub returns-then-n-gt64 : goal.returns-then-n-gt64
returns-then-n-gt64 c few perm = absurd (omega (arith, c.if-n-gt64.true))

pub loop-p-init : goal.loop-p-init
loop-p-init c = places_start c.if-n-gt64.false

pub loop-p-preserved : goal.loop-p-preserved
loop-p-preserved c =
    let n = c.args.n in
    let order = c.args.order.now in
    let p = c.loop-p.p in
    let inside : p < n = omega (arith, length-take-le n order (omega arith)) in
    let vertex : c.from.result ≡ get_or order p 0 % 64 = omega (arith, c.from.ensures, get_or-take n order p 0 inside) in
    subst (λ (v : ℕ). PlacesUpTo n order (set c.loop-p.places v p) (p + 1)) (sym vertex) (places_next c.loop-p.invariant inside)

pub returns : goal.returns
returns c few = places_end c.loop-p.invariant (omega (arith, length-take-le c.args.n c.args.order.now (omega arith)))
