use mathlib.Core.Path.{◌≡◌, refl, ap₂, ◌∙◌}
use mathlib.Core.Bool.{Bool, true, false, not, xor, beq}
use Rattle.model.specs.Crossings.{between, alternate}
use Rattle.alternation.proofs.alternate.Goals as goal

differ_xor : (x y : Bool) → not (beq x y) ≡ xor x y
unfolding xor
differ_xor true true = refl
differ_xor true false = refl
differ_xor false true = refl
differ_xor false false = refl

pub returns : goal.returns
unfolding alternate xor
returns c =
    let v = c.args in
    ap₂ (λ (x y : Bool). not (beq x y)) c.between.ensures c.between-2.ensures
    ∙ differ_xor (between v.p v.q v.r) (between v.p v.q v.s)
