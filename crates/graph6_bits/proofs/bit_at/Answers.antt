use Rattle.std.proofs.Common.{◌≡◌, ◌/◌, ◌%◌, ◌-◌, get_or, eqb, rules, sym, ap, ◌∙◌, ltb-true}
use Rattle.model.specs.Crossings.{bit}
use Rattle.graph6_bits.specs.Bits.{bit_behind, bit_there}
use Rattle.graph6_bits.proofs.bit_at.Goals as goal

pub returns-in_default : goal.returns-in_default
returns-in_default c = bit_behind _ _ c.in_default.ensures.lookup.3

pub returns : goal.returns
returns c =
    let k = c.args.k in
    let six : c.from.result ≡ get_or c.args.bytes.now (k / 6) 0 - 63 = search rules in
    bit_there c.args.bytes.now k (ltb-true _ _ (sym c.in-Some.ensures.lookup.0)) (c.is_set.ensures ∙ ap (λ x. eqb (bit x (5 - k % 6)) 1) six)
