use Rattle.std.specs.Prelude.{not, min, ◌*◌, ◌-◌, length, get_or, eqb}
use Rattle.std.proofs.Common.{rules, tests, refl, arith, ◌∙◌}
use Rattle.std.proofs.lemmas.Iterator.{YieldsList-from_range}
use Rattle.std.proofs.lemmas.Iterator.Search.{all_from_yields_List}
use Rattle.model.specs.Graph6.{bytes_for, pairs_by_higher, unpacked}
use Rattle.graph6_pairs.specs.Padding.{padding_all}
use Rattle.graph6_pairs.proofs.is_padded.Goals as goal

pub overflow_mul-data_length : goal.overflow_mul-data_length
unfolding bytes_for
overflow_mul-data_length c = omega (arith, c.data_length.ensures, c.pair_count.ensures.is, c.pair_count.ensures.small)

pub returns : goal.returns
returns c long =
    let pairs = length (pairs_by_higher (min c.args.n 64)) in
    all_from_yields_List (λ k. not (eqb (get_or (unpacked c.args.bytes.now) k 0) 1)) _ _ c.all.result c.all.ensures.ran
    (YieldsList-from_range pairs (6 * bytes_for pairs) (6 * bytes_for pairs - pairs) (cc) refl) (λ x b q k. search (rules, tests))
    ∙ padding_all pairs c.args.bytes.now long
