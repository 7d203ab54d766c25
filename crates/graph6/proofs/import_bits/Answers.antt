use Rattle.graph6.specs.Importing.{bits_refused, bits_accepted}
use Rattle.graph6.proofs.import_bits.Goals as goal

pub returns-in_default : goal.returns-in_default
returns-in_default c = bits_refused c.requires _ c.ask_bits-right.ensures c.unwrap_err.ensures

pub returns : goal.returns
returns c =
    bits_accepted c.requires _ c.ask_bits-right.ensures c.in-Ok.is c.rising_order.ensures c.join_pairs-adjacency.ensures
    c.unit_table-weights.ensures c.counted.ensures
