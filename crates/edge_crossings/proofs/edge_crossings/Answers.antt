use mathlib.Core.Path.{refl}
use Rattle.std.specs.Prelude.{Err}
use Rattle.std.proofs.Common.{rules, ◌≡◌}
use Rattle.model.specs.Answers.{number, refusal_number}
use Rattle.model.specs.Checks.{refusal}
use Rattle.model.specs.EdgeCrossings.{table_format}
use Rattle.laws.specs.Buffers.Formats.{table_coded}
use Rattle.buffer_checks.specs.Answers.{Asked}
use Rattle.edge_crossings.specs.Answers.{counted_is, refused, fits, numbers_put}
use Rattle.edge_crossings.proofs.edge_crossings.Goals as goal
use Rattle.edge_crossings.proofs.edge_crossings.Goals.{After-write_refusal}

-- what the call has asked
asked : (c : After-write_refusal)
    → let s = c.args in Asked table_format s.l s.table.now 0 c.edge_count-edges.result (refusal_number c.write_refusal.result)
unfolding refusal refusal_number number
asked c =
    record {
      coded = table_coded;
      own_is = λ t. refl;
      measured = λ t. counted_is _ t c.edge_count-edges.ensures;
      told = rw c.is_valid.ensures at c.write_refusal.ensures;
    }

pub returns-in_err-write_refusal : goal.returns-in_err-write_refusal
returns-in_err-write_refusal c =
    let back : c.from_residual.result ≡ Err c.in_err-write_refusal.field-0.0 = search rules in
    let t = refused (asked (goal.at.returns-in_err-write_refusal c).After-write_refusal) c.in_err-write_refusal.was in
    rw back (record { value = t.0; table_after = t.1 })

pub put_numbers-requires : goal.put_numbers-requires
put_numbers-requires c = fits (asked (goal.at.put_numbers-requires c).After-write_refusal) c.in_ok-write_refusal.was

pub returns : goal.returns
returns c =
    let t = numbers_put (asked (goal.at.returns c).After-write_refusal) c.in_ok-write_refusal.was c.put_numbers.ensures in
    record { value = t.0; table_after = t.1 }
