use Prim.Native.Nat.{◌+◌}
use native.Mathlib.Omega.{arith}
use Rattle.std.specs.Prelude.{Err}
use Rattle.std.proofs.Common.{rules, ◌≡◌, ◌∙◌}
use Rattle.model.specs.Answers.{number}
use Rattle.model.specs.Checks.{refusal}
use Rattle.model.specs.Answers.{refusal_number}
use Rattle.model.specs.Graph6.{graph6_format}
use Rattle.laws.specs.Buffers.Formats.{graph6_coded}
use Rattle.buffer_checks.specs.Answers.{Asked, handed_back}
use Rattle.graph6_export.specs.Parts.{counted, counted_is, parts_long, parts_few, fits, graph_written}
use Rattle.graph6_export.specs.Weights.{code_is}
use Rattle.graph6_export.proofs.export.Goals as goal
use Rattle.graph6_export.proofs.export.Goals.{After-write_refusal}

parts : (c : After-write_refusal)
    → c.size_length.result + c.data_length.result ≡ counted c.args.l.n
parts c = parts_long _ c.size_length.ensures c.data_length.ensures

-- what the call has asked
asked : (c : After-write_refusal)
    → let s = c.args in
    Asked graph6_format s.l s.buffer.now (refusal_number c.weight_refusal-own.result) (c.size_length.result + c.data_length.result)
    (refusal_number c.write_refusal.result)
unfolding refusal number
asked c =
    record {
      coded = graph6_coded;
      own_is = λ t. code_is _ t c.weight_refusal-own.ensures;
      measured = λ t. parts c ∙ counted_is _ t;
      told = rw c.is_valid.ensures at c.write_refusal.ensures;
    }

pub overflow_add-length : goal.overflow_add-length
overflow_add-length c = omega (arith, parts_few _ c.size_length.ensures c.data_length.ensures)

pub returns-in_err-write_refusal : goal.returns-in_err-write_refusal
returns-in_err-write_refusal c =
    let back : c.from_residual.result ≡ Err c.in_err-write_refusal.field-0.0 = search rules in
    let t = handed_back (asked (goal.at.returns-in_err-write_refusal c).After-write_refusal) c.in_err-write_refusal.was in
    rw back (record { value = t.0; buffer_after = t.1 })

pub put_graph-requires : goal.put_graph-requires
put_graph-requires c =
    let a = (goal.at.put_graph-requires c).After-write_refusal in fits (asked a) c.in_ok-write_refusal.was (parts a)

pub returns : goal.returns
returns c =
    let t = graph_written (asked (goal.at.returns c).After-write_refusal) c.in_ok-write_refusal.was c.put_graph.ensures in
    record { value = t.0; buffer_after = t.1 }
