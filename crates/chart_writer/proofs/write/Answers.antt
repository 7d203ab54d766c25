use Rattle.std.specs.Prelude.{Err, ◌≡◌}
use Rattle.std.proofs.Common.{refl, rules, ◌∙◌}
use Rattle.model.specs.Answers.{refusal_number, number}
use Rattle.model.specs.Checks.{refusal}
use Rattle.laws.specs.Buffers.Formats.{chart_coded}
use Rattle.buffer_checks.specs.Answers.{handed_back}
use Rattle.chart_writer.specs.Answers.{ChartAsked, counted_is, fits, chart_written}
use Rattle.chart_writer.proofs.write.Goals as goal
use Rattle.chart_writer.proofs.write.Goals.{After-write_refusal}

-- what the call has asked
asked : (c : After-write_refusal) → let s = c.args in ChartAsked s.l s.buffer.now c.length-length.result c.write_refusal.result
unfolding refusal refusal_number number
asked c =
    let l = c.args.l in
    let chart = c.of-chart.ensures in
    let measured = rw (chart.size, chart.words, chart.weights) at c.length-length.ensures in
    record {
      asked =
          record {
            coded = chart_coded;
            own_is = λ t. refl;
            measured = λ t. measured ∙ counted_is l t;
            told = rw c.is_valid.ensures at c.write_refusal.ensures;
          };
      measured = measured;
    }

pub returns-in_err-write_refusal : goal.returns-in_err-write_refusal
returns-in_err-write_refusal c =
    let back : c.from_residual.result ≡ Err c.in_err-write_refusal.field-0.0 = search rules in
    let t = handed_back (asked (goal.at.returns-in_err-write_refusal c).After-write_refusal).asked c.in_err-write_refusal.was in
    rw back (record { value = t.0; buffer_after = t.1 })

pub put-requires : goal.put-requires
put-requires c =
    let chart = c.of-chart.ensures in
    rw (chart.size, chart.words, chart.weights) (fits (asked (goal.at.put-requires c).After-write_refusal) c.in_ok-write_refusal.was)

pub returns : goal.returns
returns c =
    let chart = c.of-chart.ensures in
    let put = rw (chart.size, chart.order, chart.words, chart.weights) at c.put.ensures in
    let t = chart_written (asked (goal.at.returns c).After-write_refusal) c.in_ok-write_refusal.was put in
    record { value = t.0; buffer_after = t.1 }
