use Rattle.std.proofs.Common.{refl, arith}
use Rattle.chart_questions.specs.Fields.{field_there, field_none, field_step}
use Rattle.chart_questions.proofs.fields.FieldsIterator.next.Goals as goal

pub returns-in_err-tag-clause-steps : goal.returns-in_err-tag-clause-steps
returns-in_err-tag-clause-steps c = let no = field_none _ c.first_field.ensures c.in_err-tag.was in rw c.from_residual.ensures (no, refl)

pub split_at-requires : goal.split_at-requires
split_at-requires c = let f = field_there _ c.first_field.ensures c.in_ok-tag.was in omega (arith, f.fits)

pub split_at-requires-2 : goal.split_at-requires-2
split_at-requires-2 c = let f = field_there _ c.first_field.ensures c.in_ok-tag.was in omega (arith, f.fits, c.split_at.ensures.back_len)

pub returns-clause-steps : goal.returns-clause-steps
returns-clause-steps c =
    field_step _ c.first_field.ensures c.in_ok-tag.was c.split_at.ensures.back c.split_at-2.ensures.front c.split_at-2.ensures.back
