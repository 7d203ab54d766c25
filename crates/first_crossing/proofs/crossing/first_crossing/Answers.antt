use Rattle.std.specs.Prelude.{Err}
use Rattle.std.proofs.Common.{refl, rules, ◌≡◌, T}
use Rattle.model.specs.Layouts.{valid}
use Rattle.model.specs.Reading.{shown, first_crossing_of}
use Rattle.laws.specs.Layouts.Refusals.{valid_passed, passed_on, handed_back}
use Rattle.first_crossing.specs.Search.{searchable, search_shown}
use Rattle.first_crossing.proofs.crossing.first_crossing.Goals as goal
use Rattle.first_crossing.proofs.crossing.first_crossing.Goals.{In_ok-check_valid}

-- the layout is valid
accepted : (c : In_ok-check_valid) → T (valid c.args.l)
accepted c = (valid_passed _ _ (passed_on c.check_valid.ensures c.in_ok-check_valid.was)).0

pub returns-in_err-check_valid : goal.returns-in_err-check_valid
unfolding shown first_crossing_of
returns-in_err-check_valid c =
    let back : c.from_residual.result ≡ Err c.in_err-check_valid.field-0.0 = search rules in
    rw back (handed_back _ _ _ c.check_valid.ensures c.in_err-check_valid.was)

pub first_pair-requires : goal.first_pair-requires
first_pair-requires c = searchable _ (accepted (goal.at.first_pair-requires c).In_ok-check_valid) refl c.put_edges-end.ensures

pub returns : goal.returns
returns c =
    search_shown _ (accepted (goal.at.returns c).In_ok-check_valid) refl c.put_edges-end.ensures c.first_pair.ensures
