use Rattle.std.proofs.Common.{arith}
use Rattle.model.specs.Lists.{upto}
use Rattle.model.specs.Listing.{text, line}
use Rattle.laws.specs.Buffers.Writing.{written_whole}
use Rattle.listing.specs.Text.{listed_short, listed_as}
use Rattle.listing.proofs.Results.{refused_listing, accepted_listing, accepted_valid}
use Rattle.listing.proofs.listings.list_chart.Goals as goal

pub returns-then-out-lt1024 : goal.returns-then-out-lt1024
returns-then-out-lt1024 c =
    let t = listed_short c.args.bytes.now c.args.out.now c.if-out-lt1024.true in
    record { value = t.0; out_after = t.1 }

pub list_layout-requires : goal.list_layout-requires
list_layout-requires c =
    let good = accepted_valid c.args.bytes.now c.read.ensures c.in-Ok.is in
    (good.0, good.1, c.if-out-lt1024.false)

pub returns-in-Err : goal.returns-in-Err
unfolding line text upto
returns-in-Err c =
    let s = c.args.bytes.now in
    let told = refused_listing s c.read.ensures c.in-Err.is in
    let put = rw (c.from.ensures, c.number.ensures) at (c.put_line.ensures.fits (omega arith)) in
    let t = listed_as s c.args.out.now c.if-out-lt1024.false told (written_whole put) in
    record { value = t.0; out_after = t.1 }

pub returns-in-Ok : goal.returns-in-Ok
returns-in-Ok c =
    let s = c.args.bytes.now in
    let t = listed_as s c.args.out.now c.if-out-lt1024.false (accepted_listing s c.read.ensures c.in-Ok.is) c.list_layout.ensures in
    record { value = t.0; out_after = t.1 }
