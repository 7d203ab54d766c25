use Rattle.std.proofs.Common.{OnOk, arith, sym, subst, length-take-le}
use Rattle.std.specs.Io.KnownBytes.{Appends}
use Rattle.ringlist.proofs.Listing.{listed_within, listed_text}
use Rattle.ringlist.proofs.write_listing.Goals as goal

pub slice_bounds-out-end : goal.slice_bounds-out-end
slice_bounds-out-end g c = let listed = c.list_chart-n in listed_within _ _ listed.ensures.value listed.ensures.out_after listed.auto.out

pub slice_bounds-write_all-end : goal.slice_bounds-write_all-end
slice_bounds-write_all-end g c =
    let listed = c.list_chart-n in sym (length-take-le _ _ (listed_within _ _ listed.ensures.value listed.ensures.out_after listed.auto.out))

pub returns : goal.returns
returns g c =
    let listed = c.list_chart-n in
    let same = listed_text c.args.chart.now _ (omega arith) listed.ensures.value listed.ensures.out_after in
    subst (λ bs. OnOk c.write_all.result (Appends (g.W.Write.contents c.args.output.now) (g.W.Write.contents c.write_all.new.self) bs)) same c.write_all.ensures.bytes
