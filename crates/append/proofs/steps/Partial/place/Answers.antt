use Rattle.std.proofs.Common.{ℕ, ◌≡◌, ap, ap₂, ◌∙◌, mod-eq_of_lt}
use Rattle.laws.specs.Sums.Bits.{set_within}
use Rattle.append_ends.specs.declared.Ends.{Ends}
use Rattle.append_ends.specs.Ends.{vertices, ends_of}
use Rattle.append.specs.Steps.{put_of, placed_of}
use Rattle.append.proofs.steps.Partial.place.Goals as goal

pub returns : goal.returns
unfolding placed_of put_of
returns c =
    let s = c.args.self.now in
    let table = c.args.edges.now in
    let ends : c.end_crossings-ends.result ≡ ends_of table.weights.now table.sums c.args.v (vertices s.line) =
    c.end_crossings-ends.ensures.0
    ∙ ap (λ (v : ℕ). ends_of table.weights.now table.sums v (vertices s.line)) (mod-eq_of_lt c.requires.vertex) in (
      c.put.ensures.0
          ∙ ap₂ (λ (m : ℕ) (e : Ends). put_of (record { line = s.line; placed = m; tally = s.tally }) c.args.v m e)
          (set_within _ _ c.requires.vertex c.set-self.ensures) ends,
      c.put.ensures.1,
    )
