-- What ringlist prints of a chart without weights is what it printed before there were weights, to the byte.
use Rattle.std.specs.Prelude.{ℕ, zero, suc, ◌≡◌, refl, Bool, true, false, List, eqb}
use Rattle.std.proofs.Common.{ap, ◌∙◌}
use Rattle.model.specs.declared.Layout.{Layout}
use Rattle.model.specs.declared.Call.TheVariants as call
use Rattle.model.specs.Lists.{one}
use Rattle.model.specs.Layouts.{vertex_order}
use Rattle.model.specs.Checks.{by_refusal}
use Rattle.model.specs.Sifting.{settle_of}
use Rattle.model.specs.Charts.{tags_of, same_list, weighted_tags, read_of}
use Rattle.model.specs.Histories.{read, answer_of}
use Rattle.model.specs.Listing.{line, spaced, listing, listing_of}
use Rattle.model.specs.Former.{FormerRead, former_settle, former_answer, former_listing, former_listing_of}
use Rattle.history.specs.StepLaws.{start_right}
use Rattle.laws.specs.Layouts.Units.{Agreeing, unit_agrees, unit_weighted_lem}
use Rattle.former.specs.Units.{converging}
use Rattle.former.specs.Forgetting.{forget, forget_outcome, forgotten_crossings}
use Rattle.former.specs.AsBefore.{OfWeightOne}
use Rattle.former.proofs.AsBefore.{call_alike, keeps_one}
use Rattle.former.specs.Starts.{plain_unit}
use Rattle.former.proofs.Starts.{read_formerly}

one_tells : (b : Bool) → eqb (one b) 1 ≡ b
unfolding one
one_tells true = refl
one_tells false = refl

agreeing : (l : Layout) → OfWeightOne l → Agreeing l
agreeing l o = unit_agrees l o.whole.is_valid_lem o.unit

-- the listing of a layout whose weights are 1
pub same_listing : (l : Layout) → OfWeightOne l → listing l ≡ former_listing (forget l)
unfolding listing former_listing former_answer answer_of vertex_order
same_listing l o =
    let settled : former_settle (forget l) 50 ≡ forget_outcome (answer_of l (call.Converge 50)) = call_alike l (call.Converge 50) o converging in
    let after = settle_of l 50 in
    rw (
      settled,
      forgotten_crossings l (agreeing l o),
      forgotten_crossings after.layout (agreeing after.layout (keeps_one l (call.Converge 50) o converging)),
      one_tells after.converged,
    )

-- of a chart whose fields are not 44, 4C, 52 and 57, refused or not
pub listing_formerly : (s : List ℕ) → same_list (tags_of s) weighted_tags ≡ false → listing_of s ≡ former_listing_of s
unfolding listing_of former_listing_of by_refusal
listing_formerly s plain =
    from (read_of s).refusal refl
    ∙ ap (λ (r : FormerRead). by_refusal r.refusal (former_listing r.layout) (λ k. line "refused" (spaced k))) (read_formerly s plain)
  where
    from : (r : ℕ) → (read_of s).refusal ≡ r
        → by_refusal r (listing (read_of s).layout) (λ k. line "refused" (spaced k))
        ≡ by_refusal r (former_listing (forget (read_of s).layout)) (λ k. line "refused" (spaced k))
    from zero e =
        let w = (start_right (read s e)).whole in
        same_listing (read_of s).layout (record { whole = w; unit = unit_weighted_lem (read_of s).layout w.is_valid_lem (plain_unit s plain e) })
    from (suc k) e = refl
