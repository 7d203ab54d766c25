-- What a result of reading a chart says of its listing, and what one of settling says of the layout.
use Rattle.std.specs.Prelude.{ℕ, ◌≡◌, Result, Ok, Err, IsOk, T}
use Rattle.std.proofs.Common.{arith, refl, sym, ap, subst, ◌∙◌}
use mathlib.Core.List.{List}
use Rattle.model.specs.declared.Layout.{Layout}
use Rattle.model.specs.declared.ConvergeSummary.{ConvergeSummary}
use Rattle.model.specs.declared.refusal.Refusal.{Refusal}
use Rattle.model.specs.Answers.{LayoutRead, Converged, number, told_by, as_converged}
use Rattle.model.specs.Layouts.{valid, crossings_of}
use Rattle.model.specs.Charts.{read_of, as_read}
use Rattle.model.specs.Sifting.{settle_of, rounds_up_to, settled}
use Rattle.model.specs.Listing.{listing, listing_of, line, spaced}
use Rattle.laws.specs.Charts.Reading.{read_valid}
use Rattle.laws.specs.Layouts.Refusals.{number_positive}
use Rattle.laws.specs.Sifting.Calls.{settle_accepted}
use Rattle.listing.specs.Text.{listing_refused, listing_accepted}

module _ (s : List ℕ) {a : Result Layout Refusal} (e : as_read a ≡ read_of s) where
  pub refused_listing : {r : Refusal} → a ≡ Err r → listing_of s ≡ line "refused" (spaced (number r))
  unfolding as_read told_by
  refused_listing {r} told = listing_refused s (subst (λ x. as_read x ≡ read_of s) told e) (number_positive r)

  pub accepted_listing : {l : Layout} → a ≡ Ok l → listing_of s ≡ listing l
  unfolding as_read told_by
  accepted_listing told = listing_accepted s (subst (λ x. as_read x ≡ read_of s) told e) refl

  pub accepted_valid : {l : Layout} → a ≡ Ok l → T (valid l) × (l.count ≡ crossings_of l)
  unfolding as_read told_by
  accepted_valid told =
      let same = subst (λ x. as_read x ≡ read_of s) told e in
      subst (λ (r : LayoutRead). T (valid r.layout) × (r.layout.count ≡ crossings_of r.layout)) (sym same)
      (read_valid s (ap (λ (r : LayoutRead). r.refusal) (sym same)))

-- the settled layout and its numbers, as the definition has them
abbrev pub settled_as : Layout × ConvergeSummary → Converged
settled_as x = record {
  refusal = 0;
  layout = x.0;
  reduction = x.1.reduction;
  rounds = x.1.rounds;
  converged = x.1.converged;
  optima = x.1.optima;
}

module _ (l : Layout) where
  -- limit 50 is accepted
  pub settle_ok : T (valid l) → (a : Result (Layout × ConvergeSummary) Refusal) → as_converged l a ≡ settle_of l 50 → IsOk a
  unfolding as_converged told_by rounds_up_to settled
  settle_ok t (Ok x) e = refl
  settle_ok t (Err r) e =
      absurd (number_positive r (ap (λ (c : Converged). c.refusal) (e ∙ settle_accepted l 50 t (omega arith) (omega arith))))

  pub settled_result : {a : Result (Layout × ConvergeSummary) Refusal} {x : Layout × ConvergeSummary} → as_converged l a ≡ settle_of l 50 → a ≡ Ok x
      → settled_as x ≡ settle_of l 50
  unfolding as_converged told_by
  settled_result e told = subst (λ y. as_converged l y ≡ settle_of l 50) told e
