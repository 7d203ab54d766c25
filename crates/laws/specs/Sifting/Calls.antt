-- The calls sift, round and settle: what an accepted one may count on and gives, and that a refused one changes nothing.
use Rattle.std.specs.Prelude.{ℕ, ◌≤◌, ◌<◌, ◌≡◌, length, T, leb}
use Rattle.std.proofs.Common.{arith, sym, ap, ◌∙◌, le→leb, lt→ltb}
use Rattle.std.proofs.Math.Path.{refl}
use mathlib.Core.List.{[], ◌∷◌}
use borrow.Author.Tests.{leb-true}
use Rattle.model.specs.declared.Layout.{Layout}
use Rattle.model.specs.Answers.{Sifted}
use Rattle.model.specs.Answers.{Rounded}
use Rattle.model.specs.Answers.{Converged}
use Rattle.model.specs.Layouts.{valid}
use Rattle.model.specs.Checks.{refusal, is_valid, is_vertex, limit_fits}
use Rattle.model.specs.Sifting.{sifted, sift_checks, sift_answer, sift_refused, sift_of, sift_round, swept, round_refused, round_of, rounds_up_to, settled}
use Rattle.model.specs.Sifting.{settle_checks, settle_refused, settle_of}
use Rattle.laws.specs.Sums.Indicators.{and_intro, both_left, both_right}
use Rattle.laws.specs.Sums.Lists.{none, also}
use Rattle.laws.specs.Layouts.Sizes.{Sized}
use Rattle.laws.specs.Layouts.Refusals.{passed, valid_passed, vertex_passed, all_passed, when_accepted, when_refused, checked_number, checked_either}
use Rattle.laws.specs.Sifting.Candidates.{Rearranged, sifted_rearranged}
use Rattle.laws.specs.Sifting.Rounds.{round_reduced, settled_rearranged}

-- ---- sift

module _ (l : Layout) (u : ℕ) where
  sift_number : (sift_of l u).refusal ≡ refusal (sift_checks l u)
  unfolding sift_of
  sift_number = checked_number (sift_checks l u) (sift_answer l u) (sift_refused l) (λ (s : Sifted). s.refusal) refl (λ r. refl)

  pub sift_passed : (sift_of l u).refusal ≡ 0 → T (valid l) × (u < l.n)
  unfolding sift_checks
  sift_passed e = vertex_passed l u (sym sift_number ∙ e)

  pub sift_accepted : T (valid l) → u < l.n → sift_of l u ≡ sift_answer l u
  unfolding sift_of sift_checks is_valid is_vertex
  sift_accepted t h = when_accepted (sift_checks l u) (sift_answer l u) (sift_refused l) (all_passed (also t (also (lt→ltb u l.n h) none)))

  pub sift_refused_lem : ((sift_of l u).refusal ≡ 0 → ⊥) → sift_of l u ≡ sift_refused l (sift_of l u).refusal
  unfolding sift_of
  sift_refused_lem d = when_refused (sift_checks l u) (sift_answer l u) (sift_refused l) sift_number d

  -- what holds of the layout before, and of the layout that an accepted sift gives, holds of the layout that is answered
  pub sift_either : (P : Layout → Type 0) → (T (valid l) → u < l.n → P (sifted l u)) → P l → P (sift_of l u).layout
  unfolding sift_of sift_checks
  sift_either P a r =
      checked_either (sift_checks l u) (sift_answer l u) (sift_refused l) (λ (s : Sifted). P s.layout)
      (λ e. (let passed = vertex_passed l u e in a passed.0 passed.1)) (λ k. r)

-- ---- round

module _ (l : Layout) where
  round_number : (round_of l).refusal ≡ refusal (is_valid l ∷ [])
  unfolding round_of sift_round swept
  round_number =
      checked_number (is_valid l ∷ []) (sift_round l) (round_refused l) (λ (r : Rounded). r.refusal) refl (λ r. refl)

  pub round_passed : (round_of l).refusal ≡ 0 → T (valid l)
  round_passed e = (valid_passed l [] (sym round_number ∙ e)).0

  pub round_accepted : T (valid l) → round_of l ≡ sift_round l
  unfolding round_of is_valid
  round_accepted t = when_accepted (is_valid l ∷ []) (sift_round l) (round_refused l) (all_passed (also t none))

  pub round_refused_lem : ((round_of l).refusal ≡ 0 → ⊥) → round_of l ≡ round_refused l (round_of l).refusal
  unfolding round_of
  round_refused_lem d = when_refused (is_valid l ∷ []) (sift_round l) (round_refused l) round_number d

  pub round_either : (P : Layout → Type 0) → (T (valid l) → P (sift_round l).layout) → P l → P (round_of l).layout
  unfolding round_of
  round_either P a r =
      checked_either (is_valid l ∷ []) (sift_round l) (round_refused l) (λ (s : Rounded). P s.layout) (λ e. a (valid_passed l [] e).0) (λ k. r)

-- ---- settle

module _ (l : Layout) (limit : ℕ) where
  settle_number : (settle_of l limit).refusal ≡ refusal (settle_checks l limit)
  unfolding settle_of rounds_up_to settled
  settle_number =
      checked_number (settle_checks l limit) (rounds_up_to limit l) (settle_refused l) (λ (c : Converged). c.refusal) refl (λ r. refl)

  pub limit_passed : refusal (settle_checks l limit) ≡ 0 → T (valid l) × (1 ≤ limit) × (limit ≤ 1000)
  unfolding settle_checks limit_fits
  limit_passed e =
      let first = valid_passed l (limit_fits limit ∷ []) e in
      let fits = (passed (limit_fits limit) [] (omega arith) first.1).passes in
      (first.0, leb-true 1 limit (both_left (leb 1 limit) (leb limit 1000) fits), leb-true limit 1000 (both_right (leb 1 limit) (leb limit 1000) fits))

  pub settle_passed : (settle_of l limit).refusal ≡ 0 → T (valid l) × (1 ≤ limit) × (limit ≤ 1000)
  settle_passed e = limit_passed (sym settle_number ∙ e)

  pub settle_accepted : T (valid l) → 1 ≤ limit → limit ≤ 1000 → settle_of l limit ≡ rounds_up_to limit l
  unfolding settle_of settle_checks is_valid limit_fits
  settle_accepted t h k =
      when_accepted (settle_checks l limit) (rounds_up_to limit l) (settle_refused l)
      (all_passed (also t (also (and_intro (leb 1 limit) (leb limit 1000) (le→leb 1 limit h) (le→leb limit 1000 k)) none)))

  pub settle_refused_lem : ((settle_of l limit).refusal ≡ 0 → ⊥) → settle_of l limit ≡ settle_refused l (settle_of l limit).refusal
  unfolding settle_of
  settle_refused_lem d = when_refused (settle_checks l limit) (rounds_up_to limit l) (settle_refused l) settle_number d

  pub settle_either : (P : Layout → Type 0) → (T (valid l) → P (rounds_up_to limit l).layout) → P l → P (settle_of l limit).layout
  unfolding settle_of settle_checks
  settle_either P a r =
      checked_either (settle_checks l limit) (rounds_up_to limit l) (settle_refused l) (λ (s : Converged). P s.layout)
      (λ e. a (valid_passed l (limit_fits limit ∷ []) e).0) (λ k. r)

-- ---- the arrays keep their places

module _ (l : Layout) (s : Sized l) where
  rearranged_sized : {m : Layout} → Rearranged l m → Sized m
  rearranged_sized p =
      record { places = p.same_places ∙ s.places; words = ap length p.same_adjacency ∙ s.words; table = ap length p.same_weights ∙ s.table }

  pub sift_sized : (u : ℕ) → Sized (sift_of l u).layout
  sift_sized u = sift_either l u Sized (λ t h. rearranged_sized (sifted_rearranged l t u h)) s

  pub round_sized : Sized (round_of l).layout
  round_sized = round_either l Sized (λ t. rearranged_sized (round_reduced l t).rearranged) s

  pub settle_sized : (limit : ℕ) → Sized (settle_of l limit).layout
  settle_sized limit = settle_either l limit Sized (λ t. rearranged_sized (settled_rearranged limit l t)) s
