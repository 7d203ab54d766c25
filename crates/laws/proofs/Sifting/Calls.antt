-- The calls sift, round and settle keep a valid layout valid and a right count right.
use Rattle.std.specs.Prelude.{ℕ}
use Rattle.std.proofs.Math.Path.{refl}
use Rattle.model.specs.declared.Layout.{Layout}
use Rattle.model.specs.Sifting.{sift_of, round_of}
use Rattle.model.specs.Sifting.{settle_of}
use Rattle.laws.specs.Layouts.Reordering.{Keeps, same_keeps}
use Rattle.laws.specs.Sifting.Candidates.{Rearranged, sifted_rearranged}
use Rattle.laws.proofs.Sifting.Candidates.{rearranged_count}
use Rattle.laws.specs.Sifting.Rounds.{round_reduced, settled_rearranged}
use Rattle.laws.specs.Sifting.Calls.{sift_either, round_either, settle_either}

rearranged_keeps : {l m : Layout} → Rearranged l m → Keeps l m
rearranged_keeps p t = (p.valid_after, rearranged_count t p)

-- ---- sift

module _ (l : Layout) (u : ℕ) where
  pub sift_keeps : Keeps l (sift_of l u).layout
  sift_keeps = sift_either l u (Keeps l) (λ t h. rearranged_keeps (sifted_rearranged l t u h)) (same_keeps refl)

-- ---- round

module _ (l : Layout) where
  pub round_keeps : Keeps l (round_of l).layout
  round_keeps = round_either l (Keeps l) (λ t. rearranged_keeps (round_reduced l t).rearranged) (same_keeps refl)

-- ---- settle

module _ (l : Layout) (limit : ℕ) where
  pub settle_keeps : Keeps l (settle_of l limit).layout
  settle_keeps = settle_either l limit (Keeps l) (λ t. rearranged_keeps (settled_rearranged limit l t)) (same_keeps refl)
