-- Reading a chart without field 57, or a graph in graph6, gives what it gave formerly, refusals too.
use Rattle.std.specs.Prelude.{ℕ, ◌≡◌, eqb}
use Rattle.std.proofs.Common.{◌∙◌}
use Rattle.std.proofs.Math.Path.{refl, ap}
use Rattle.std.proofs.Math.Bool.{true, false}
use mathlib.Core.List.{List}
use Rattle.model.specs.Lists.{every}
use Rattle.model.specs.Layouts.{empty_layout}
use Rattle.model.specs.Charts.{tags_of, chart_size, chart_edges, chart_order, chart_weights, same_list, weighted_tags}
use Rattle.model.specs.Charts.{chart_checks, chart_layout, read_of}
use Rattle.model.specs.Graph6.{graph6_checks, import_of}
use Rattle.model.specs.Former.{FormerLayout, former_empty, former_layout_with, former_chart_checks, former_read_of, former_import_of}
use Rattle.laws.specs.Charts.Reading.{read_number, accepted, layout_listed}
use Rattle.laws.specs.Graph6.Imports.{import_number}
use Rattle.former.specs.Forgetting.{forget}
use Rattle.former.specs.AsBefore.{checked_shown}
use Rattle.former.specs.Starts.{made_formerly, weights_one, without_ones, forget_read, no_fourth, same_number, tags_plain, unit_ones, es, unit_layout, import_accepted}

module _ (s : List ℕ) (e : (read_of s).refusal ≡ 0) (t : every (eqb 1) (chart_weights s) ≡ true) where
  chart_formerly : forget (chart_layout s) ≡ former_layout_with (chart_size s) (chart_edges s) (chart_order s)
  chart_formerly = ap forget (layout_listed s e) ∙ made_formerly (accepted s e) (weights_one s e t)

module _ (s : List ℕ) (plain : same_list (tags_of s) weighted_tags ≡ false) where
  -- a chart whose fields are not 44, 4C, 52 and 57
  pub read_formerly : forget_read (read_of s) ≡ former_read_of s
  unfolding read_of former_read_of empty_layout former_empty
  read_formerly =
      checked_shown forget_read (chart_checks s) (former_chart_checks s) (same_number s plain)
      (λ z.
      ap (λ (m : FormerLayout). record { refusal = 0; layout = m })
      (chart_formerly s (read_number s ∙ z) (without_ones s (no_fourth s (tags_plain s plain z)))))
      (λ k. refl)

module _ (s : List ℕ) where
  pub import_formerly : forget_read (import_of s) ≡ former_import_of s
  unfolding import_of former_import_of empty_layout former_empty
  import_formerly =
      checked_shown forget_read (graph6_checks s) (graph6_checks s) refl
      (λ z.
      ap (λ (m : FormerLayout). record { refusal = 0; layout = m })
      (ap forget (unit_layout s) ∙ made_formerly (import_accepted s (import_number s ∙ z)) (unit_ones (es s))))
      (λ k. refl)
