-- Edges that all weigh 1: the weights of a layout that is exported, and of one that was imported.
use Rattle.std.specs.Prelude.{ℕ, ◌≡◌, refl, Bool, true, false, cond, List, [], ◌∷◌, map, length, replicate, T, eqb}
use Rattle.std.proofs.Common.{lt_of_lt_of_le, arith, sym, ap, ap₂, ◌∙◌, subst, eqb-true, eq-eqb}
use Rattle.std.proofs.lemmas.List.{length-map}
use Rattle.model.specs.declared.Edge.{Edge}
use Rattle.model.specs.declared.Layout.{Layout}
use Rattle.model.specs.Lists.{one, every, any}
use Rattle.model.specs.Crossings.{edges, unit_weight, edge_weight}
use Rattle.model.specs.Layouts.{table_weight, weight, valid}
use Rattle.model.specs.Checks.{refusal}
use Rattle.model.specs.Charts.{same_edge, edge_within, joins, table_in, layout_with}
use Rattle.model.specs.WrittenCharts.{weights_of, unit_weighted}
use Rattle.model.specs.Graph6.{export_checks}
use Rattle.laws.specs.Sums.Indicators.{T_true, both_left, both_right}
use Rattle.laws.specs.Sums.Lists.{all_both, all_mono}
use Rattle.laws.specs.Sums.Every.{every_all}
use Rattle.laws.specs.Sums.Below.{every_map}
use Rattle.laws.specs.Crossings.Edges.{edges_within, edge_ends}
use Rattle.laws.specs.Crossings.Units.{unit_weights}
use Rattle.laws.specs.Layouts.Sizes.{Sized}
use Rattle.laws.specs.Layouts.Refusals.{passed}
use Rattle.laws.specs.Charts.Ends.{edge, within_mono}
use Rattle.laws.specs.Charts.Words.{adjacency_of, adjacency_linked}
use Rattle.laws.specs.Charts.Weights.{table_weighed, same_tables}
use Rattle.laws.specs.Charts.Layouts.{Accepted}
use Rattle.laws.specs.Charts.Reading.{joins_member}
use Rattle.laws.specs.Charts.EdgeWeights.{listed_within, table_again}
use Rattle.laws.specs.Graph6.Imports.{unit, unit_listed}

-- numbers that are all 1
ones_are : (ws : List ℕ) → every (eqb 1) ws ≡ true → ws ≡ replicate (length ws) 1
unfolding every
ones_are [] t = refl
ones_are (w ∷ ws) t =
    ap₂ (λ (x : ℕ) (xs : List ℕ). x ∷ xs) (sym (eqb-true 1 w (both_left (eqb 1 w) (every (eqb 1) ws) t)))
    (ones_are ws (both_right (eqb 1 w) (every (eqb 1) ws) t))

-- ---- exported

-- the check of the export
pub export_passes : (l : Layout) → refusal (export_checks l) ≡ 0 → T (unit_weighted l)
unfolding export_checks
export_passes l e = subst T (sym (passed _ [] (omega arith) e).passes) tt

-- the edges in any sequence, each with the weight 1, give the table again
pub ones_again : (l : Layout) → T (valid l) → Sized l → T (unit_weighted l) → (es : List Edge) → every (edge_within 64) es ≡ true
    → ((e : Edge) → any (same_edge e) es ≡ any (same_edge e) (edges l.n l.adjacency)) → table_in es (replicate (length es) 1) ≡ l.weights
unfolding unit_weighted weights_of
ones_again l t z w es within same =
    let listed = edges l.n l.adjacency in
    ap (table_in es) (unit_listed es)
    ∙ same_tables unit unit es listed within (listed_within l t z) (λ u v. joins_member u v es ∙ same (edge u v) ∙ sym (joins_member u v listed)) (λ a b. refl)
    ∙ ap (table_in listed) (sym ones)
    ∙ table_again l t z
  where
    ones : weights_of l ≡ map (edge_weight unit) (edges l.n l.adjacency)
    ones =
        ones_are (weights_of l) (T_true (unit_weighted l) w)
        ∙ ap (λ (k : ℕ). replicate k 1) (length-map (edges l.n l.adjacency) (edge_weight (weight l)))
        ∙ unit_listed (edges l.n l.adjacency)

-- ---- imported

-- a layout made of edges that weigh 1 passes the check
pub made_passes : {n : ℕ} {es : List Edge} {o : List ℕ} → Accepted n es unit o → refusal (export_checks (layout_with n es (replicate (length es) 1) o)) ≡ 0
unfolding export_checks unit_weighted weights_of weight refusal one
made_passes {n} {es} {o} a =
    ap (λ (ws : List ℕ). cond (every (eqb 1) (map (edge_weight (table_weight (table_in es ws))) (edges n (adjacency_of es)))) 0 26) (unit_listed es)
    ∙ ap (λ (b : Bool). cond b 0 26) passes
  where
    table : List ℕ
    table = table_in es (map (edge_weight unit) es)

    joined : (b : Bool) → cond b 1 0 ≡ one b
    joined true = refl
    joined false = refl

    weighs : (e : Edge) → edge_within n e ≡ true → edge_weight (table_weight table) e ≡ edge_weight (unit_weight (adjacency_of es)) e
    weighs e h =
        let low = lt_of_lt_of_le (edge_ends n e h).0 a.few in
        let high = lt_of_lt_of_le (edge_ends n e h).1 a.few in
        (table_weighed {W = unit} es (within_mono n 64 a.few es a.within)).on e.low e.high low high
        ∙ joined (any (joins e.low e.high) es)
        ∙ sym (ap one (adjacency_linked es e.low e.high low high))

    passes : every (eqb 1) (map (edge_weight (table_weight table)) (edges n (adjacency_of es))) ≡ true
    passes =
        every_map (eqb 1) (edge_weight (table_weight table)) (edges n (adjacency_of es))
        ∙ every_all
        (all_mono (all_both (edges_within n (adjacency_of es)) (unit_weights n (adjacency_of es)))
        (λ e h. eq-eqb 1 (edge_weight (table_weight table) e) (sym (weighs e h.0 ∙ h.1))))
