-- The table in which every edge that the words hold weighs 1: an entry for each bit.
use Rattle.std.specs.Prelude.{ℕ, ◌+◌, ◌*◌, ◌/◌, ◌%◌, ◌<◌, ◌≡◌, refl, Bool, true, false, cond, List, map, length, get_or}
use Rattle.std.proofs.Common.{arith, sym, ap, ap₂, ◌∙◌}
use Rattle.std.proofs.lemmas.List.{length-map}
use Rattle.model.specs.declared.Edge.{Edge}
use Rattle.model.specs.Lists.{one, upto, every, any}
use Rattle.model.specs.Crossings.{bit, linked, edge_weight}
use Rattle.model.specs.Layouts.{table_places, table_weight}
use Rattle.model.specs.Charts.{edge_within, joins, table_in}
use Rattle.laws.specs.Sums.Lists.{length_upto, map_upto_at}
use Rattle.laws.specs.Crossings.Masks.{weight_bit}
use Rattle.laws.specs.Charts.Words.{adjacency_of, adjacency_linked}
use Rattle.laws.specs.Charts.Weights.{WeighedBy, table_weighed, weighed_same}
use Rattle.laws.specs.Graph6.Imports.{unit}

unfoldable pub unit_table : List ℕ → List ℕ
unit_table adj = map (λ i. bit (get_or adj (i / 64) 0) (i % 64)) (upto table_places)

units_size : (adj : List ℕ) → length (unit_table adj) ≡ table_places
unfolding unit_table
units_size adj = length-map (upto table_places) (λ i. bit (get_or adj (i / 64) 0) (i % 64)) ∙ length_upto table_places

pub unit_at : (adj : List ℕ) (u v : ℕ) → u < 64 → v < 64 → table_weight (unit_table adj) u v ≡ one (linked adj u v)
unfolding unit_table table_weight
unit_at adj u v h k =
    let row : (64 * u + v) / 64 ≡ u = omega arith in
    let column : (64 * u + v) % 64 ≡ v = omega arith in
    map_upto_at (λ i. bit (get_or adj (i / 64) 0) (i % 64)) table_places (64 * u + v) (omega arith)
    ∙ ap₂ (λ (a b : ℕ). bit (get_or adj a 0) b) row column
    ∙ sym (weight_bit adj u v)

-- of the words of some edges it is their table where each weighs 1
pub units_listed : (es : List Edge) → every (edge_within 64) es ≡ true → unit_table (adjacency_of es) ≡ table_in es (map (edge_weight unit) es)
unfolding one
units_listed es within =
    weighed_same {U = unit} {W = unit} {es = es} {fs = es} weighed (table_weighed es within) (λ u v. refl) (λ a b. refl)
  where
    by_test : (b : Bool) → one b ≡ cond b 1 0
    by_test true = refl
    by_test false = refl

    weighed : WeighedBy unit es (unit_table (adjacency_of es))
    weighed =
        record {
          size = units_size (adjacency_of es);
          on = λ u v h k. unit_at (adjacency_of es) u v h k ∙ ap one (adjacency_linked es u v h k) ∙ by_test (any (joins u v) es);
        }
