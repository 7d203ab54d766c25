-- A layout with its weights forgotten, and its count modulo 2^32. What it is made of by an edit or a sift is what the former definitions make of it, where its
-- weights agree with its words: proofs/Forgetting.antt.
use Rattle.std.specs.Prelude.{ℕ, ◌+◌, ◌-◌, ◌%◌, ◌≡◌, take}
use Rattle.std.proofs.Common.{arith, sym, ◌∙◌}
use mathlib.Core.List.{List}
use Rattle.model.specs.declared.Layout.{Layout}
use Rattle.model.specs.declared.Outcome.{Outcome}
use Rattle.model.specs.Crossings.{crossing_pairs, unit_weight, crossings}
use Rattle.model.specs.Layouts.{vertex_order, table_weight, weight, crossings_of, modulus, carried}
use Rattle.model.specs.Former.{FormerLayout, FormerOutcome, former_outcome, former_crossings, former_modulus, former_carried}
use Rattle.laws.specs.Crossings.Units.{unit_crossings}
use Rattle.laws.specs.Crossings.Agreeing.{agreeing_crossings}
use Rattle.laws.specs.Layouts.Units.{Agrees, Agreeing}

abbrev pub forget : Layout → FormerLayout
forget l = record { n = l.n; order = l.order; adjacency = l.adjacency; count = l.count % former_modulus }

abbrev pub forget_outcome : Outcome → FormerOutcome
forget_outcome a = former_outcome a.refusal (forget a.layout) a.first a.second a.third a.fourth

-- the crossings are then the pairs of edges that cross
pub same_crossings : (n : ℕ) (o adj ws : List ℕ) → Agrees n adj ws → crossings n o (table_weight ws) ≡ crossing_pairs n o adj
same_crossings n o adj ws a = agreeing_crossings n (table_weight ws) (unit_weight adj) a.agrees o ∙ unit_crossings n o adj

pub forgotten_crossings : (l : Layout) → Agreeing l → former_crossings (forget l) ≡ crossings_of l
unfolding former_crossings crossings_of vertex_order weight
forgotten_crossings l a = sym (same_crossings l.n (take l.n l.order) l.adjacency l.weights a)

-- the count, modulo 2^32
twice_less : (x : ℕ) → x % modulus % former_modulus ≡ x % former_modulus
twice_less x = omega arith

less_alike : (x : ℕ) → (modulus - x % modulus) % former_modulus ≡ (former_modulus - x % former_modulus) % former_modulus
less_alike x = omega arith

sum_alike : (c a y z : ℕ) → y % former_modulus ≡ z % former_modulus → (c + a + y) % former_modulus ≡ (c % former_modulus + a + z) % former_modulus
sum_alike c a y z e = omega arith

pub carried_formerly : (count before after : ℕ) → carried count before after % former_modulus ≡ former_carried (count % former_modulus) before after
unfolding carried former_carried
carried_formerly count before after =
    twice_less (count + after + (modulus - before % modulus))
    ∙ sum_alike count after (modulus - before % modulus) (former_modulus - before % former_modulus) (less_alike before)
