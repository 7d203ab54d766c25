-- What a layout with its weights forgotten is made of by an edit or a sift is what the former definitions make of it.
use Rattle.std.specs.Prelude.{ℕ, ◌%◌, ◌≡◌, take, drop}
use Rattle.std.proofs.Common.{sym, ap, ◌∙◌}
use Rattle.std.proofs.Math.Path.{refl, ap₂}
use mathlib.Core.List.{List, [], ◌∷◌, ◌++◌, map}
use Rattle.model.specs.declared.Layout.{Layout}
use Rattle.model.specs.Lists.{All, none, also}
use Rattle.model.specs.Crossings.{crossings}
use Rattle.model.specs.Layouts.{vertex_order, table_weight, weight, crossings_of, changed, reordered}
use Rattle.model.specs.Edits.{moved_after}
use Rattle.model.specs.Sifting.{clockwise_from, candidate_layouts, ring}
use Rattle.model.specs.Former.{FormerLayout, former_order, former_modulus, former_carried, former_changed}
use Rattle.model.specs.Former.{former_reordered, former_candidates, former_ring}
use Rattle.laws.specs.Sifting.Images.{Shows}
use Rattle.laws.specs.Layouts.Units.{Agrees, Agreeing}
use Rattle.former.specs.Forgetting.{forget, same_crossings, forgotten_crossings, carried_formerly}

pub forgotten_changed : (l : Layout) (n : ℕ) (order adj ws : List ℕ) → Agreeing l → Agrees n adj ws
    → forget (changed l n order adj ws) ≡ former_changed (forget l) n order adj
unfolding changed former_changed crossings_of vertex_order weight
forgotten_changed l n order adj ws a b =
    ap (λ (c : ℕ). record { n = n; order = order; adjacency = adj; count = c })
    (carried_formerly l.count (crossings_of l) (crossings n (take n order) (table_weight ws))
    ∙ ap₂ (former_carried (l.count % former_modulus)) (sym (forgotten_crossings l a)) (same_crossings n (take n order) adj ws b))

pub forgotten_reordered : (l : Layout) (o : List ℕ) → Agreeing l → forget (reordered l o) ≡ former_reordered (forget l) o
unfolding reordered former_reordered
forgotten_reordered l o a = forgotten_changed l l.n (o ++ drop l.n l.order) l.adjacency l.weights a a

-- ---- sifting

module _ (l : Layout) (a : Agreeing l) (u : ℕ) where
  abbrev at : ℕ → Layout
  at v = reordered l (moved_after u v (vertex_order l))

  shown : (vs : List ℕ) → map (λ v. former_reordered (forget l) (moved_after u v (former_order (forget l)))) vs ≡ map forget (map at vs)
  unfolding vertex_order
  shown [] = refl
  shown (v ∷ vs) = ap₂ (λ (x : FormerLayout) (xs : List FormerLayout). x ∷ xs) (sym (forgotten_reordered l (moved_after u v (vertex_order l)) a)) (shown vs)

  agreeing : (vs : List ℕ) → All Agreeing (map at vs)
  unfolding reordered changed
  agreeing [] = none
  agreeing (v ∷ vs) = also {x = at v} a (agreeing vs)

-- the ring is shown as the former one
pub shows : Shows ring former_ring forget Agreeing
unfolding candidate_layouts former_candidates vertex_order
shows =
    record {
      size = λ l a. refl;
      cost = λ l a. forgotten_crossings l a;
      candidates = λ u l a. shown l a u (clockwise_from u (vertex_order l));
      good = λ u l a. agreeing l a u (clockwise_from u (vertex_order l));
    }
