-- Lay and the former rule (document 02, Note 2): "its crossings equal those of the former rule for every ring and start". The record `AsFormerly`, proved of
-- every layout and every start in proofs/AsFormerly.antt.
use Rattle.std.specs.Prelude.{ℕ, ◌≡◌, not, ◌++◌}
use Rattle.model.specs.declared.Layout.{Layout}
use Rattle.model.specs.Answers.{Appended}
use Rattle.model.specs.Lists.{upto, keep}
use Rattle.model.specs.Layouts.{vertex_order, crossings_of}
use Rattle.model.specs.GreedyAppend.{stays}

-- what lay from s gives now is what it gave by the former rule, but for the places of isolated vertices other than s
pub record AsFormerly (l : Layout) (s : ℕ) (now former : Appended) : Type 0 where
  pub refusal : now.refusal ≡ former.refusal
  pub tally : now.tally ≡ former.tally
  pub crossings : crossings_of now.layout ≡ crossings_of former.layout
  pub count : now.layout.count ≡ former.layout.count
  -- accepted, these are taken out of the former order and stand at the back, in rising number
  pub order : now.refusal ≡ 0
      → vertex_order now.layout ≡ keep (stays l.adjacency s) (vertex_order former.layout) ++ keep (λ v. not (stays l.adjacency s v)) (upto l.n)
