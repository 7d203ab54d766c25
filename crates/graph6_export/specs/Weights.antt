-- The export's own check: does every edge weigh 1?
use Rattle.std.specs.Prelude.{ℕ, ◌≡◌, Bool, cond, List, T}
use Rattle.std.proofs.Common.{sym, ap, ◌∙◌}
use Rattle.model.specs.declared.Layout.{Layout}
use Rattle.model.specs.Layouts.{valid}
use Rattle.model.specs.Checks.{refusal}
use Rattle.model.specs.Graph6.{export_checks}
use Rattle.laws.specs.Layouts.Units.{none_above_one}
use Rattle.laws.proofs.Layouts.Units.{unit_asked}

-- its code for a table of weights, or 0
unfoldable pub weight_code : List ℕ → ℕ
weight_code ws = cond (none_above_one ws) 0 26

pub code_of : (ws : List ℕ) {unit b : Bool} → unit ≡ none_above_one ws → unit ≡ b → cond b 0 26 ≡ weight_code ws
unfolding weight_code
code_of ws e h = ap (λ (b : Bool). cond b 0 26) (sym h ∙ e)

-- of a valid layout
pub code_is : (l : Layout) → T (valid l) → {own : ℕ} → own ≡ weight_code l.weights → own ≡ refusal (export_checks l)
unfolding weight_code export_checks refusal
code_is l t e = e ∙ ap (λ (b : Bool). cond b 0 26) (unit_asked l t)
