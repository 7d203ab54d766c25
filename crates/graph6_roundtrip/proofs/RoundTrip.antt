-- Graphs exported and imported, and imported and exported: what follows from `exported_imported` and `imported_exported`.
use Prim.Native.Nat.{ℕ, ◌≤◌}
use Rattle.std.proofs.Common.{arith, ◌∙◌}
use Rattle.std.specs.Prelude.{◌≡◌, take}
use Rattle.std.proofs.Math.Path.{sym, ap}
use mathlib.Core.List.{List, ◌++◌}
use Rattle.std.proofs.Math.ListN.{length, drop}
use Rattle.model.specs.declared.Layout.{Layout}
use Rattle.model.specs.Answers.{LayoutRead}
use Rattle.model.specs.Checks.{refusal}
use Rattle.model.specs.Writing.{write_of, written_bytes}
use Rattle.model.specs.Graph6.{graph6_of, graph6_size, graph6_data}
use Rattle.model.specs.Graph6.{export_checks, graph6_format, graph6_layout, import_of, in_rising_order}
use Rattle.laws.specs.Layouts.Sizes.{Sized}
use Rattle.laws.specs.Buffers.Formats.{graph6_coded, Fits, write_accepted, write_accepts, written_front}
use Rattle.laws.specs.Graph6.Imports.{import_is, edges_accepted, imported_graph6, imported_valid}
use Rattle.graph6_roundtrip.specs.Ones.{export_passes, made_passes}
use Rattle.graph6_roundtrip.specs.RoundTrip.{exported_imported, imported_exported}

-- so with the call itself: where it is accepted, as many bytes of the buffer as it answers are imported so
pub export_then_import : (l : Layout) (buffer : List ℕ) → Sized l → (write_of graph6_format l buffer).refusal ≡ 0
    → import_of (take (write_of graph6_format l buffer).length (written_bytes graph6_format l buffer)) ≡ record { refusal = 0; layout = in_rising_order l }
export_then_import l buffer s e =
    let accepted = write_accepted graph6_coded l buffer e in
    ap import_of (written_front graph6_coded l buffer e) ∙ exported_imported l s accepted.is_valid_lem (export_passes l accepted.own)

-- each edge weighs 1
imported_passes : (s : List ℕ) → (import_of s).refusal ≡ 0 → refusal (export_checks (import_of s).layout) ≡ 0
unfolding graph6_layout
imported_passes s e =
    ap (λ (r : LayoutRead). refusal (export_checks r.layout)) (import_is s e)
    ∙ made_passes (edges_accepted (graph6_size s) (graph6_data s) (imported_graph6 s e).few)

-- so with the call itself, into a buffer that is long enough: "it answers its length and keeps buffer bytes beyond it"
pub import_then_export : (s buffer : List ℕ) → (import_of s).refusal ≡ 0 → length s ≤ length buffer
    → (write_of graph6_format (import_of s).layout buffer ≡ record { refusal = 0; length = length s })
    × (written_bytes graph6_format (import_of s).layout buffer ≡ s ++ drop (length s) buffer)
import_then_export s buffer e room =
    let same = imported_exported s e in
    let fits : Fits graph6_format (import_of s).layout buffer =
    record { is_valid_lem = (imported_valid s e).0; own = imported_passes s e; room = omega (arith, ap length same) } in
    let call = write_accepts graph6_coded (import_of s).layout buffer fits in (
      call.0 ∙ ap (λ (x : List ℕ). record { refusal = 0; length = length x }) same,
      call.1 ∙ ap (λ (x : List ℕ). x ++ drop (length x) buffer) same,
    )

-- ---- what follows

-- an accepted import, exported and imported again, is the same layout with the same count
pub imported_again : (s : List ℕ) → (import_of s).refusal ≡ 0 → import_of (graph6_of (import_of s).layout) ≡ import_of s
imported_again s e = ap import_of (imported_exported s e)

-- two accepted inputs that give the same layout are the same bytes
pub imports_tell : (s t : List ℕ) → (import_of s).refusal ≡ 0 → (import_of t).refusal ≡ 0 → (import_of s).layout ≡ (import_of t).layout → s ≡ t
imports_tell s t p q e = sym (imported_exported s p) ∙ ap graph6_of e ∙ imported_exported t q
