-- Charts written and read back: what follows from `written_read`, that reading a written chart gives the layout with its true count.
use Rattle.std.specs.Prelude.{ℕ, ◌≡◌, take, T}
use Rattle.std.proofs.Common.{sym, ap, ap₂, ◌∙◌}
use mathlib.Core.List.{List}
use Rattle.model.specs.declared.Layout.{Layout}
use Rattle.model.specs.Answers.{LayoutRead}
use Rattle.model.specs.Layouts.{crossings_of, valid}
use Rattle.model.specs.Charts.{read_of}
use Rattle.model.specs.Writing.{write_of, written_bytes}
use Rattle.model.specs.WrittenCharts.{chart_of, chart_format, with_true_count}
use Rattle.laws.specs.Buffers.Formats.{chart_coded, write_accepted, written_front}
use Rattle.laws.specs.Layouts.Sizes.{Sized}
use Rattle.laws.specs.Charts.Reading.{read_valid, read_sized}
use Rattle.chart_roundtrip.specs.RoundTrip.{written_read, count_unwritten}

-- so with the call itself: where it is accepted, as many bytes of the buffer as it answers are read as the layout with its true count
pub write_then_read : (l : Layout) (buffer : List ℕ) → Sized l → (write_of chart_format l buffer).refusal ≡ 0
    → read_of (take (write_of chart_format l buffer).length (written_bytes chart_format l buffer)) ≡ record { refusal = 0; layout = with_true_count l }
write_then_read l buffer s e =
    ap read_of (written_front chart_coded l buffer e) ∙ written_read l s (write_accepted chart_coded l buffer e).is_valid_lem

-- a count that is true already stays
count_kept : (l : Layout) → l.count ≡ crossings_of l → with_true_count l ≡ l
unfolding with_true_count
count_kept l e = ap (λ (c : ℕ). record { n = l.n; order = l.order; adjacency = l.adjacency; weights = l.weights; count = c }) (sym e)

-- an accepted chart, written and read again, gives the same layout with the same count
pub read_again : (s : List ℕ) → (read_of s).refusal ≡ 0 → read_of (chart_of (read_of s).layout) ≡ read_of s
read_again s e =
    let read = read_valid s e in
    written_read (read_of s).layout (read_sized s) read.0
    ∙ ap₂ (λ (r : ℕ) (l : Layout). record { refusal = r; layout = l }) (sym e) (count_kept (read_of s).layout read.1)

-- a written chart, read and written again, gives the same bytes
pub written_again : (l : Layout) → Sized l → T (valid l) → chart_of (read_of (chart_of l)).layout ≡ chart_of l
written_again l s t = ap (λ (r : LayoutRead). chart_of r.layout) (written_read l s t) ∙ count_unwritten l

-- the bytes tell the layout, but for the count that it carries
pub written_tells : (l m : Layout) → Sized l → T (valid l) → Sized m → T (valid m) → chart_of l ≡ chart_of m → with_true_count l ≡ with_true_count m
written_tells l m s t r u e =
    ap (λ (x : LayoutRead). x.layout) (sym (written_read l s t) ∙ ap read_of e ∙ written_read m r u)

-- so two accepted charts that give the same written bytes give the same layout
pub written_same : (s t : List ℕ) → (read_of s).refusal ≡ 0 → (read_of t).refusal ≡ 0
    → chart_of (read_of s).layout ≡ chart_of (read_of t).layout → read_of s ≡ read_of t
written_same s t p q e = sym (read_again s p) ∙ ap read_of e ∙ read_again t q
