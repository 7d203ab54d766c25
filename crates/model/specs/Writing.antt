-- A lent buffer or table filled from its start, in a format that gives the bytes or numbers of each layout: a layout written out as a chart (document 02,
-- Note 1; WrittenCharts) or in graph6 (Note 4; Graph6), and the crossings of every edge (Note 7; EdgeCrossings).
use Rattle.std.specs.Prelude.{ℕ, List, [], ◌∷◌, ◌++◌, length, drop}
use Rattle.model.specs.declared.Layout.{Layout}
use Rattle.model.specs.declared.LayoutWritten.{LayoutWritten}
use Rattle.model.specs.Checks.{Check, checked, is_valid, room_for}

-- ---- in any format

pub record Format : Type 0 where
  -- what is filled in
  pub entries : Layout → List ℕ
  -- its own checks, asked after 11 and before the room
  pub checks : Layout → List Check
  -- the refusal code of too short a buffer
  pub short : ℕ

module _ (f : Format) (l : Layout) (buffer : List ℕ) where
  -- 11, the format's own, and then the room
  abbrev pub fill_checks : List Check
  fill_checks = is_valid l ∷ (f.checks l ++ (room_for f.short (f.entries l) buffer ∷ []))

  -- the refusal code and how many entries are written, none where it is refused
  abbrev pub fill_answer : {A : Type 0} → (ℕ → ℕ → A) → A
  fill_answer answer = checked fill_checks (answer 0 (length (f.entries l))) (λ r. answer r 0)

  -- the buffer's entries after the call: those beyond what is written keep their contents
  abbrev pub filled : List ℕ
  filled = checked fill_checks (f.entries l ++ drop (length (f.entries l)) buffer) (λ r. buffer)

-- ---- a layout written out

abbrev pub write_answer : ℕ → ℕ → LayoutWritten
write_answer r length = record { refusal = r; length = length }

module _ (f : Format) (l : Layout) (buffer : List ℕ) where
  -- "It answers the chart's length"; "it answers its length"
  unfoldable pub write_of : LayoutWritten
  write_of = fill_answer f l buffer write_answer

  -- the buffer's bytes after the call: "buffer bytes beyond the chart keep their contents"; "keeps buffer bytes beyond it"
  unfoldable pub written_bytes : List ℕ
  written_bytes = filled f l buffer
