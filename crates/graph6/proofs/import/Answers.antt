use Rattle.std.specs.Prelude.{ℕ, ◌≤◌, List, length}
use Rattle.std.proofs.Common.{rules, arith, ◌∙◌}
use Rattle.graph6.specs.Importing.{SizeRead, size_read, size_refused, behind_size}
use Rattle.graph6.proofs.import.Goals as goal
use Rattle.graph6.proofs.import.Goals.{After-size_length-start}

abbrev input : After-size_length-start → List ℕ
input c = c.args.bytes.now

-- the number of vertices that was found
sized : (c : After-size_length-start) → SizeRead (input c) c.in-Ok.n
sized c = size_read c.in-Ok.is c.find_size-found.ensures

-- its size part is there
there : (c : After-size_length-start) → c.size_length-start.result ≤ length (input c)
there c = omega (arith, c.size_length-start.ensures, (sized c).inside)

pub returns-in_default : goal.returns-in_default
returns-in_default c = size_refused _ c.unwrap_err.ensures c.find_size-found.ensures

pub slice_bounds-import_bits-count : goal.slice_bounds-import_bits-count
slice_bounds-import_bits-count c = there c

pub slice_bounds-import_bits-start : goal.slice_bounds-import_bits-start
slice_bounds-import_bits-start c = let fits = there c in search rules

pub import_bits-requires : goal.import_bits-requires
import_bits-requires c = omega (arith, (sized (goal.at.import_bits-requires c).After-size_length-start).small)

pub returns : goal.returns
returns c =
    c.import_bits.ensures ∙ behind_size (sized (goal.at.returns c).After-size_length-start) c.size_length-start.ensures
