use Rattle.std.proofs.Common.{◌+◌, ◌*◌, ◌≤◌, take}
use mathlib.Core.List.{flat_map}
use Rattle.model.specs.Listing.{spaced}
use Rattle.laws.specs.Buffers.Writing.{Written}
use Rattle.decimals.proofs.each_byte.Given as goal

abbrev pub invariant-loop-byte : goal.invariant-loop-byte
invariant-loop-byte l =
    (l.to ≤ l.at + 4 * l.byte-index) × Written l.initial.out l.at (flat_map spaced (take l.byte-index l.bytes)) l.out l.to
