-- What `list_chart` says of the buffer that it is lent.
use Rattle.std.proofs.Common.{◌≡◌, ℕ, ◌≤◌, List, ◌++◌, arith, length, take, drop, le-ltb}
use Rattle.std.proofs.Math.Seq.{take-append_seam}
use Rattle.model.specs.Listing.{listing_of, listed_length, listed_bytes}
use Rattle.listing.specs.Text.{listed_fits}

-- the listing lies within the buffer
pub listed_within : (s buffer : List ℕ) {after : List ℕ} {n : ℕ} → n ≡ listed_length s buffer → after ≡ listed_bytes s buffer → length after ≡ length buffer → n ≤ length after
listed_within s buffer size bytes same_size = omega (arith, listed_fits s buffer bytes same_size)

-- what a buffer with room holds at its start is the listing
pub listed_text : (s buffer : List ℕ) {after : List ℕ} {n : ℕ} → 1024 ≤ length buffer → n ≡ listed_length s buffer → after ≡ listed_bytes s buffer → take n after ≡ listing_of s
unfolding listed_length listed_bytes
listed_text s buffer {after} {n} room size bytes =
    let e = le-ltb (length buffer) 1024 room in
    let text = listing_of s in
    let n_lem : n ≡ length text = rw e at size in
    let after_lem : after ≡ text ++ drop (length text) buffer = rw e at bytes in
    rw (n_lem, after_lem) (take-append_seam text (drop (length text) buffer))
