-- A read into the part of a buffer behind what is filled.
use Rattle.std.proofs.Common.{◌≡◌, ℕ, ◌+◌, ◌≤◌, List, ◌++◌, length, take, ap, sym, ◌∙◌, length-take-le}
use Rattle.std.proofs.Math.Seq.{take-append-add, take-append-le}
use borrow.Rule.Slice.PartMut.{put_mid, post_of}

pub take_more : (a n k : ℕ) (xs ys : List ℕ) → a ≤ length xs → n ≤ length ys → take (a + n) (put_mid a k xs ys) ≡ take a xs ++ take n ys
take_more a n k xs ys within fits =
    let front = take a xs in
    let rest = post_of a k xs in
    ap (λ m. take (m + n) (front ++ (ys ++ rest))) (sym (length-take-le a xs within))
    ∙ take-append-add front (ys ++ rest) n
    ∙ ap (λ zs. front ++ zs) (take-append-le n ys rest fits)
