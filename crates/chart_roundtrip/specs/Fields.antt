-- The fields of bytes that were written as fields.
use Rattle.std.specs.Prelude.{ℕ, ◌+◌, ◌/◌, ◌%◌, ◌<◌, ◌≡◌, refl, Bool, true, ◌&&◌}
use Rattle.std.proofs.Math.Nat.{div-add-mod}
use Rattle.std.proofs.Common.{arith, ◌∙◌, le-leb}
use Rattle.std.proofs.Math.Path.{ap, ap₂}
use mathlib.Core.List.{List, [], ◌∷◌, ◌++◌, flat_map}
use Rattle.std.proofs.Math.ListN.{length, take, drop, length-append}
use Rattle.std.proofs.Math.Seq.{take-append_seam, drop_at}
use Rattle.model.specs.Charts.{Field, body_length, starts_with_field, first_field, fields_in, fields_of}
use Rattle.model.specs.WrittenCharts.{field_bytes}
use Rattle.laws.specs.Sums.Lists.{All, also}
use Rattle.laws.specs.Charts.Fields.{behind_field, in_front, fields_there}

abbrev pub field_of : ℕ → List ℕ → Field
field_of tag body = record { tag = tag; body = body }

-- a field whose body is of bytes is of bytes
pub field_bytes_lem : (tag : ℕ) {body : List ℕ} → tag < 256 → length body < 65536 → All (λ b. b < 256) body → All (λ b. b < 256) (field_bytes tag body)
unfolding field_bytes
field_bytes_lem tag {body} t h bs =
    let high : length body / 256 < 256 = omega arith in
    let low : length body % 256 < 256 = omega arith in
    also t (also high (also low bs))

-- a field in front of other bytes is read as it was written
module _ (tag : ℕ) (body rest : List ℕ) where
  bytes : List ℕ
  bytes = field_bytes tag body ++ rest

  -- the header gives the length of the body
  header_length : body_length bytes ≡ length body
  unfolding bytes body_length field_bytes
  header_length = div-add-mod (length body) 256

  starts : starts_with_field bytes ≡ true
  unfolding bytes starts_with_field field_bytes
  starts =
      ap₂ (λ (a b : Bool). a && b) (le-leb 3 (length bytes) (omega arith))
      (le-leb (3 + body_length bytes) (length bytes) (omega (arith, header_length, length-append body rest)))

  first_is : first_field bytes ≡ field_of tag body
  unfolding bytes first_field field_bytes
  first_is = ap (field_of tag) (ap (λ (k : ℕ). take k (body ++ rest)) header_length ∙ take-append_seam body rest)

  behind_is : behind_field bytes ≡ rest
  unfolding bytes behind_field field_bytes
  behind_is = ap (λ (k : ℕ). drop (3 + k) bytes) header_length ∙ drop_at (field_bytes tag body) rest (3 + length body) (omega arith)

  field_first : fields_of (field_bytes tag body ++ rest) ≡ in_front (field_of tag body) (fields_of rest)
  unfolding bytes
  field_first = fields_there bytes starts ∙ ap₂ in_front first_is (ap fields_of behind_is)

-- some fields, one after the other
unfoldable pub all_bytes : List Field → List ℕ
all_bytes fs = flat_map (λ f. field_bytes f.tag f.body) fs

-- they are read as they were written
pub fields_read : (fs : List Field) → fields_of (all_bytes fs) ≡ record { complete = true; fields = fs }
unfolding all_bytes flat_map in_front fields_of fields_in
fields_read [] = refl
fields_read (f ∷ fs) = field_first f.tag f.body (all_bytes fs) ∙ ap (in_front f) (fields_read fs)
