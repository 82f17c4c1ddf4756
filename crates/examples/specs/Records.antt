-- Fields of a record, one after another: each is a count of code units and then a text of that
-- length.
use Rattle.std.specs.Prelude.{◌≡◌, ◌≢◌, ℕ, ◌+◌, ◌*◌, ◌/◌, ◌<◌, ◌≤◌, Bool, false, List, [], ◌++◌, All, length, take, drop}
use Rattle.std.specs.Char.{IsScalar}
use Rattle.std.specs.List.{flat_map}
use Rattle.byteorder.specs.Endian.{little_number}
use Rattle.utf16string.specs.Encoding.{encode, size}
use Rattle.utf16string.specs.Unit.{unit_bytes}
use Rattle.utf16string.specs.Utf16Error.{IsErrorOf, valid_up_to}
use Rattle.examples.specs.declared.records.FieldError.{FieldError}
use Rattle.examples.specs.declared.records.FieldErrorKind.{FieldErrorKind}
use Rattle.examples.specs.declared.records.FieldErrorKind.TheVariants.{NoCount, NoText, Short}
use Rattle.examples.specs.declared.records.ReadError.{ReadError}
use Rattle.examples.specs.declared.records.ReadError.TheVariants.{Field, Memory}

-- the bytes of a field: the number of code units of its text, the low byte first, and then the
-- encoding of the text
abbrev pub field_bytes : Bool → List ℕ → List ℕ
field_bytes big text = unit_bytes false (size text / 2) ++ encode big text

-- the buffer is fields with these texts, one after another, and then the rest
pub record HoldsFields (big : Bool) (texts : List (List ℕ)) (rest buffer : List ℕ) : Type 0 where
  pub scalars : All (All IsScalar) texts
  pub spelled : flat_map (field_bytes big) texts ++ rest ≡ buffer

-- the number of bytes of fields with these texts
abbrev pub fields_size : Bool → List (List ℕ) → ℕ
fields_size big texts = length (flat_map (field_bytes big) texts)

-- the number of bytes that the count at the start of the bytes gives: two for each code unit
abbrev pub told_len : List ℕ → ℕ
told_len bytes = 2 * little_number 2 bytes

-- why no field begins at the start of the bytes: the count is truncated; or fewer bytes follow the
-- count than it says; or these bytes are ill-formed
abbrev pub IsFieldErrorKind : Bool → List ℕ → FieldErrorKind → Type 0
IsFieldErrorKind big bytes NoCount = length bytes < 2
IsFieldErrorKind big bytes Short = (2 ≤ length bytes) × (length (drop 2 bytes) < told_len bytes)
IsFieldErrorKind big bytes (NoText e) =
    (2 ≤ length bytes) × (told_len bytes ≤ length (drop 2 bytes)) × IsErrorOf big (take (told_len bytes) (drop 2 bytes)) e

-- the offset of a problem in its field: the start of the count, the start of what follows the
-- count, or the end of the longest valid prefix of the text
abbrev pub place_in : FieldErrorKind → ℕ
place_in NoCount = 0
place_in Short = 2
place_in (NoText e) = 2 + valid_up_to e

-- some bytes are left at an offset of a buffer, and no field begins there: the error gives the
-- place and the reason
pub record IsFieldError (big : Bool) (at : ℕ) (rest : List ℕ) (e : FieldError) : Type 0 where
  pub some : 0 < length rest
  pub field : e.field ≡ at
  pub place : e.place ≡ at + place_in e.fault
  pub fault : IsFieldErrorKind big rest e.fault

-- fields with some texts begin the buffer, and the error is for what follows them
pub record FieldsStopAt (big : Bool) (buffer : List ℕ) (e : FieldError) : Type 0 where
  pub texts : List (List ℕ)
  pub rest : List ℕ
  pub fields : HoldsFields big texts rest buffer
  pub error : IsFieldError big (fields_size big texts) rest e

-- why the fields of a buffer were not read: allocation failed, and the buffer begins with at least
-- one well-formed field, since the first field is the first to allocate; or a field is malformed
abbrev pub IsReadError : Bool → List ℕ → ReadError → Type 0
IsReadError big buffer Memory = (texts : List (List ℕ)) × (rest : List ℕ) × (texts ≢ []) × HoldsFields big texts rest buffer
IsReadError big buffer (Field e) = FieldsStopAt big buffer e
