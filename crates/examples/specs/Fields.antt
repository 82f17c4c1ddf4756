-- What contracts can say about `Fields`, the fields of a buffer that have not been yielded.
use Rattle.std.specs.Prelude.{◌≡◌, ℕ, ◌+◌, List, [], ◌++◌, Option, None, Some, Result, Ok, Err, length}
use Rattle.utf16_units.specs.declared.byte_order.Utf16Order.{Ghosts}
use Rattle.utf16string.specs.WStr.{wstr_text}
use Rattle.utf16string.specs.declared.WStr.{WStr}
use Rattle.examples.specs.Records.{IsFieldError, field_bytes}
use Rattle.examples.specs.declared.records.FieldError.{FieldError}
use Rattle.examples.specs.declared.records.Fields.{Fields}

module _ {E : Type 0} {order : Ghosts E} where
  -- the bytes of the fields that were not yielded yet
  abbrev pub fields_rest : Fields E order → List ℕ
  fields_rest fields = fields.rest.now

  -- `fields.offset()`
  abbrev pub fields_offset : Fields E order → ℕ
  fields_offset fields = fields.offset

  -- a call yielded the first field and continues after it; or it yielded the error for what begins
  -- there, and nothing is left; or nothing was left
  abbrev pub GivesField : Fields E order → Option (Result (WStr E order) FieldError) → Fields E order → Type 0
  GivesField old None new = (fields_rest old ≡ []) × (fields_rest new ≡ []) × (fields_offset new ≡ fields_offset old)
  GivesField old (Some (Ok field)) new =
      (fields_rest old ≡ field_bytes order.BIG (wstr_text field) ++ fields_rest new)
      × (fields_offset new ≡ fields_offset old + length (field_bytes order.BIG (wstr_text field)))
  GivesField old (Some (Err e)) new =
      IsFieldError order.BIG (fields_offset old) (fields_rest old) e × (fields_rest new ≡ []) × (fields_offset new ≡ fields_offset old)
