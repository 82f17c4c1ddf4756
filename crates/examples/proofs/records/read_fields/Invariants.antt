use Rattle.std.proofs.Common.{◌≡◌, map}
use Rattle.utf16string.specs.WStr.{wstr_text}
use Rattle.examples.specs.Fields.{fields_offset, fields_rest}
use Rattle.examples.specs.Records.{HoldsFields, fields_size}
use Rattle.examples.proofs.records.read_fields.Given as goal

abbrev pub invariant-loop-field : goal.invariant-loop-field
invariant-loop-field g l =
    HoldsFields g.E.Utf16Order.BIG (map wstr_text l.fields.items) (fields_rest l.field-iterator) l.buffer
    × (fields_offset l.field-iterator ≡ fields_size g.E.Utf16Order.BIG (map wstr_text l.fields.items))
