-- What a clause sees of a `WStr`.
use Rattle.std.specs.Prelude.{ℕ, List}
use Rattle.utf16_units.specs.declared.byte_order.Utf16Order.{Ghosts}
use Rattle.utf16_units.specs.Encoding.{text_of}
use Rattle.utf16_str.specs.declared.wstr.WStr.{WStr}

module _ {E : Type 0} {order : Ghosts E} where
  -- `s.as_bytes()`
  abbrev pub wstr_bytes : WStr E order → List ℕ
  wstr_bytes s = s.raw.now

  -- the characters of the string
  abbrev pub wstr_text : WStr E order → List ℕ
  wstr_text s = text_of order.BIG (wstr_bytes s)
