-- The bytes of an input before its text. An order is `Some true` for big endian, `Some false` for
-- little endian, and `None` if the BOM gives it.
use Rattle.std.specs.Prelude.{ℕ, ◌-◌, Bool, List, Option, length}
use Rattle.utf16_streams.specs.Bom.{text_in}

-- the number of bytes before the text: the length of the BOM, or 0
abbrev pub bom_len : Option Bool → List ℕ → ℕ
bom_len order bytes = length bytes - length (text_in order bytes)
