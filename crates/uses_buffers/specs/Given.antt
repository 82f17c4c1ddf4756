-- The state of a decoder whose BOM gives the byte order, after bytes were given to it.
use Rattle.std.specs.Prelude.{◌≡◌, ℕ, Bool, List, Option}
use Rattle.utf16_tools.specs.Bom.{byte_order_after, tail_in}

-- bytes that are decoded in a byte order leave this byte order and these bytes pending
abbrev pub Leaves : Option Bool → List ℕ → Option Bool → List ℕ → Type 0
Leaves order bytes found pending = (found ≡ byte_order_after order bytes) × (pending ≡ tail_in order bytes)
