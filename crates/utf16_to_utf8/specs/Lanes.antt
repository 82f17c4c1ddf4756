-- What lanes of sixteen bits compute of a unit.
use Rattle.std.specs.Prelude.{ℕ, ◌+◌, ◌-◌, ◌*◌, ◌/◌, ◌%◌, ◌^◌, ◌==◌, Bool, nat_lt, bit_and, if◌then◌else◌}

-- `+` and `<<` of a lane wrap
abbrev pub plus : ℕ → ℕ → ℕ
plus a b = (a + b) % 2 ^ 16

abbrev pub up : ℕ → ℕ → ℕ
up a bits = a * 2 ^ bits % 2 ^ 16

-- a surrogate of either class, by its upper five bits
abbrev pub is_surrogate : ℕ → Bool
is_surrogate unit = bit_and unit 0xF800 == 0xD800

-- two bytes, the first in the low half: the tag bits of both, and these payload bits, the last six
-- of them in the second byte
abbrev pub two_bytes : ℕ → ℕ → ℕ
two_bytes marks bits = plus (plus (bits / 2 ^ 6) marks) (up (bit_and bits 0x3F) 8)

-- the payload bits of the two bytes that a surrogate adds, with the tag bits of the first above
-- them
abbrev pub surrogate_bits : ℕ → ℕ → ℕ
surrogate_bits before unit =
    let leading = plus unit 0x2400 / 2 ^ 2 - 0x2F0 in
    let trailing = plus (up (bit_and before 3) 10) (plus unit 0x4400) in
    if nat_lt leading trailing then trailing else leading

-- the two bytes of a unit that adds at most two
abbrev pub narrow : ℕ → ℕ → ℕ
narrow before unit = if nat_lt unit 0x80 then unit else two_bytes 0x8000 (if nat_lt unit 0x8000 then plus unit 0x3000 else surrogate_bits before unit)

-- the first two bytes of a unit that adds three, and the third byte
abbrev pub wide : ℕ → ℕ
wide unit = two_bytes 0x80E0 (unit / 2 ^ 6)

abbrev pub third : ℕ → ℕ
third unit = plus (bit_and unit 0x3F) 0x80

-- the upper bit, if the unit is below U+0800
abbrev pub low : ℕ → ℕ
low unit = bit_and (0x87FF - unit) 0x8000

-- the first byte of a unit that adds three, and above it the only byte of an ASCII unit
abbrev pub outer : ℕ → ℕ
outer unit = plus (up unit 8) (plus (unit / 2 ^ 12) 0xE0)

-- the payload bits of the last two bytes that a unit from U+0080 on adds, with the tag bits of the
-- first one above them
abbrev pub ending_bits : ℕ → ℕ → ℕ
ending_bits before unit = if is_surrogate unit then surrogate_bits before unit else plus (bit_and unit 0xFFF) (plus 0x2000 (low unit / 2 ^ 3))

-- these two bytes
abbrev pub ending : ℕ → ℕ → ℕ
ending before unit = two_bytes 0x8000 (ending_bits before unit)

-- the upper bit, if the unit adds at most two bytes
abbrev pub two : ℕ → ℕ
two unit = if is_surrogate unit then 0x8000 else low unit

-- the upper bit of the low half if the unit adds one byte, and of the high half if it adds at most
-- two
abbrev pub absence : ℕ → ℕ
absence unit = plus (two unit) (0xFF - unit)

-- how many bytes a unit adds
abbrev pub added_len : ℕ → ℕ
added_len unit = if nat_lt unit 0x80 then 1 else (if nat_lt unit 0x800 then 2 else (if is_surrogate unit then 2 else 3))

-- below 0x800 exactly if the unit adds at most two bytes
abbrev pub folded : ℕ → ℕ
folded unit = let raised = plus unit 0x2800 in if nat_lt unit raised then unit else raised
