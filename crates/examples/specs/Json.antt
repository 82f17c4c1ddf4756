-- A text as the content of a JSON string (RFC 8259, section 7: strings).
use Rattle.std.specs.Prelude.{ℕ, ◌+◌, ◌/◌, ◌%◌, List, [], ◌∷◌, nat_lt, if◌then◌else◌, ◌==◌, ◌||◌}

-- the digit of a number below 16: '0' to '9', 'a' to 'f'
abbrev pub hex_digit : ℕ → ℕ
hex_digit n = if nat_lt n 10 then 0x30 + n else 0x57 + n

-- the escaped form of a character: a quote or a backslash gets a backslash before it, a control
-- character becomes its code, such as `\u001f`, and any other character is unchanged
abbrev pub json_char : ℕ → List ℕ
json_char c =
    if c == 0x22 || c == 0x5C then 0x5C ∷ c ∷ [] else
    (if nat_lt c 0x20 then 0x5C ∷ 0x75 ∷ 0x30 ∷ 0x30 ∷ hex_digit (c / 16) ∷ hex_digit (c % 16) ∷ [] else c ∷ [])
