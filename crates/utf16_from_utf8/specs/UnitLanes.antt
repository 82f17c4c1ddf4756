-- The two bytes of the unit that ends at b0 after b2 and b1, as lanes of one byte compute them if
-- the text is well formed.
use Rattle.std.specs.Prelude.{◌≡◌, ℕ, ◌+◌, ◌*◌, ◌/◌, ◌%◌, ◌^◌, ◌<◌, List, bit_and, bit_or, length, nat_lt, slice_index, if◌then◌else◌}
use Rattle.utf16_from_utf8.specs.Added.{ends_unit, unit_after}
use Rattle.utf16_from_utf8.specs.Follow.{FollowsAtMost}

-- the low and the high byte of a character of three bytes
abbrev pub short_low : ℕ → ℕ → ℕ
short_low b1 b0 = (b1 * 2 ^ 6 % 2 ^ 8 + bit_and b0 0x3F) % 2 ^ 8

abbrev pub three_high : ℕ → ℕ → ℕ
three_high b2 b1 = (b2 * 2 ^ 4 % 2 ^ 8 + bit_and (b1 / 2 ^ 2) 0xF) % 2 ^ 8

-- b1, or a byte that adds nothing to a character of one byte
abbrev pub previous_of : ℕ → ℕ → ℕ
previous_of b1 b0 = if nat_lt b0 0x80 then 0xC0 else b1

-- the high byte, except of a leading surrogate; the upper bits of a trailing surrogate are missing
abbrev pub high_of : ℕ → ℕ → ℕ
high_of b2 previous =
    (bit_and (previous / 2 ^ 2) 0xF + (if nat_lt b2 0xE0 then 0xE0 else b2) * 2 ^ 4 % 2 ^ 8)
    % 2 ^ 8

-- the low byte, except of a leading surrogate
abbrev pub low_of : ℕ → ℕ → ℕ
low_of previous b0 = (bit_and b0 0x7F + previous * 2 ^ 6 % 2 ^ 8) % 2 ^ 8

-- the upper bits of a trailing surrogate, and zero for another unit
abbrev pub trailing_of : ℕ → ℕ → ℕ
trailing_of b2 previous = if nat_lt (if nat_lt previous b2 then b2 else previous) 0xC0 then 0xDC else 0

-- the bits of b1 and b0 in a leading surrogate, and its two bytes
abbrev pub lead_part : ℕ → ℕ → ℕ
lead_part b1 b0 = (b1 * 2 ^ 2 % 2 ^ 8 + bit_and (b0 / 2 ^ 4) 3) % 2 ^ 8

abbrev pub lead_low : ℕ → ℕ
lead_low part = (part + 0xC0) % 2 ^ 8

abbrev pub leading_of : ℕ → ℕ → ℕ
leading_of b2 part = (b2 + (if nat_lt part 0x40 then 0xE7 else 0xE8)) % 2 ^ 8

-- the high and the low byte of any unit
abbrev pub short_high : ℕ → ℕ → ℕ → ℕ
short_high b2 b1 b0 = bit_or (high_of b2 (previous_of b1 b0)) (trailing_of b2 (previous_of b1 b0))

abbrev pub four_high : ℕ → ℕ → ℕ → ℕ
four_high b2 b1 b0 = if nat_lt b2 0xF0 then short_high b2 b1 b0 else leading_of b2 (lead_part b1 b0)

abbrev pub four_low : ℕ → ℕ → ℕ → ℕ
four_low b2 b1 b0 = if nat_lt b2 0xF0 then low_of (previous_of b1 b0) b0 else lead_low (lead_part b1 b0)

-- a unit's two bytes
pub record AreBytes (unit high low : ℕ) : Type 0 where
  pub is_high : high ≡ unit / 256
  pub is_low : low ≡ unit % 256

-- a bit that tells whether a unit ends at b0, and its two bytes if one does
pub record IsUnit (b2 b1 b0 bit high low : ℕ) : Type 0 where
  pub ends : bit ≡ (if ends_unit b1 b0 then 1 else 0)
  pub bytes : b0 < 0xC0 → b1 < 0xE0 → AreBytes (unit_after b2 b1 b0) high low

-- sixteen lanes of high bytes and of low bytes, and a bit for each: the unit that ends at each byte
-- of a block that may follow the two bytes before it
pub record HoldUnits (most : ℕ) (b2 b1 block highs lows : List ℕ) (ended : ℕ) : Type 0 where
  pub high_len : length highs ≡ 16
  pub low_len : length lows ≡ 16
  pub bound : ended < 2 ^ 16
  pub each : (i : ℕ) → i < 16
      → FollowsAtMost most (slice_index b2 i) (slice_index b1 i) (slice_index block i)
      → IsUnit (slice_index b2 i) (slice_index b1 i) (slice_index block i) (ended / 2 ^ i % 2)
      (slice_index highs i) (slice_index lows i)
