use Rattle.std.proofs.Common.{◌≡◌, ◌+◌, ◌*◌, ◌≤◌, ◌++◌, length, take}
use Rattle.utf16_units.specs.Encoding.{IsUtf16, utf8_of}
use Rattle.utf16_to_utf8.proofs.chars.write_chars.Given as goal

-- what was written, followed by the UTF-8 of the rest, is the UTF-8 of the whole, and it fits
abbrev pub invariant-loop-rest : goal.invariant-loop-rest
invariant-loop-rest g l = record {
  text : IsUtf16 g.E.Utf16Order.BIG l.rest;
  written : take l.end l.out ++ utf8_of g.E.Utf16Order.BIG l.rest ≡ utf8_of g.E.Utf16Order.BIG l.raw;
  room : 2 * l.end + 3 * length l.rest ≤ 3 * length l.raw;
}

abbrev pub decreases-loop-rest : goal.decreases-loop-rest
decreases-loop-rest g l = length l.rest
