use Rattle.std.proofs.Common.{◌≡◌, ◌+◌, ◌≤◌, ◌++◌, encode_utf8_all, length, string_bytes}
use Rattle.std.specs.String.{string_capacity, string_len}
use Rattle.utf16_units.specs.Encoding.{IsUtf16, text_of}
use Rattle.utf16_to_utf8.proofs.append.write_few.Given as goal

-- the UTF-8 so far, followed by the UTF-8 of the rest, is the old text followed by the UTF-8 of the
-- whole; and the capacity suffices
abbrev pub invariant-loop-rest : goal.invariant-loop-rest
invariant-loop-rest g l = record {
  text : IsUtf16 g.E.Utf16Order.BIG l.rest;
  written : string_bytes l.to ++ encode_utf8_all (text_of g.E.Utf16Order.BIG l.rest) ≡ string_bytes l.fn.to ++ encode_utf8_all (text_of g.E.Utf16Order.BIG l.raw);
  room : string_len l.to + length (encode_utf8_all (text_of g.E.Utf16Order.BIG l.rest)) ≤ string_capacity l.to;
  grows : string_capacity l.fn.to ≤ string_capacity l.to;
}

abbrev pub decreases-loop-rest : goal.decreases-loop-rest
decreases-loop-rest g l = length l.rest
