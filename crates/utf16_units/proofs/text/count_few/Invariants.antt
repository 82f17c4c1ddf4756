use Rattle.std.proofs.Common.{◌≡◌, ◌+◌, length}
use Rattle.utf16_units.specs.Encoding.{IsUtf16, text_of}
use Rattle.utf16_units.proofs.text.count_few.Given as goal

-- the characters counted and the characters left are all of them
abbrev pub invariant-loop-rest : goal.invariant-loop-rest
invariant-loop-rest g l = record {
  text : IsUtf16 g.E.Utf16Order.BIG l.rest;
  counted : l.count + length (text_of g.E.Utf16Order.BIG l.rest) ≡ length (text_of g.E.Utf16Order.BIG l.raw);
}

abbrev pub decreases-loop-rest : goal.decreases-loop-rest
decreases-loop-rest g l = length l.rest
