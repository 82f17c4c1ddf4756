use Rattle.std.proofs.Common.{encode_utf8_all}
use Rattle.std.specs.Fmt.{HasWritten, HasWrittenStyled, IsFlush, IsPlainFormatter}
use Rattle.utf16_str.proofs.wstr.WStrDisplay.fmt.Given as goal

-- the characters so far were written, whatever options are set
abbrev pub invariant-loop-c : goal.invariant-loop-c
invariant-loop-c g l = record {
  plain : IsPlainFormatter l.initial.f → HasWritten g.W.Write.write_str_gives l.initial.f (encode_utf8_all l.yielded) l.f;
  styled : IsFlush l.initial.f → HasWrittenStyled g.W.Write.write_str_gives l.initial.f (encode_utf8_all l.yielded) l.f;
}
