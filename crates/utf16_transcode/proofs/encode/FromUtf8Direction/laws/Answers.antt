use Rattle.std.proofs.Common.{arith}
use Rattle.utf8_bytes.proofs.ValidLemmas.{none_at}
use Rattle.utf16_transcode.proofs.FeedsUtf8.{utf16_short}
use Rattle.utf16_transcode.proofs.FromUtf8Lemmas.{char_gives, faults_there, room_grows, utf16_empty, utf16_joins}
use Rattle.utf16_transcode.proofs.encode.FromUtf8Direction.laws.Goals as goal

pub returns : goal.returns
returns g c = record {
  monotone = room_grows;
  buffered = omega arith;
  short = utf16_short g.E.Utf16Order.BIG;
  of_nothing = utf16_empty g.E.Utf16Order.BIG;
  joins = utf16_joins g.E.Utf16Order.BIG;
  each_char = char_gives g.E.Utf16Order.BIG;
  ill_formed = faults_there;
  there = λ text n len found. (found.0.short, (none_at text n found.0, found.1));
}
