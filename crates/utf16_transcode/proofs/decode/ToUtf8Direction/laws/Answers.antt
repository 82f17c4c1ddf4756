use Rattle.std.proofs.Common.{arith}
use Rattle.utf16_transcode.proofs.DecodeLossyLemmas.{ill_formed_there, some_left}
use Rattle.utf16_transcode.proofs.ToUtf8Lemmas.{char_gives, faults_there, room_grows, utf8_empty, utf8_joins}
use Rattle.utf16_transcode.proofs.ToUtf8Parts.{utf8_short}
use Rattle.utf16_transcode.proofs.decode.ToUtf8Direction.laws.Goals as goal

pub returns : goal.returns
returns g c = record {
  monotone = room_grows;
  buffered = omega arith;
  short = utf8_short;
  of_nothing = utf8_empty g.E.Utf16Order.BIG;
  joins = utf8_joins g.E.Utf16Order.BIG;
  each_char = char_gives g.E.Utf16Order.BIG;
  ill_formed = faults_there g.E.Utf16Order.BIG;
  there = λ raw n len found. (some_left g.E.Utf16Order.BIG raw n len found, ill_formed_there g.E.Utf16Order.BIG raw n len found);
}
