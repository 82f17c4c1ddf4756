use Rattle.std.proofs.Common.{◌≡◌, ◌%◌, length-take-le, None, arith, rules}
use Rattle.utf16_units.proofs.BackChar.{length-even}
use Rattle.utf16_transcode.proofs.AsciiLemmas.{ascii_unit}
use Rattle.utf16_transcode.proofs.ToUtf8Lemmas.{utf8_joins}
use Rattle.utf16_transcode.proofs.TranscodedLemmas.{Writes-then}
use Rattle.utf16_transcode.proofs.decode.write_few_units.Goals as goal

pub loop-read-preserved : goal.loop-read-preserved
loop-read-preserved g c = record {
  wrote = Writes-then (utf8_joins g.E.Utf16Order.BIG) _ _ _ _ _ _ _ c.loop-read.invariant.wrote c.in-Some.ensures.puts;
  space = search rules;
}

-- ASCII has no surrogate
pub returns-in_default-clause-ascii : goal.returns-in_default-clause-ascii
returns-in_default-clause-ascii g c ascii few space =
    let big = g.E.Utf16Order.BIG in
    let read = c.loop-read.read in
    let before = c.loop-read.invariant.wrote in
    let even : read % 2 ≡ 0 = omega (arith, length-even big _ before.gives.0, length-take-le read c.args.raw.now before.within) in
    let low = ascii_unit big c.args.raw.now read even (omega (arith, c.loop-read-test.true)) ascii in
    let none : c.write_plain_unit.result ≡ None = search rules in
    absurd (omega (arith, low, c.write_plain_unit.ensures.none none))
