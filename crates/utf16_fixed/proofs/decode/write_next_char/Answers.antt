use Rattle.std.proofs.Common.{arith, rules, subst, sym}
use Rattle.std.proofs.lemmas.List.{take_more_set}
use Rattle.utf16_units.specs.Encoding.{IsUtf16, char_bytes}
use Rattle.utf16_units.proofs.EncodingLemmas.{IsUtf16-char}
use Rattle.utf16_transcode.proofs.ToUtf8Lemmas.{begins}
use Rattle.utf16_transcode.proofs.TranscodedLemmas.{first_does_not_fit, first_gives}
use Rattle.utf16_fixed.specs.Utf32.{TranscodesToUtf32, utf32_units}
use Rattle.utf16_fixed.proofs.TextLemmas.{utf32_char}
use Rattle.utf16_fixed.proofs.decode.write_next_char.Goals as goal

pub first_char-c-requires-clause-well_formed : goal.first_char-c-requires-clause-well_formed
first_char-c-requires-clause-well_formed g c =
    let big = g.E.Utf16Order.BIG in
    let first = c.in-Ok.ensures.char in
    subst (IsUtf16 big) (sym first.spelled) (IsUtf16-char big first.char first.scalar)

pub returns-then-at-to-clause-stop : goal.returns-then-at-to-clause-stop
returns-then-at-to-clause-stop g c =
    let big = g.E.Utf16Order.BIG in
    let read = c.first_char-c.ensures in
    let first = begins big c.args.rest.now c.in-Ok.len _ _ c.in-Ok.ensures.char read.size read.joined in
    first_does_not_fit (char_bytes big) utf32_units _ _ _ first _ (omega (arith, c.if-at-to.true))

pub returns-clause-wrote : goal.returns-clause-wrote
returns-clause-wrote g c =
    let big = g.E.Utf16Order.BIG in
    let read = c.first_char-c.ensures in
    let first = begins big c.args.rest.now c.in-Ok.len _ _ c.in-Ok.ensures.char read.size read.joined in
    record {
      within = first.within;
      fits = search rules;
      added = _;
      gives = first_gives (char_bytes big) utf32_units _ _ _ first (TranscodesToUtf32 big) (utf32_char big);
      bytes = take_more_set c.args.to.now c.args.at _ (omega (arith, c.requires.within, c.if-at-to.false));
    }
