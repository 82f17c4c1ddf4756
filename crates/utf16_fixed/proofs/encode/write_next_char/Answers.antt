use Rattle.std.proofs.Common.{◌∙◌, ap, rules, subst, sym, take, take_at}
use Rattle.utf16_units.specs.Encoding.{char_bytes}
use Rattle.utf16_units.proofs.CharLemmas.{length-char_bytes}
use Rattle.utf16_transcode.specs.Stops.{BeginsWith}
use Rattle.utf16_transcode.proofs.TranscodedLemmas.{WritesAt-put, enough, first_gives}
use Rattle.utf16_fixed.specs.Utf32.{TranscodesFromUtf32, utf32_units}
use Rattle.utf16_fixed.proofs.TextLemmas.{utf32_char}
use Rattle.utf16_fixed.proofs.ValidLemmas.{begins}
use Rattle.utf16_fixed.proofs.encode.write_next_char.Goals as goal

pub returns-clause-wrote : goal.returns-clause-wrote
returns-clause-wrote g c =
    let big = g.E.Utf16Order.BIG in
    let rest = c.args.rest.now in
    let char = c.in-Some.c in
    let is = c.in-Some.ensures.value in
    let put = c.encode_utf16_into-len in
    let bytes = char_bytes big char in
    let long = length-char_bytes big char ∙ sym put.ensures.len in
    let first = subst (λ n. BeginsWith utf32_units rest n 1) (sym is.1) (begins rest c.requires.not_empty is.0) in
    let front = ap (take put.result) put.ensures.bytes ∙ take_at bytes _ put.result long in
    WritesAt-put rest c.args.to.now put.new.buf bytes c.args.at 1 put.result c.requires.within (search rules) first.within
    (first_gives utf32_units (char_bytes big) rest char 1 first (TranscodesFromUtf32 big) (utf32_char big)) front (enough _ _ _ front (sym long))
