use Rattle.std.proofs.Common.{◌∙◌, ◌-◌, ap, arith, drop, length, subst, sym}
use Rattle.std.proofs.lemmas.List.{length-drop, take_all}
use Rattle.utf16_units.specs.Encoding.{Encodes, text_of}
use Rattle.utf16_units.proofs.EncodingLemmas.{Encodes-text_of}
use Rattle.utf16string.proofs.NextChar.{first-bytes}
use Rattle.utf16string.proofs.retain.char_from.Goals as goal

pub returns-clause-char : goal.returns-clause-char
returns-clause-char g c =
    let big = g.E.Utf16Order.BIG in
    let first = c.first_char in
    let bytes = drop c.args.at c.args.bytes.now in
    let all = take_all (length c.args.bytes.now - c.args.at) bytes (omega (arith, length-drop c.args.at c.args.bytes.now)) in
    let text = sym (ap (text_of big) all) ∙ first.ensures.joined in
    rw first.ensures.size (first-bytes big first.result.0 _ bytes (subst (λ t. Encodes big t bytes) text (Encodes-text_of big bytes c.requires.well_formed)))
