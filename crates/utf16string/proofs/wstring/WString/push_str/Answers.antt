use Rattle.std.proofs.Common.{refl}
use Rattle.std.proofs.lemmas.Str.{scalars-chars}
use Rattle.std.specs.Str.{chars}
use Rattle.utf16_units.specs.Encoding.{Encodes, encode}
use Rattle.utf16_units.proofs.EditLemmas.{Encodes-pushed}
use Rattle.utf16_units.proofs.EncodingLemmas.{All-from_all_scalars, length-encode}
use Rattle.utf16string.proofs.Edited.{edited_len, edited_text, still_text}
use Rattle.utf16string.proofs.wstring.WString.push_str.Goals as goal

pub invariant_of-self : goal.invariant_of-self
invariant_of-self g c =
    let big = g.E.Utf16Order.BIG in
    let text = chars c.args.string.now in
    let spelled : Encodes big text (encode big text) = record { scalars = All-from_all_scalars _ (scalars-chars c.args.string.now c.utf8.string); spelled = refl } in
    let pushed = Encodes-pushed _ _ _ _ c.args.self.now.well_formed spelled in
    record { well_formed = still_text _ _ _ _ _ c.args.self.now.well_formed pushed (λ left. left.0.0) c.append_utf16.result c.append_utf16.ensures.items c.append_utf16.ensures.err }

pub returns-clause-text : goal.returns-clause-text
returns-clause-text g c =
    let big = g.E.Utf16Order.BIG in
    let text = chars c.args.string.now in
    let spelled : Encodes big text (encode big text) = record { scalars = All-from_all_scalars _ (scalars-chars c.args.string.now c.utf8.string); spelled = refl } in
    let pushed = Encodes-pushed _ _ _ _ c.args.self.now.well_formed spelled in
    edited_text _ _ _ _ _ c.args.self.now.well_formed pushed c.append_utf16.result c.append_utf16.ensures.items

pub returns-clause-len : goal.returns-clause-len
returns-clause-len g c =
    edited_len _ _ _ _ (length-encode g.E.Utf16Order.BIG (chars c.args.string.now)) c.append_utf16.result c.append_utf16.ensures.items
