use Rattle.std.proofs.Common.{◌∙◌, ◌+◌, ap, arith, length, refl}
use Rattle.std.proofs.lemmas.Result.{on_ok_weaker}
use Rattle.std.proofs.lemmas.Str.{scalars-chars}
use Rattle.std.specs.Str.{chars}
use Rattle.utf16_units.specs.Encoding.{Encodes, encode}
use Rattle.utf16_units.proofs.EditLemmas.{Encodes-checked, Encodes-inserted, boundary-within}
use Rattle.utf16_units.proofs.EncodingLemmas.{All-from_all_scalars, length-encode}
use Rattle.utf16string.specs.WString.{wstring_bytes}
use Rattle.utf16string.proofs.Edited.{edited_text, still_text}
use Rattle.utf16string.proofs.Ranged.{length-inserted}
use Rattle.utf16string.proofs.wstring.WString.insert_str.Goals as goal

pub insert_utf8-requires : goal.insert_utf8-requires
insert_utf8-requires g c =
    let vec = c.args.self.now.raw in
    omega (arith, boundary-within _ _ c.args.idx c.args.self.now.well_formed c.requires, vec.ok.0)

pub invariant_of-self : goal.invariant_of-self
invariant_of-self g c =
    let big = g.E.Utf16Order.BIG in
    let text = chars c.args.string.now in
    let spelled : Encodes big text (encode big text) = record { scalars = All-from_all_scalars _ (scalars-chars c.args.string.now c.utf8.string); spelled = refl } in
    let inserted = Encodes-inserted _ _ _ _ _ _ (Encodes-checked _ _ c.args.self.now.well_formed) c.requires spelled in
    record { well_formed = still_text _ _ _ _ _ c.args.self.now.well_formed inserted (λ left. left.0.0) c.insert_utf8.result c.insert_utf8.ensures.items c.insert_utf8.ensures.err }

pub returns-clause-text : goal.returns-clause-text
returns-clause-text g c =
    let big = g.E.Utf16Order.BIG in
    let text = chars c.args.string.now in
    let spelled : Encodes big text (encode big text) = record { scalars = All-from_all_scalars _ (scalars-chars c.args.string.now c.utf8.string); spelled = refl } in
    let inserted = Encodes-inserted _ _ _ _ _ _ (Encodes-checked _ _ c.args.self.now.well_formed) c.requires spelled in
    edited_text _ _ _ _ _ c.args.self.now.well_formed inserted c.insert_utf8.result c.insert_utf8.ensures.items

pub returns-clause-len : goal.returns-clause-len
returns-clause-len g c =
    let big = g.E.Utf16Order.BIG in
    let text = chars c.args.string.now in
    let old = wstring_bytes c.args.self.now in
    let within = boundary-within _ _ c.args.idx c.args.self.now.well_formed c.requires in
    on_ok_weaker c.insert_utf8.result (λ e. ap length e ∙ length-inserted old c.args.idx within (encode big text) ∙ ap (λ n. length old + n) (length-encode big text)) c.insert_utf8.ensures.items
