use Rattle.std.proofs.Common.{◌∙◌, ap, chars, encode_utf8_all}
use Rattle.std.proofs.lemmas.Str.{encodes-chars}
use Rattle.examples.proofs.transcode.utf8_round_trip.Goals as goal

pub returns-in-Ok-clause-text : goal.returns-in-Ok-clause-text
returns-in-Ok-clause-text g c = c.in-Ok.ensures.utf8 ∙ ap encode_utf8_all (c.encoded_text.ensures g.E.Utf16Order.BIG (chars c.args.text.now) c.deref.result.now (rw c.deref.ensures.value c.in_ok-bytes.ensures.text)).spells ∙ encodes-chars c.args.text.now c.utf8.text
