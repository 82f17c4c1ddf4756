use Rattle.std.proofs.Common.{arith, sym, take_all, ◌∙◌}
use Rattle.std.proofs.lemmas.Str.{utf8_valid_len-IsUtf8}
use Rattle.std.specs.Str.Lossy.{utf8_valid_len}
use Rattle.utf16_wtf8.proofs.sizes.utf8_front.Goals as goal

pub returns-in-Ok-clause-front : goal.returns-in-Ok-clause-front
returns-in-Ok-clause-front c =
    let bytes = c.args.bytes.now in
    let whole = utf8_valid_len-IsUtf8 bytes c.in-Ok.ensures.cases.1 in
    c.in-Ok.ensures.cases.0 ∙ sym (take_all (utf8_valid_len bytes) bytes (omega arith))
