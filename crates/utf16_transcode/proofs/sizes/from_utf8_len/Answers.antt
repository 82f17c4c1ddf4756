use Rattle.std.proofs.Common.{take, sym, ap, ◌∙◌, arith, take_all}
use Rattle.std.proofs.lemmas.Str.{utf8_valid_len-IsUtf8}
use Rattle.std.specs.Str.{chars}
use Rattle.std.specs.Str.Lossy.{utf8_valid_len}
use Rattle.utf16_units.specs.Encoding.{size}
use Rattle.utf16_transcode.proofs.sizes.from_utf8_len.Goals as goal

pub returns-then-is_text_within_block : goal.returns-then-is_text_within_block
returns-then-is_text_within_block c =
    let text = c.args.text.now in
    let whole = utf8_valid_len-IsUtf8 text (c.is_text_within_block.ensures c.if-is_text_within_block.true) in
    c.utf16_len.ensures ∙ ap (λ t. size (chars t)) (c.from_utf8_unchecked.ensures ∙ sym (take_all (utf8_valid_len text) text (omega arith)))

pub returns-in-Ok : goal.returns-in-Ok
returns-in-Ok c =
    let text = c.args.text.now in
    let whole = utf8_valid_len-IsUtf8 text c.in-Ok.ensures.cases.1 in
    c.utf16_len-in-Ok.ensures ∙ ap (λ t. size (chars t)) (c.in-Ok.ensures.cases.0 ∙ sym (take_all (utf8_valid_len text) text (omega arith)))

pub returns-in-Err : goal.returns-in-Err
returns-in-Err c =
    c.utf16_len-in-Err.ensures
    ∙ ap (λ t. size (chars t)) (c.from_utf8_unchecked-in-Err.ensures ∙ ap (λ n. take n c.args.text.now) (c.valid_up_to.ensures ∙ c.in-Err.ensures.valid_len))
