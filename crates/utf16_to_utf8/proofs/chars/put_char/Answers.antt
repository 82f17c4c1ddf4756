use Rattle.std.proofs.Common.{◌++◌, take, sym, ap, ◌∙◌, arith}
use Rattle.std.proofs.lemmas.List.{take_more_set}
use Rattle.std.proofs.lemmas.Str.{len_utf8_bounds}
use Rattle.utf16_units.proofs.Utf8Lemmas.{four_bytes, one_byte, three_bytes, two_bytes}
use Rattle.utf16_to_utf8.proofs.chars.put_char.Goals as goal

pub returns-then-code-lt128-clause-bytes : goal.returns-then-code-lt128-clause-bytes
returns-then-code-lt128-clause-bytes c =
    let room = len_utf8_bounds c.args.c in
    take_more_set c.args.to.now c.args.at c.args.c (omega (arith, room.0, c.requires)) ∙ ap (λ b. take c.args.at c.args.to.now ++ b) (sym (one_byte c.args.c (omega arith)))

pub returns-then-code-lt2048-clause-bytes : goal.returns-then-code-lt2048-clause-bytes
returns-then-code-lt2048-clause-bytes c =
    c.put.ensures.bytes ∙ ap (λ b. take c.args.at c.args.to.now ++ b) (sym (two_bytes _ (omega arith) (omega arith)))

pub returns-then-code-lt65536-clause-bytes : goal.returns-then-code-lt65536-clause-bytes
returns-then-code-lt65536-clause-bytes c =
    c.put-then-code-lt65536.ensures.bytes ∙ ap (λ b. take c.args.at c.args.to.now ++ b) (sym (three_bytes _ (omega arith) (omega arith)))

pub returns-else-code-lt65536-clause-bytes : goal.returns-else-code-lt65536-clause-bytes
returns-else-code-lt65536-clause-bytes c =
    c.put-else-code-lt65536.ensures.bytes ∙ ap (λ b. take c.args.at c.args.to.now ++ b) (sym (four_bytes _ (omega arith)))
