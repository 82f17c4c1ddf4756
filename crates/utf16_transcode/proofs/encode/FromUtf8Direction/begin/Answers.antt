use Rattle.std.proofs.Common.{All, ◌≡◌, ◌<◌, ◌≤◌, ◌∙◌, ⊎_elim, ap, arith, length, subst, sym}
use Rattle.std.proofs.lemmas.Bool.{cases_lt}
use Rattle.std.proofs.lemmas.List.Elements.{All-get_or}
use Rattle.utf16_transcode.proofs.AsciiLemmas.{ascii_utf8}
use Rattle.utf16_transcode.proofs.FromUtf8Lemmas.{wrote_blocks}
use Rattle.utf16_transcode.proofs.encode.FromUtf8Direction.begin.Goals as goal

pub returns-then-input-lt-FEW_TEXT-clause-few_ascii : goal.returns-then-input-lt-FEW_TEXT-clause-few_ascii
returns-then-input-lt-FEW_TEXT-clause-few_ascii g c text low is few space =
    let bytes = c.args.input.now in
    let same : bytes ≡ text = is ∙ ascii_utf8 text low in
    let ascii = c.write_ascii_chars-ascii in
    let rest = c.write_short_rest.ensures in
    ⊎_elim
    (λ (less : ascii.result.read < length bytes).
    let here = All-get_or (λ byte. byte < 0x80) bytes ascii.result.read 0 less (subst (All (λ byte. byte < 0x80)) (sym same) low) in
    absurd (omega (arith, here, ascii.ensures.stop less (omega (arith, less, ap length same, space)))))
    (λ (all : length bytes ≤ ascii.result.read). omega (arith, all, rest.more, rest.wrote.within))
    (cases_lt ascii.result.read (length bytes))

pub write_short_rest-requires-2 : goal.write_short_rest-requires-2
write_short_rest-requires-2 g c = wrote_blocks c.write_prefix-front.ensures.written

pub returns-clause-few_ascii : goal.returns-clause-few_ascii
returns-clause-few_ascii g c text low is few space = absurd (omega (arith, few, ap length (is ∙ ascii_utf8 text low), c.if-input-lt-FEW_TEXT.false))
