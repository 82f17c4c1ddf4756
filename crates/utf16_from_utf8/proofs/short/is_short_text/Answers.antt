use Rattle.std.proofs.Common.{length, take, subst, arith}
use Rattle.std.proofs.lemmas.Str.{IsUtf8-from_ascii}
use Rattle.std.specs.Str.{IsUtf8}
use Rattle.utf16_from_utf8.proofs.ReadLemmas.{whole-utf8}
use Rattle.utf16_from_utf8.proofs.ShortLemmas.{front-ascii}
use Rattle.utf16_from_utf8.proofs.WellFormedLemmas.{text-follows}
use Rattle.utf16_from_utf8.proofs.short.is_short_text.Goals as goal

pub returns-then-is_ascii : goal.returns-then-is_ascii
returns-then-is_ascii c =
    let block = c.spread.result in (
      (λ are. subst IsUtf8 c.spread.ensures.text (IsUtf8-from_ascii (take (length c.args.bytes.now) block) (front-ascii block (length c.args.bytes.now) c.spread.ensures.len (c.is_ascii.ensures.0 c.if-is_ascii.true)))),
      (λ utf8. c.if-is_ascii.true),
    )

pub returns-then-whole_len-bytes : goal.returns-then-whole_len-bytes
returns-then-whole_len-bytes c = (
  (λ are. whole-utf8 c.args.bytes.now (omega (arith, c.requires.some)) (c.follow.ensures.0 are) (c.whole_len.ensures.whole c.if-whole_len-bytes.true)),
  (λ utf8. c.follow.ensures.1 (text-follows c.args.bytes.now 0 (length c.args.bytes.now) utf8 (omega arith))),
)
