use Rattle.std.proofs.Common.{◌≡◌, ◌+◌, arith, subst}
use Rattle.utf16_transcode.specs.Utf8Stream.{DecodesUtf8To}
use Rattle.utf16_transcode.proofs.DecodesUtf8.{DecodesUtf8To-item, DecodesUtf8To-none, DecodesUtf8To-text}
use Rattle.utf16_transcode.proofs.items.write_items_once.Goals as goal

pub returns-then-ascii-gt0-clause-decodes : goal.returns-then-ascii-gt0-clause-decodes
returns-then-ascii-gt0-clause-decodes g c = DecodesUtf8To-text _ _ _ _ _ c.write_some_ascii-ascii.ensures.wrote

pub returns-clause-decodes : goal.returns-clause-decodes
returns-clause-decodes g c =
    let text = c.args.text.now in
    let before = DecodesUtf8To-none g.E.Utf16Order.BIG text c.write_some_ascii-ascii.new.to in
    let all : 0 + c.first_item-c.result.1 ≡ c.first_item-c.result.1 = omega arith in
    subst (λ read. DecodesUtf8To g.E.Utf16Order.BIG text c.write_char.new.to read c.write_char.result) all
    (DecodesUtf8To-item _ text _ _ 0 0 _ _ _ before c.first_item-c.ensures c.write_char.ensures.within c.write_char.ensures.bytes)
