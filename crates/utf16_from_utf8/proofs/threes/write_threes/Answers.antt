use Rattle.std.proofs.Common.{◌++◌, take, drop, subst, ap, sym, ◌∙◌, arith, rules}
use Rattle.std.specs.Str.{IsUtf8}
use Rattle.utf16_from_utf8.specs.Added.{added_bytes}
use Rattle.utf16_from_utf8.proofs.TextLemmas.{added_bytes-text}
use Rattle.utf16_from_utf8.proofs.WrittenLemmas.{more-written}
use Rattle.utf16_from_utf8.proofs.threes.write_threes.Goals as goal

pub loop-read-preserved : goal.loop-read-preserved
loop-read-preserved g c =
    let bytes = c.args.bytes.now in
    let big = g.E.Utf16Order.BIG in
    let now = c.loop-read.invariant in
    let wrote = c.write_sixteen_threes-written in
    let next = take 48 (drop c.loop-read.read bytes) in
    let utf8 = subst IsUtf8 (sym c.in_threes.ensures) (c.are_characters.ensures.well_formed c.if-not-are_characters.false) in
    record {
      done =
          more-written big bytes c.loop-read.out wrote.new.out c.loop-read.read c.loop-read.written 48 wrote.result now.done (omega (arith, now.done.within, c.loop-read-test.true)) utf8
          (wrote.ensures.bytes 0 0 ∙ ap (λ t. take c.loop-read.written c.loop-read.out ++ t) (ap (added_bytes big 0 0) (sym c.in_threes.ensures) ∙ added_bytes-text big next utf8))
          (omega (arith, wrote.ensures.written_to)) (search rules);
      advances = omega (arith, now.advances);
      stays = λ same. absurd (omega (arith, same, now.advances));
    }
