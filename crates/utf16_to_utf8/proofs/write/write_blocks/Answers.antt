use Rattle.std.proofs.Common.{◌<◌, ◌+◌, ⊎_elim, inl, inr, ap, arith, drop, length, length-take-le, refl, sym, ◌∙◌}
use Rattle.std.proofs.lemmas.List.{take-append-le}
use Rattle.utf16_units.specs.Lanes.{BlocksStopAt}
use Rattle.utf16_to_utf8.proofs.SpaceLemmas.{little-behind}
use Rattle.utf16_to_utf8.proofs.write.write_blocks.Goals as goal

pub returns-clause-utf8 : goal.returns-clause-utf8
returns-clause-utf8 g c =
    let whole = c.whole_chars in
    take-append-le whole.result.written c.write_paired-done.new.out (drop c.min-room.result c.args.to.now) whole.ensures.fits ∙ whole.ensures.utf8

pub returns-clause-len : goal.returns-clause-len
returns-clause-len g c =
    let whole = c.whole_chars in
    sym (length-take-le whole.result.written c.write_paired-done.new.out whole.ensures.fits) ∙ ap length whole.ensures.utf8

pub returns-clause-stop : goal.returns-clause-stop
returns-clause-stop g c =
    let done = c.write_paired-done in
    let reached = done.ensures.reached in
    let cursor = done.result.cursor in
    let to = c.args.to.now in
    ⊎_elim
    (λ (stops : BlocksStopAt 64 g.E.Utf16Order.BIG c.args.raw.now cursor.at done.result.leading). inl (c.whole_chars.ensures.stop 64 refl stops))
    (λ (full : length done.new.out < cursor.end + 128).
    inr (little-behind 128 (length c.args.raw.now) cursor.end to done.new.out c.min-room.result cursor.at c.whole_chars.result.written (omega arith) c.min-room.ensures done.auto.out
    reached.short reached.even reached.within c.whole_chars.ensures.near full))
    done.ensures.stop

pub whole_chars-requires-clause-reached : goal.whole_chars-requires-clause-reached
whole_chars-requires-clause-reached g c = c.write_paired-done.ensures.reached
