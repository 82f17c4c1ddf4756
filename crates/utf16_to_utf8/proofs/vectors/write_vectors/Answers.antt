use Rattle.std.proofs.Common.{◌+◌, ◌++◌, ◌<◌, ◌≤◌, ⊎_elim, ap, arith, drop, inl, inr, length, length-take-le, refl, sym, take_all, ◌∙◌}
use Rattle.std.proofs.lemmas.Bool.{cases_lt}
use Rattle.std.proofs.lemmas.List.{take-append-le}
use Rattle.utf16_units.specs.Encoding.{utf8_of}
use Rattle.utf16_units.specs.Lanes.{BlocksStopAt}
use Rattle.utf16_to_utf8.proofs.SpaceLemmas.{little-behind}
use Rattle.utf16_to_utf8.proofs.TextPairs.{end-paired, next-paired}
use Rattle.utf16_to_utf8.proofs.vectors.write_vectors.Given.{Over}
use Rattle.utf16_to_utf8.proofs.vectors.write_vectors.Goals as goal
use Rattle.utf16_to_utf8.proofs.vectors.write_vectors.Goals.{After-whole_chars}

pub returns-in-Some-clause-utf8 : goal.returns-in-Some-clause-utf8
returns-in-Some-clause-utf8 g c =
    take-append-le c.in-Some.end c.write_paired_last.new.out (drop c.min-room.result c.args.to.now) c.in-Some.ensures.fits
    ∙ c.in-Some.ensures.utf8 ∙ ap (utf8_of g.E.Utf16Order.BIG) (sym (take_all (length c.args.raw.now) c.args.raw.now (omega arith)))

pub returns-in-Some-clause-len : goal.returns-in-Some-clause-len
returns-in-Some-clause-len g c =
    sym (length-take-le c.in-Some.end c.write_paired_last.new.out c.in-Some.ensures.fits)
    ∙ ap length (c.in-Some.ensures.utf8 ∙ ap (utf8_of g.E.Utf16Order.BIG) (sym (take_all (length c.args.raw.now) c.args.raw.now (omega arith))))

full : (g : Over) (c : After-whole_chars g) → length c.write_paired_vectors-done.new.out < c.write_paired_vectors-done.result.cursor.end + 32
    → length (c.write_paired_last.new.out ++ drop c.min-room.result c.args.to.now) < c.whole_chars.result.written + 34
full g c few =
    let done = c.write_paired_vectors-done in
    let reached = done.ensures.reached in
    little-behind 32 (length c.args.raw.now) done.result.cursor.end c.args.to.now c.write_paired_last.new.out c.min-room.result done.result.cursor.at c.whole_chars.result.written (omega arith) c.min-room.ensures
    (c.write_paired_last.auto.out ∙ done.auto.out) reached.short reached.even reached.within c.whole_chars.ensures.near (omega (arith, few, c.write_paired_last.auto.out))

pub returns-in-None-clause-stop : goal.returns-in-None-clause-stop
returns-in-None-clause-stop g c =
    let done = c.write_paired_vectors-done in
    ⊎_elim
    (λ (stops : BlocksStopAt 16 g.E.Utf16Order.BIG c.args.raw.now done.result.cursor.at done.result.leading). inl (c.whole_chars.ensures.stop 16 refl stops))
    (λ few. inr (full g (goal.at.returns-in-None-clause-stop g c).After-whole_chars few))
    done.ensures.stop

pub returns-in-None-clause-whole : goal.returns-in-None-clause-whole
returns-in-None-clause-whole g c text =
    let big = g.E.Utf16Order.BIG in
    let raw = c.args.raw.now in
    let done = c.write_paired_vectors-done in
    let at = done.result.cursor.at in
    let leading = done.result.leading in
    let small = full g (goal.at.returns-in-None-clause-whole g c).After-whole_chars in
    ⊎_elim
    (λ (more : at < length raw). ⊎_elim
    (λ (eight : at + 16 ≤ length raw). ⊎_elim
    (λ (stops : BlocksStopAt 16 big raw at leading).
    let next = next-paired big raw at 16 leading text done.ensures.paired refl eight in
    absurd (stops eight next.0 next.1))
    (λ few. inr (small few))
    done.ensures.stop)
    (λ (few : length c.write_paired_last.new.out < done.result.cursor.end + 32). inr (small (omega (arith, few, c.write_paired_last.auto.out))))
    (c.write_paired_last.ensures.none c.in-None.is text more))
    (λ (all : length raw ≤ at).
    let read = c.whole_chars.ensures.all (end-paired big raw at leading text done.ensures.paired all) in
    inl (omega (arith, read, all, done.ensures.reached.within)))
    (cases_lt at (length raw))
