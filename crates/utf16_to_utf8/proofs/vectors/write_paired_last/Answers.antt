use Rattle.std.proofs.Common.{◌≡◌, ◌-◌, ◌%◌, ◌++◌, ap, arith, drop, false, inl, inr, length, slice_index, subst, sym, take, ◌∙◌}
use Rattle.utf16_units.specs.Encoding.{IsUtf16, text_of, units_of}
use Rattle.utf16_units.specs.Lanes.{Paired}
use Rattle.utf16_units.proofs.BackChar.{size-even}
use Rattle.utf16_units.proofs.EncodingLemmas.{length-text}
use Rattle.utf16_to_utf8.proofs.LastLemmas.{last-paired, last-text}
use Rattle.utf16_to_utf8.specs.Utf8.{units_utf8}
use Rattle.utf16_to_utf8.proofs.TextLemmas.{bytes-utf8}
use Rattle.utf16_to_utf8.proofs.vectors.write_paired_last.Given.{Over}
use Rattle.utf16_to_utf8.proofs.vectors.write_paired_last.Goals as goal
use Rattle.utf16_to_utf8.proofs.vectors.write_paired_last.Goals.{After-write_padded, then-len-ne0-via-then-len-ne0, then-len-ne0-via-else-len-ne0+then-len-eq0, then-len-ne0-via-else-len-ne0+else-len-eq0+then-len-ge16, then-len-ne0-via-else-len-ne0+else-len-eq0+else-len-ge16+then-out-from-lt32}

text : (g : Over) (c : After-write_padded g) → IsUtf16 g.E.Utf16Order.BIG c.args.raw.now
text g c =
    let big = g.E.Utf16Order.BIG in
    let raw = c.args.raw.now in
    let at = c.args.from.cursor.at in
    let padded = c.last_bytes-padded in
    let here : length raw - (length raw - at) ≡ at = omega (arith, c.requires.reached.within) in
    last-text big raw padded.result at c.args.from.leading c.requires.paired
    padded.ensures.len (omega (arith, c.if-len-ge16.false)) (omega (arith, c.if-len-ne0.false)) (padded.ensures.last ∙ ap (λ n. drop n raw) here) padded.ensures.zeros
    c.in_ok-paired.field-0 c.type_inv.raw (subst (λ us. Paired c.args.from.leading us c.in_ok-paired.field-0) c.units8.ensures.units c.in_ok-paired.ensures.some)

pub returns-clause-text : goal.returns-clause-text
returns-clause-text g c = text g (goal.at.returns-clause-text g c).After-write_padded

pub returns-clause-utf8 : goal.returns-clause-utf8
returns-clause-utf8 g c =
    let big = g.E.Utf16Order.BIG in
    let raw = c.args.raw.now in
    let cursor = c.args.from.cursor in
    let here : length raw - (length raw - cursor.at) ≡ cursor.at = omega (arith, c.requires.reached.within) in
    c.write_padded.ensures.bytes
    ∙ ap (λ rest. take cursor.end c.args.out.now ++ units_utf8 (slice_index cursor.previous 7) (units_of big rest)) (c.last_bytes-padded.ensures.last ∙ ap (λ n. drop n raw) here)
    ∙ c.requires.reached.written ∙ bytes-utf8 big raw (text g (goal.at.returns-clause-utf8 g c).After-write_padded)

pub returns-in_err-paired-clause-none : goal.returns-in_err-paired-clause-none
returns-in_err-paired-clause-none g c _ text _ =
    let big = g.E.Utf16Order.BIG in
    let raw = c.args.raw.now in
    let at = c.args.from.cursor.at in
    let padded = c.last_bytes-padded in
    let here : length raw - (length raw - at) ≡ at = omega (arith, c.requires.reached.within) in
    let last =
    last-paired big raw padded.result at c.args.from.leading c.requires.paired
    padded.ensures.len (omega (arith, c.if-len-ge16.false)) (omega (arith, c.if-len-ne0.false)) (padded.ensures.last ∙ ap (λ n. drop n raw) here) padded.ensures.zeros text in
    absurd (c.in_err-paired.ensures.none false (subst (λ us. Paired c.args.from.leading us false) (sym c.units8.ensures.units) last))

pub returns-then-len-ne0-clause-none : goal.returns-then-len-ne0-clause-none
returns-then-len-ne0-clause-none g c _ text some =
    let big = g.E.Utf16Order.BIG in
    let raw = c.args.raw.now in
    let even : length raw % 2 ≡ 0 = omega (arith, length-text big raw text, size-even (text_of big raw)) in
    elim c.then-len-ne0.branch [
      | then-len-ne0-via-then-len-ne0 w ↦ absurd (omega (arith, even, c.requires.reached.even, w.if-len-ne0.true))
      | then-len-ne0-via-else-len-ne0+then-len-eq0 w ↦ absurd (omega (arith, some, w.if-len-eq0.true))
      | then-len-ne0-via-else-len-ne0+else-len-eq0+then-len-ge16 w ↦ inl (omega (arith, w.if-len-ge16.true))
      | then-len-ne0-via-else-len-ne0+else-len-eq0+else-len-ge16+then-out-from-lt32 w ↦ inr (omega (arith, w.if-out-from-lt32.true, c.requires.reached.fits))
    ]
