use Rattle.std.proofs.Common.{◌≡◌, ◌∙◌, Bool, length, ap, arith, refl, sym}
use Rattle.utf16_units.specs.Encoding.{char_bytes}
use Rattle.utf16_units.proofs.CharLemmas.{one_unit_bytes}
use Rattle.utf16_units.proofs.UnitLemmas.{length-unit_bytes}
use Rattle.utf16_transcode.specs.Utf8Stream.{FirstItem}
use Rattle.utf16_transcode.proofs.DecodesSteps.{first_fits}
use Rattle.utf16_transcode.proofs.DecodesUtf8.{FirstItem-subpart, first_does_not_fit, first_shown}
use Rattle.utf16_transcode.proofs.encode_lossy.FromUtf8LossyDirection.write_ill_formed.Given.{Over}
use Rattle.utf16_transcode.proofs.encode_lossy.FromUtf8LossyDirection.write_ill_formed.Goals as goal
use Rattle.utf16_transcode.proofs.encode_lossy.FromUtf8LossyDirection.write_ill_formed.Goals.{Start}

-- an ill-formed subpart is first
subpart : (g : Over) (c : Start g) → FirstItem c.args.input.now 0xFFFD c.args.len
subpart g c = FirstItem-subpart c.args.input.now c.args.len c.requires.ill_formed.0 (sym c.requires.ill_formed.1)

-- U+FFFD has two bytes
two : (big : Bool) → length (char_bytes big 0xFFFD) ≡ 2
two big = ap length (one_unit_bytes big 0xFFFD (omega arith)) ∙ length-unit_bytes big 0xFFFD

pub returns-then-to-lt-REPLACEMENT_LEN-clause-none : goal.returns-then-to-lt-REPLACEMENT_LEN-clause-none
returns-then-to-lt-REPLACEMENT_LEN-clause-none g c =
    let big = g.E.Utf16Order.BIG in
    let first = subpart g (goal.at.returns-then-to-lt-REPLACEMENT_LEN-clause-none g c).Start in
    (λ none. first_does_not_fit _ _ _ first big _ (omega (arith, c.if-to-lt-REPLACEMENT_LEN.true, two big)), λ full. refl)

pub returns-clause-none : goal.returns-clause-none
returns-clause-none g c =
    let big = g.E.Utf16Order.BIG in
    let first = subpart g (goal.at.returns-clause-none g c).Start in
    (λ none. absurd (cc), λ full. absurd (first_fits _ _ _ 0xFFFD _ (first_shown _ _ _ first) (omega (arith, c.if-to-lt-REPLACEMENT_LEN.false, two big)) full))

pub returns-clause-advances : goal.returns-clause-advances
returns-clause-advances g c =
    let some = (subpart g (goal.at.returns-clause-advances g c).Start).some in
    omega (arith, some, c.write_replacement_and_more.ensures.sequence)

pub write_replacement_and_more-requires-clause-ill_formed : goal.write_replacement_and_more-requires-clause-ill_formed
write_replacement_and_more-requires-clause-ill_formed g c = subpart g (goal.at.write_replacement_and_more-requires-clause-ill_formed g c).Start
