use Rattle.std.proofs.Common.{◌+◌, ◌-◌, ◌++◌, ◌∙◌, Some, ap, length, take, rules, subst}
use borrow.Rule.Slice.PartMut.{put_mid}
use Rattle.utf16_units.proofs.IllFormedLemmas.{rest_from}
use Rattle.utf16_units.specs.Encoding.{char_bytes}
use Rattle.utf16_transcode.proofs.TranscodedLemmas.{Writes-none}
use Rattle.utf16_transcode.specs.Stops.{Stops}
use Rattle.utf16_fixed.specs.Stops32.{IsIllFormedUtf32}
use Rattle.utf16_fixed.proofs.ShowsLemmas.{from_utf32_lossy_fits, full_before_other, shown_empty, shown_marked, shown_rest, stops_shown}
use Rattle.utf16_fixed.proofs.encode_lossy.from_utf32_lossy.Given.{Over}
use Rattle.utf16_fixed.proofs.encode_lossy.from_utf32_lossy.Goals as goal
use Rattle.utf16_fixed.proofs.encode_lossy.from_utf32_lossy.Goals.{In-IllFormed}
use Rattle.utf16_fixed.specs.Utf32.{utf32_units}

pub loop-replacement-init : goal.loop-replacement-init
loop-replacement-init g c = Writes-none (shown_empty g.E.Utf16Order.BIG) _ _

pub returns-in_default : goal.returns-in_default
returns-in_default g c =
    let big = g.E.Utf16Order.BIG in
    let before = c.loop-replacement.invariant in
    let front = c.from_utf32-front.ensures in
    let wrote = shown_rest big _ _ _ _ _ _ _ before front.wrote (search rules) in
    let stop = stops_shown big _ _ _ _ _ _ _ before front.wrote (search rules) c.from_utf32-front.result.stop c.in_default.not-IllFormed front.stop in
    record { wrote = wrote; stop = stop; succeeds = from_utf32_lossy_fits big _ _ _ _ _ wrote stop }

pub returns-then-to-written-lt2-clause-wrote : goal.returns-then-to-written-lt2-clause-wrote
returns-then-to-written-lt2-clause-wrote g c =
    shown_rest g.E.Utf16Order.BIG _ _ _ _ _ _ _ c.loop-replacement.invariant c.from_utf32-front.ensures.wrote (search rules)

-- the code unit after it is not a scalar value
found : (g : Over) (c : In-IllFormed g)
    → IsIllFormedUtf32 (rest_from c.args.utf32.now c.loop-replacement.read) c.from_utf32-front.result.read (Some c.in-IllFormed.field-0)
found g c =
    subst (Stops utf32_units (char_bytes g.E.Utf16Order.BIG) IsIllFormedUtf32 (rest_from c.args.utf32.now c.loop-replacement.read) c.from_utf32-front.result.read
    (length c.from_utf32-front.new.to - c.from_utf32-front.result.written)) c.in-IllFormed.is c.from_utf32-front.ensures.stop

pub returns-then-to-written-lt2-clause-succeeds : goal.returns-then-to-written-lt2-clause-succeeds
returns-then-to-written-lt2-clause-succeeds g c =
    let other = found g (goal.at.returns-then-to-written-lt2-clause-succeeds g c).In-IllFormed in
    full_before_other g.E.Utf16Order.BIG _ _ _ _ _ _ _ c.loop-replacement.invariant c.from_utf32-front.ensures.wrote (search rules) _ other c.if-to-written-lt2.true

pub loop-replacement-preserved : goal.loop-replacement-preserved
loop-replacement-preserved g c =
    let other = found g (goal.at.loop-replacement-preserved g c).In-IllFormed in
    let to = put_mid c.loop-replacement.written (length c.loop-replacement.to - c.loop-replacement.written) c.loop-replacement.to c.from_utf32-front.new.to in
    shown_marked g.E.Utf16Order.BIG _ _ _ _ _ _ _ c.loop-replacement.invariant c.from_utf32-front.ensures.wrote (search rules) _ other c.put-written.new.to _ (search rules)
    (c.put-written.ensures.bytes ∙ ap (λ b. take (c.loop-replacement.written + c.from_utf32-front.result.written) to ++ b) c.write_unit-replacement.ensures)
