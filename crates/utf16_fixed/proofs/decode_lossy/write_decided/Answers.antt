use Rattle.std.proofs.Common.{◌+◌, ◌-◌, Some, length, arith, rules, subst}
use borrow.Rule.Slice.PartMut.{put_mid}
use Rattle.utf16_units.proofs.IllFormedLemmas.{rest_from}
use Rattle.utf16_units.specs.Encoding.{char_bytes}
use Rattle.utf16_transcode.specs.Decodes.{utf16_split}
use Rattle.utf16_transcode.specs.Stops.{IsIllFormedUtf16, Stops}
use Rattle.utf16_transcode.proofs.StreamSteps.{DecodesTo-rest, stops_rest}
use Rattle.utf16_transcode.proofs.ToUtf8Parts.{utf16_chunks}
use Rattle.utf16_fixed.specs.Stops32.{DecodesToUtf32}
use Rattle.utf16_fixed.specs.Utf32.{utf32_units}
use Rattle.utf16_fixed.proofs.LossyLemmas.{DecodesToUtf32-lone, DecodesToUtf32-text, found_at, found_within, replacement_is_too_long, stops_lossy_to_utf32}
use Rattle.utf16_fixed.proofs.decode_lossy.write_decided.Given.{Over}
use Rattle.utf16_fixed.proofs.decode_lossy.write_decided.Goals as goal
use Rattle.utf16_fixed.proofs.decode_lossy.write_decided.Goals.{After-to_utf32-front, In-IllFormed}

-- the text is decoded
after : (g : Over) (c : After-to_utf32-front g)
    → DecodesToUtf32 g.E.Utf16Order.BIG c.args.raw.now
    (put_mid c.loop-len.written (length c.loop-len.to - c.loop-len.written) c.loop-len.to c.to_utf32-front.new.to)
    (c.loop-len.read + c.to_utf32-front.result.read) (c.loop-len.written + c.to_utf32-front.result.written)
after g c =
    let big = g.E.Utf16Order.BIG in
    DecodesTo-rest (utf16_split big) utf32_units (utf16_chunks big) _ _ _ _ _ _ _ c.loop-len.invariant
    (DecodesToUtf32-text big _ _ _ _ c.to_utf32-front.ensures.wrote) (search rules)

pub returns-in_default : goal.returns-in_default
returns-in_default g c =
    let big = g.E.Utf16Order.BIG in
    let front = c.to_utf32-front in
    record {
      decodes = after g (goal.at.returns-in_default g c).After-to_utf32-front;
      stop =
          stops_rest (utf16_split big) utf32_units (utf16_chunks big) _ _ _ _ _ _ _ c.loop-len.invariant
          (DecodesToUtf32-text big _ _ _ _ front.ensures.wrote) (search rules) front.result.stop
          (stops_lossy_to_utf32 big _ _ _ _ c.in_default.not-IllFormed front.ensures.stop);
    }

pub returns-then-written-to-clause-decodes : goal.returns-then-written-to-clause-decodes
returns-then-written-to-clause-decodes g c = after g (goal.at.returns-then-written-to-clause-decodes g c).After-to_utf32-front

-- the ill-formed sequence after it
found : (g : Over) (c : In-IllFormed g) → IsIllFormedUtf16 g.E.Utf16Order.BIG (rest_from c.args.raw.now c.loop-len.read) c.to_utf32-front.result.read (Some c.in-IllFormed.len)
found g c =
    subst (Stops (char_bytes g.E.Utf16Order.BIG) utf32_units (IsIllFormedUtf16 g.E.Utf16Order.BIG) (rest_from c.args.raw.now c.loop-len.read) c.to_utf32-front.result.read
    (length c.to_utf32-front.new.to - c.to_utf32-front.result.written)) c.in-IllFormed.is c.to_utf32-front.ensures.stop

pub returns-then-written-to-clause-stop : goal.returns-then-written-to-clause-stop
returns-then-written-to-clause-stop g c =
    let here = found g (goal.at.returns-then-written-to-clause-stop g c).In-IllFormed in
    replacement_is_too_long g.E.Utf16Order.BIG _ _ _ (λ k. omega (arith, c.type_inv.raw k)) (found_within _ _ _ _ _ here) (found_at _ _ _ _ _ here) _
    (omega (arith, c.if-written-to.true))

pub loop-len-preserved : goal.loop-len-preserved
loop-len-preserved g c =
    let here = found g (goal.at.loop-len-preserved g c).In-IllFormed in
    DecodesToUtf32-lone g.E.Utf16Order.BIG _ _ _ (λ k. omega (arith, c.type_inv.raw k)) (found_within _ _ _ _ _ here) (found_at _ _ _ _ _ here) _ _
    (after g (goal.at.loop-len-preserved g c).After-to_utf32-front) (search rules)
