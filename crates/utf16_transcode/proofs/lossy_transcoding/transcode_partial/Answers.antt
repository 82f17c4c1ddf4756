use Rattle.std.proofs.Common.{◌+◌, ◌-◌, Some, length, length-drop, arith, rules, refl, ap, subst}
use Rattle.utf16_units.proofs.IllFormedLemmas.{rest_from}
use borrow.Rule.Slice.PartMut.{put_mid}
use Rattle.utf16_transcode.specs.Stops.{Stops}
use Rattle.utf16_transcode.specs.Transcoded.{DecodesAsTo}
use Rattle.utf16_transcode.proofs.StreamSteps.{DecodesTo-kept, DecodesTo-none, DecodesTo-rest, rest_after, stops_rest}
use Rattle.utf16_transcode.proofs.lossy_transcoding.transcode_partial.Given.{Over}
use Rattle.utf16_transcode.proofs.lossy_transcoding.transcode_partial.Goals as goal
use Rattle.utf16_transcode.proofs.lossy_transcoding.transcode_partial.Goals.{After-transcode-front, In-IllFormed}

pub loop-len-init : goal.loop-len-init
loop-len-init g c = DecodesTo-none _ _ _ _

-- the text that was written is decoded
after : (g : Over) (c : After-transcode-front g)
    → DecodesAsTo g.D.LossyDirection.split g.D.LossyDirection.into c.args.input.now
    (put_mid c.loop-len.written (length c.loop-len.to - c.loop-len.written) c.loop-len.to c.transcode-front.new.to)
    (c.loop-len.read + c.transcode-front.result.read) (c.loop-len.written + c.transcode-front.result.written)
after g c =
    DecodesTo-rest g.D.LossyDirection.split _ c.lossy_laws.ensures.chunks _ _ _ _ _ _ _ c.loop-len.invariant
    (c.lossy_laws.ensures.text _ _ _ _ c.transcode-front.ensures.wrote) (search rules)

pub returns-in_default : goal.returns-in_default
returns-in_default g c = record {
  decodes = after g (goal.at.returns-in_default g c).After-transcode-front;
  stop =
      stops_rest g.D.LossyDirection.split _ c.lossy_laws.ensures.chunks _ _ _ _ _ _ _ c.loop-len.invariant
      (c.lossy_laws.ensures.text _ _ _ _ c.transcode-front.ensures.wrote) (search rules) c.transcode-front.result.stop
      (c.lossy_laws.ensures.stops _ _ _ _ c.in_default.not-IllFormed c.transcode-front.ensures.stop);
}

-- the ill-formed sequence after it
found : (g : Over) (c : In-IllFormed g) → g.D.Text.Direction.IsIllFormed (rest_from c.args.input.now c.loop-len.read) c.transcode-front.result.read (Some c.in-IllFormed.len)
found g c =
    subst (Stops g.D.Text.Direction.from g.D.Text.Direction.into g.D.Text.Direction.IsIllFormed (rest_from c.args.input.now c.loop-len.read) c.transcode-front.result.read
    (length c.transcode-front.new.to - c.transcode-front.result.written)) c.in-IllFormed.is c.transcode-front.ensures.stop

pub write_ill_formed-requires-clause-some : goal.write_ill_formed-requires-clause-some
write_ill_formed-requires-clause-some g c =
    let here = (c.laws.ensures.there _ _ _ (found g (goal.at.write_ill_formed-requires-clause-some g c).In-IllFormed)).0 in
    omega (arith, here, length-drop c.transcode-front.result.read (rest_from c.args.input.now c.loop-len.read), ap length (rest_after c.args.input.now c.loop-len.read c.transcode-front.result.read))

pub write_ill_formed-requires-clause-ill_formed : goal.write_ill_formed-requires-clause-ill_formed
write_ill_formed-requires-clause-ill_formed g c =
    subst (λ b. g.D.Text.Direction.IsIllFormedAt b (Some c.in-IllFormed.len)) (rest_after c.args.input.now c.loop-len.read c.transcode-front.result.read)
    (c.laws.ensures.there _ _ _ (found g (goal.at.write_ill_formed-requires-clause-ill_formed g c).In-IllFormed)).1

pub returns-in_default-write_ill_formed-clause-decodes : goal.returns-in_default-write_ill_formed-clause-decodes
returns-in_default-write_ill_formed-clause-decodes g c =
    DecodesTo-kept g.D.LossyDirection.split _ c.lossy_laws.ensures.chunks _ _ _ _ _ 0 0 (after g (goal.at.returns-in_default-write_ill_formed-clause-decodes g c).After-transcode-front)
    (DecodesTo-none _ _ _ _) (search rules) refl refl

pub loop-len-preserved : goal.loop-len-preserved
loop-len-preserved g c =
    DecodesTo-rest g.D.LossyDirection.split _ c.lossy_laws.ensures.chunks _ _ _ _ _ _ _ (after g (goal.at.loop-len-preserved g c).After-transcode-front)
    c.in-Some.ensures.decodes (search rules)
