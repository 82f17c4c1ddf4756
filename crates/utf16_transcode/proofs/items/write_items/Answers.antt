use Rattle.std.proofs.Common.{arith, inl, inr, refl, rules}
use Rattle.utf16_transcode.proofs.StreamSteps.{DecodesTo-rest}
use Rattle.utf16_transcode.specs.Utf8Stream.{utf8_split}
use Rattle.utf16_transcode.proofs.DecodesUtf8.{DecodesUtf8To-none}
use Rattle.utf16_transcode.proofs.FeedsUtf8.{utf8_chunks}
use Rattle.utf16_transcode.proofs.items.write_items.Goals as goal

pub loop-run-init : goal.loop-run-init
loop-run-init g c = record { decodes = DecodesUtf8To-none _ _ _; begins = inr (refl, refl) }

pub loop-run-preserved : goal.loop-run-preserved
loop-run-preserved g c = record {
  decodes = DecodesTo-rest utf8_split _ utf8_chunks _ _ _ _ _ _ _ c.loop-run.invariant.decodes c.write_items_once-step.ensures.decodes (search rules);
  begins = inl (omega (arith, c.write_items_once-step.ensures.advances));
}

pub loop-run-preserved-then-step-eq0 : goal.loop-run-preserved-then-step-eq0
loop-run-preserved-then-step-eq0 g c = record {
  decodes = DecodesTo-rest utf8_split _ utf8_chunks _ _ _ _ _ _ _ c.loop-run.invariant.decodes c.write_items_once-step.ensures.decodes (search rules);
  begins = inl (omega (arith, c.write_items_once-step.ensures.advances));
}
