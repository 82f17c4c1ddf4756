use Rattle.std.proofs.Common.{[], append-nil, rules, ◌∙◌}
use Rattle.std.proofs.lemmas.List.{take_rest}
use Rattle.utf16_transcode.proofs.StreamSteps.{DecodesTo-window}
use Rattle.utf16_transcode.proofs.ToUtf8Parts.{utf16_chunks}
use Rattle.utf16_transcode.proofs.ascii.write_lossy_ascii_blocks.Goals as goal

pub loop-read-preserved : goal.loop-read-preserved
loop-read-preserved g c =
    DecodesTo-window _ _ (utf16_chunks g.E.Utf16Order.BIG) _ _ _ _ [] _ _ _ _ c.loop-read.invariant (append-nil _ ∙ take_rest c.args.raw.now c.loop-read.read) c.in-Some.ensures.decodes
    (search rules)
