use Rattle.std.proofs.Common.{rules}
use Rattle.utf16_transcode.proofs.StreamSteps.{DecodesTo-rest}
use Rattle.utf16_transcode.specs.Utf8Stream.{utf8_split}
use Rattle.utf16_transcode.proofs.DecodesUtf8.{DecodesUtf8To-text}
use Rattle.utf16_transcode.proofs.FeedsUtf8.{utf8_chunks}
use Rattle.utf16_transcode.proofs.FromUtf8Lemmas.{wrote_blocks}
use Rattle.utf16_transcode.proofs.encode_lossy.write_after_ill_formed.Goals as goal

pub loop-read-init : goal.loop-read-init
loop-read-init g c = c.write_items-read.ensures.decodes

pub returns-then-text-read-lt-ITEM_LEN : goal.returns-then-text-read-lt-ITEM_LEN
returns-then-text-read-lt-ITEM_LEN g c = DecodesTo-rest utf8_split _ utf8_chunks _ _ _ _ _ _ _ c.loop-read.invariant (DecodesUtf8To-text _ _ _ _ _ (wrote_blocks c.write_blocks-blocks.ensures.written)) (search rules)

pub loop-read-preserved : goal.loop-read-preserved
loop-read-preserved g c =
    let blocks = DecodesTo-rest utf8_split _ utf8_chunks _ _ _ _ _ _ _ c.loop-read.invariant (DecodesUtf8To-text _ _ _ _ _ (wrote_blocks c.write_blocks-blocks.ensures.written)) (search rules) in
    DecodesTo-rest utf8_split _ utf8_chunks _ _ _ _ _ _ _ blocks c.write_items-items.ensures.decodes (search rules)
