use Rattle.utf16_transcode.proofs.DecodedText.{between-lossy}
use Rattle.utf16_transcode.proofs.encode_lossy.from_utf8_lossy.Goals as goal

pub returns-clause-between : goal.returns-clause-between
returns-clause-between g c =
    between-lossy g.E.Utf16Order.BIG c.args.text.now _ _ _ _ c.transcode_lossy.result.stop c.transcode_lossy.ensures.shown c.transcode_lossy.ensures.stop c.transcode_lossy.ensures.between
