use Rattle.std.proofs.Common.{arith, refl, rules}
use Rattle.utf16_transcode.proofs.TranscodedLemmas.{WritesAt-none, WritesAt-put, enough}
use Rattle.utf16_transcode.proofs.transcoding.write_valid.Goals as goal

pub returns-then-len-eq0 : goal.returns-then-len-eq0
returns-then-len-eq0 g c = WritesAt-none c.laws.ensures.of_nothing c.args.rest.now _ _ c.args.at (omega (arith, c.requires)) refl

pub returns : goal.returns
returns g c =
    WritesAt-put c.args.rest.now c.args.to.now c.write-written.new.to _ c.args.at c.valid_len-len.result c.write-written.result (omega (arith, c.requires)) (search rules) c.valid_len-len.ensures.within
    (c.valid_len-len.ensures.valid, refl) c.write-written.ensures.bytes (enough _ _ _ c.write-written.ensures.bytes c.write-written.ensures.len)
