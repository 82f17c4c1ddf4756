use Rattle.std.proofs.Common.{◌∙◌}
use Rattle.examples.proofs.transcode.swap_byte_order.Goals as goal

pub returns-clause-text : goal.returns-clause-text
returns-clause-text g c = rw c.into_bytes.ensures.vec (rw (c.in_ok-copy.ensures.bytes ∙ c.in_ok-text.ensures.bytes) at c.into_byte_order.ensures.encoding)
