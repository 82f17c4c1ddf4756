use Rattle.std.proofs.Common.{arith}
use Rattle.utf16_from_utf8.proofs.ReadLemmas.{text-ends}
use Rattle.utf16_from_utf8.proofs.read.whole_len.Goals as goal

pub returns-then-bytes-len-ge192-clause-text : goal.returns-then-bytes-len-ge192-clause-text
returns-then-bytes-len-ge192-clause-text c utf8 = absurd (omega (arith, c.if-bytes-len-ge192.true, (text-ends c.args.bytes.now c.requires utf8).0))

pub returns-then-bytes-len-ge224-clause-text : goal.returns-then-bytes-len-ge224-clause-text
returns-then-bytes-len-ge224-clause-text c utf8 = absurd (omega (arith, c.if-bytes-len-ge224.true, (text-ends c.args.bytes.now c.requires utf8).1))

pub returns-then-bytes-len-ge240-clause-text : goal.returns-then-bytes-len-ge240-clause-text
returns-then-bytes-len-ge240-clause-text c utf8 = absurd (omega (arith, c.if-bytes-len-ge240.true, (text-ends c.args.bytes.now c.requires utf8).2))
