use Rattle.utf16_str.proofs.wstr.WStrOrd.cmp.Goals as goal

pub returns-clause-cmp : goal.returns-clause-cmp
returns-clause-cmp g c = cc

pub returns-clause-less : goal.returns-clause-less
returns-clause-less g c = rw (← c.as_bytes.ensures.bytes, ← c.as_bytes-2.ensures.bytes) c.compare.ensures.less

pub returns-clause-equal : goal.returns-clause-equal
returns-clause-equal g c = rw (← c.as_bytes.ensures.bytes, ← c.as_bytes-2.ensures.bytes) c.compare.ensures.equal

pub returns-clause-greater : goal.returns-clause-greater
returns-clause-greater g c = rw (← c.as_bytes.ensures.bytes, ← c.as_bytes-2.ensures.bytes) c.compare.ensures.greater
