use Rattle.utf16_str.proofs.wstr.WStr+BigEndian.from_utf16be.Goals as goal

pub returns-clause-ok : goal.returns-clause-ok
returns-clause-ok c = c.from_utf16.ensures.ok

pub returns-clause-error : goal.returns-clause-error
returns-clause-error c = c.from_utf16.ensures.error
