use Rattle.examples.proofs.transcode.to_utf8_in.Goals as goal

pub returns-in-Big-clause-text : goal.returns-in-Big-clause-text
returns-in-Big-clause-text g c = rw c.in-Big.is c.to_utf8.ensures.text

pub returns-in-Big-clause-error : goal.returns-in-Big-clause-error
returns-in-Big-clause-error g c = rw c.in-Big.is c.to_utf8.ensures.error
