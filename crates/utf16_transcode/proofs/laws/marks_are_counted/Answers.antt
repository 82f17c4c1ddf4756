use Rattle.utf16_units.specs.Split.{split_items, split_tail}
use Rattle.utf8_bytes.specs.Split.{split_items as utf8_split_items, split_tail as utf8_split_tail}
use Rattle.utf16_transcode.proofs.MarkLemmas.{marks-whole, utf8_marks-whole}
use Rattle.utf16_transcode.proofs.laws.marks_are_counted.Goals as goal

pub returns-clause-utf16 : goal.returns-clause-utf16
returns-clause-utf16 c = λ big bytes. marks-whole (split_items big bytes) (split_tail big bytes)

pub returns-clause-utf8 : goal.returns-clause-utf8
returns-clause-utf8 c = λ bytes. utf8_marks-whole (utf8_split_items bytes) (utf8_split_tail bytes)
