use Rattle.utf16_from_utf8.proofs.WrittenLemmas.{none-written}
use Rattle.utf16_from_utf8.proofs.text.write_short_prefix.Goals as goal

pub returns-then-bytes-lt-FEW_TEXT-clause-written : goal.returns-then-bytes-lt-FEW_TEXT-clause-written
returns-then-bytes-lt-FEW_TEXT-clause-written g c = none-written g.E.Utf16Order.BIG _ _
