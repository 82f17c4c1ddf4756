use Rattle.std.proofs.Common.{rules}
use Rattle.utf16string.proofs.wstring.inserts.insert_bytes.Goals as goal

pub returns-in_err-append-clause-err : goal.returns-in_err-append-clause-err
returns-in_err-append-clause-err g c = search rules

pub returns-clause-items : goal.returns-clause-items
returns-clause-items g c = c.move_in.ensures.items c.args.raw.now.items c.in_ok-append.ensures.items
