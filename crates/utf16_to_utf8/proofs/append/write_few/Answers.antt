use Rattle.std.proofs.Common.{eqb-true, length, rules}
use Rattle.utf16_to_utf8.proofs.SpaceLemmas.{all-written}
use Rattle.utf16_to_utf8.proofs.append.write_few.Goals as goal

pub returns-clause-appended : goal.returns-clause-appended
returns-clause-appended g c =
    let rest = c.loop-rest.rest.now in
    record {
      bytes = all-written g.E.Utf16Order.BIG rest _ _ (eqb-true (length rest) 0 (search rules)) c.loop-rest.invariant.written;
      grows = c.loop-rest.invariant.grows;
    }
