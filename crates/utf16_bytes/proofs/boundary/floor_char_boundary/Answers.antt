use Rattle.std.proofs.Common.{◌*◌, ◌/◌, arith, refl}
use Rattle.std.proofs.lemmas.Bool.{false≢true}
use Rattle.utf16_bytes.proofs.FloorLemmas.{IsLastCut-before}
use Rattle.utf16_bytes.proofs.boundary.floor_char_boundary.Goals as goal

pub returns-else-is_char_boundary-clause-last : goal.returns-else-is_char_boundary-clause-last
returns-else-is_char_boundary-clause-last g c =
    IsLastCut-before g.E.Utf16Order.BIG c.args.utf16.now (c.args.at / 2 * 2) (omega arith) (omega arith) (λ cut. false≢true (c.if-is_char_boundary.ensures.1 cut)) c.args.at (omega arith) refl
