use Rattle.std.proofs.Common.{arith}
use Rattle.utf16_units.proofs.BoundaryLemmas.{length-le-size}
use Rattle.utf16_units.proofs.EncodingLemmas.{IsUtf16-from_is_utf16, length-text}
use Rattle.utf16_str.specs.WStr.{wstr_bytes, wstr_text}
use Rattle.utf16_str.proofs.OffsetLemmas.{in_order, in_reverse}
use Rattle.utf16_str.proofs.wstr.WStr.chars.Goals as goal

pub returns-clause-bound : goal.returns-clause-bound
returns-clause-bound g c =
    let bytes = wstr_bytes c.args.self in
    let long = length-text g.E.Utf16Order.BIG bytes (IsUtf16-from_is_utf16 g.E.Utf16Order.BIG bytes c.args.self.well_formed) in
    omega (arith, long, length-le-size (wstr_text c.args.self))

pub returns-clause-runs : goal.returns-clause-runs
returns-clause-runs g c = in_order

pub returns-clause-runs_back : goal.returns-clause-runs_back
returns-clause-runs_back g c = in_reverse
