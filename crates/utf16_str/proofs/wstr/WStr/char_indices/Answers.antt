use Rattle.std.proofs.Common.{ap, length, arith}
use Rattle.utf16_units.proofs.BoundaryLemmas.{length-le-size}
use Rattle.utf16_units.proofs.EncodingLemmas.{IsUtf16-from_is_utf16, length-text}
use Rattle.utf16_units.specs.Encoding.{size}
use Rattle.utf16_str.specs.WStr.{wstr_bytes, wstr_text}
use Rattle.utf16_str.proofs.OffsetLemmas.{in_order, in_reverse, offsets_stand, length-char_offsets}
use Rattle.utf16_str.proofs.wstr.WStr.char_indices.Goals as goal

pub invariant_of-result : goal.invariant_of-result
invariant_of-result g c =
    let bytes = wstr_bytes c.args.self in
    let long = length-text g.E.Utf16Order.BIG bytes (IsUtf16-from_is_utf16 g.E.Utf16Order.BIG bytes c.args.self.well_formed) in
    omega (arith, long, ap size c.chars.ensures.text)

pub returns-clause-bound : goal.returns-clause-bound
returns-clause-bound g c =
    let bytes = wstr_bytes c.args.self in
    let long = length-text g.E.Utf16Order.BIG bytes (IsUtf16-from_is_utf16 g.E.Utf16Order.BIG bytes c.args.self.well_formed) in
    omega (arith, long, length-le-size (wstr_text c.args.self), ap length c.chars.ensures.text, length-char_offsets 0 c.chars.result)

pub returns-clause-runs : goal.returns-clause-runs
returns-clause-runs g c = in_order

pub returns-clause-runs_back : goal.returns-clause-runs_back
returns-clause-runs_back g c = in_reverse

pub returns-clause-offsets : goal.returns-clause-offsets
returns-clause-offsets g c = rw c.chars.ensures.text (offsets_stand (wstr_text c.args.self))
