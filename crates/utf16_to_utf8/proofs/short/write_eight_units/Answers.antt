use Rattle.std.proofs.Common.{◌<◌, ◌≤◌, length, arith, slice_index}
use Rattle.std.proofs.lemmas.List.Elements.{All-get_or}
use Rattle.utf16_to_utf8.proofs.AddedLemmas.{added_len-basic, threes-of}
use Rattle.utf16_to_utf8.proofs.short.write_eight_units.Goals as goal

pub returns-then-lanes_from-clause-bytes : goal.returns-then-lanes_from-clause-bytes
returns-then-lanes_from-clause-bytes c =
    let units = c.args.units in
    let above = c.lanes_from.ensures c.if-lanes_from.true in
    c.write_threes.ensures.bytes (slice_index c.args.previous 7) units c.fits-units.0
    (threes-of 8 units c.fits-units.0 c.fits-units.1 _ _ c.wide.ensures c.thirds.ensures (λ i lt.
    let within : i < length units = omega (arith, lt, c.fits-units.0) in
    added_len-basic (slice_index units i) (All-get_or (λ u. 0x800 ≤ u) units i 0 within above) (c.requires.none c.if-surrogates.false i within)))
