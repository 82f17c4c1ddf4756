use Rattle.std.proofs.Common.{◌<◌, length, slice_index, arith}
use Rattle.utf16_to_utf8.proofs.AddedLemmas.{letter-below, pairs-of}
use Rattle.utf16_to_utf8.proofs.short.write_two_at_most.Goals as goal

pub narrow-pairs-requires : goal.narrow-pairs-requires
narrow-pairs-requires c = (
  omega arith,
  λ none i lt.
      let within : i < length c.args.units = omega (arith, lt, c.fits-units.0) in
      letter-below (slice_index c.args.units i) (c.requires.none none i within) (c.requires.narrow i within),
)

pub returns-clause-bytes : goal.returns-clause-bytes
returns-clause-bytes c =
    let units = c.args.units in
    let before = slice_index c.args.previous 7 in
    c.write_pairs.ensures.bytes before units c.fits-units.0 c.ascii_bits.ensures.bits
    (pairs-of 8 units c.fits-units.0 c.fits-units.1 before _ c.previous_eight.ensures _ c.narrow-pairs.ensures (λ i lt. c.requires.narrow i (omega (arith, lt, c.fits-units.0))))
