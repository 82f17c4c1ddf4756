use Rattle.std.proofs.Common.{ℕ, ltb, slice_index, arith}
use Rattle.std.proofs.lemmas.Simd.{length-chunk}
use lib.Lanes.{chunk}
use Rattle.utf16_to_utf8.specs.Pack.{IsPair}
use Rattle.utf16_to_utf8.proofs.AddedLemmas.{letter-below, pairs-of}
use Rattle.utf16_to_utf8.proofs.BlockLemmas.{both_halves, of_eight}
use Rattle.utf16_to_utf8.proofs.WordLemmas.{mask-eights}
use Rattle.utf16_to_utf8.proofs.pack.write_narrow.Goals as goal

pub narrow-requires : goal.narrow-requires
narrow-requires c = (omega arith, λ none i lt. letter-below (slice_index c.args.units i) (c.requires.none none i lt) (c.requires.narrow i lt))

pub returns-clause-bytes : goal.returns-clause-bytes
returns-clause-bytes c =
    let units = c.args.units in
    let long = c.fits-units.0 in
    let before = slice_index c.args.previous 15 in
    let pairs = c.narrow.result in
    let low = c.eights.ensures.low in
    let high = c.eights.ensures.high in
    let bits = mask-eights (λ (unit : ℕ). ltb unit 0x80) units c.ascii_bits-one.result long c.ascii_bits-one.ensures.bits in
    let are = pairs-of 16 units long c.fits-units.1 before _ c.previous_lanes.ensures pairs c.narrow.ensures c.requires.narrow in
    both_halves 7 before units _ _ _ long
    (c.write_pairs-end.ensures.bytes before (chunk 0 8 units) (length-chunk 0 8 units (omega (arith, long))) bits.0
    (of_eight (λ p u x _ _. IsPair p u x) before 0 units (omega arith) pairs pairs pairs _ _ _ low low low are))
    (c.write_pairs.ensures.bytes (slice_index units 7) (chunk 8 8 units) (length-chunk 8 8 units (omega (arith, long))) bits.1
    (of_eight (λ p u x _ _. IsPair p u x) before 8 units (omega arith) pairs pairs pairs _ _ _ high high high are))
