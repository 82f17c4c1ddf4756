use Rattle.std.proofs.Common.{ℕ, ◌-◌, ◌<◌, ◌++◌, count_ones, ltb, map, take, slice_index, ap, ap₂, ◌∙◌, arith, refl, w8}
use Rattle.std.proofs.lemmas.List.{length-map}
use Rattle.std.proofs.lemmas.Simd.{SwzOk-from_below, length-swz_l, swz_l}
use Rattle.utf16_to_utf8.specs.Pack.{packed}
use Rattle.utf16_to_utf8.proofs.AddedLemmas.{one_or_two}
use Rattle.utf16_to_utf8.proofs.ListLemmas.{packed-units}
use Rattle.utf16_to_utf8.proofs.StoreLemmas.{packed-map, picked-by, stored-front, swz-picked}
use Rattle.utf16_to_utf8.proofs.pack.write_pairs.Goals as goal

pub swizzle-standing : goal.swizzle-standing
swizzle-standing c = SwzOk-from_below w8 16 1 16 0 c.places.result refl (omega (arith, c.places.ensures.long)) c.places.ensures.below

pub returns-clause-bytes : goal.returns-clause-bytes
returns-clause-bytes c before units eight bits are =
    let places = c.places.result in
    let long = c.places.ensures.long in
    let n = 16 - count_ones c.args.one in
    let pairs = c.lane_bytes.result in
    let standing = swz_l w8 16 pairs 0 places in
    let whole = length-swz_l w8 16 pairs 0 places in
    let is_one = λ (unit : ℕ). ltb unit 0x80 in
    let flags = map is_one units in
    stored-front c.args.at n c.args.out.now standing (omega (arith, whole, long)) (omega (arith, whole, long, c.requires.space))
    ∙ ap (λ bs. take c.args.at c.args.out.now ++ bs)
    (ap (take n) (swz-picked pairs 0 places (omega (arith, long)) c.places.ensures.below)
    ∙ picked-by (packed flags) (λ f. packed-map f flags) pairs places n c.lane_bytes.ensures.len (c.places.ensures.places flags (length-map units is_one ∙ eight) bits)
    ∙ packed-units is_one before units pairs (omega (arith, c.lane_bytes.ensures.len, eight)) (λ i lt.
    let lt8 : i < 8 = omega (arith, lt, eight) in
    let bytes = c.lane_bytes.ensures.bytes i lt8 in
    ap₂ (one_or_two (ltb (slice_index units i) 0x80)) bytes.0 bytes.1 ∙ are i lt8))
