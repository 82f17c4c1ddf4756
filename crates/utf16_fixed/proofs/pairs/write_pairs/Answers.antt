use Rattle.std.proofs.Common.{All, ◌≡◌, ◌+◌, ◌*◌, ◌≤◌, ◌∙◌, flat_map, length, length-take-le, map, take, ap, sym, subst, arith, take-take, w8}
use Rattle.std.proofs.lemmas.List.{length-map}
use Rattle.std.proofs.lemmas.Simd.{chunk-fits, take_more_put_chunk}
use lib.Lanes.{put_chunk}
use Rattle.utf16_units.specs.Encoding.{Encodes, units_of}
use Rattle.utf16_units.specs.Unit.{unit_bytes}
use Rattle.utf16_units.proofs.UnitsUpTo.{length-units_of}
use Rattle.utf16_fixed.specs.Pairs.{joined, pair_bits, pair_char, pair_test}
use Rattle.utf16_fixed.proofs.PairLemmas.{Encodes-pairs, units-fit}
use Rattle.utf16_fixed.proofs.TextLemmas.{block_bytes}
use Rattle.utf16_fixed.proofs.pairs.write_pairs.Goals as goal

pub returns-clause-text : goal.returns-clause-text
returns-clause-text g c =
    let big = g.E.Utf16Order.BIG in
    let raw = c.args.raw.now in
    let to = c.args.to.now in
    let n = c.len_up_to.result in
    let few = c.len_up_to.ensures.few in
    let block = take 32 raw in
    let units = units_of big block in
    let pairs = c.joined in
    let bits = c.bits_of-bits.ensures ∙ ap (map pair_bits) pairs.ensures.units in
    let chars = c.chars_of.ensures ∙ ap (map pair_char) bits in
    let long : length c.chars_of.result ≡ 8 =
    ap length (c.chars_of.ensures ∙ ap (map pair_char) c.bits_of-bits.ensures) ∙ length-map (map pair_bits pairs.result) pair_char ∙ length-map pairs.result pair_bits ∙ pairs.ensures.len in
    let tests : All (λ test. test ≤ 0x3FF) (take n (map pair_test (map pair_bits (joined units)))) =
    subst (λ ts. All (λ test. test ≤ 0x3FF) (take n ts)) (c.tests_of.ensures ∙ ap (map pair_test) bits) c.len_up_to.ensures.up_to in
    let many : n + n ≤ length units = omega (arith, few, length-units_of big block, length-take-le 32 raw c.requires.bytes) in
    let four : 2 * (n + n) ≡ 4 * n = omega arith in
    let bytes : flat_map (unit_bytes big) (take (n + n) units) ≡ take (4 * n) raw =
    block_bytes big raw 32 (n + n) c.requires.bytes (omega (arith, few)) c.type_inv.raw ∙ ap (λ k. take k raw) four in
    let stored : take n (put_chunk 0 to c.chars_of.result) ≡ take n (map pair_char (map pair_bits (joined units))) =
    sym (take-take n 8 (put_chunk 0 to c.chars_of.result) few) ∙ ap (take n) (take_more_put_chunk 0 to c.chars_of.result 8 (omega (arith, long)) c.requires.space ∙ chars) in
    subst (λ t. Encodes big t (take (4 * n) raw)) (sym stored)
    (subst (Encodes big (take n (map pair_char (map pair_bits (joined units))))) bytes
    (Encodes-pairs big n units many (units-fit big block (chunk-fits w8 0 32 raw c.type_inv.raw)) tests))
