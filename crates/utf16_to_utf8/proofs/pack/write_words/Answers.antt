use Rattle.std.proofs.Common.{◌-◌, ◌++◌, count_ones, take, ap, ◌∙◌, arith, refl, w8}
use Rattle.std.proofs.lemmas.Simd.{SwzOk-from_below, length-swz_l, swz_l}
use Rattle.utf16_to_utf8.specs.Pack.{packed_words}
use Rattle.utf16_to_utf8.proofs.StoreLemmas.{picked-by, stored-front, swz-picked}
use Rattle.utf16_to_utf8.proofs.WordLemmas.{packed_words-map}
use Rattle.utf16_to_utf8.proofs.pack.write_words.Goals as goal

pub swizzle-standing : goal.swizzle-standing
swizzle-standing c = SwzOk-from_below w8 16 1 16 0 c.word_places.result refl (omega (arith, c.word_places.ensures.long)) c.word_places.ensures.below

pub returns-clause-bytes : goal.returns-clause-bytes
returns-clause-bytes c bits eight is =
    let places = c.word_places.result in
    let long = c.word_places.ensures.long in
    let n = 12 - count_ones c.args.flags in
    let standing = swz_l w8 16 c.args.words 0 places in
    let whole = length-swz_l w8 16 c.args.words 0 places in
    stored-front c.args.at n c.args.out.now standing (omega (arith, whole, long)) (omega (arith, whole, long, c.requires.space))
    ∙ ap (λ bs. take c.args.at c.args.out.now ++ bs)
    (ap (take n) (swz-picked c.args.words 0 places (omega (arith, long)) c.word_places.ensures.below)
    ∙ picked-by (packed_words bits) (λ f. packed_words-map f bits) c.args.words places n c.fits-words.0 (c.word_places.ensures.places bits eight is))
