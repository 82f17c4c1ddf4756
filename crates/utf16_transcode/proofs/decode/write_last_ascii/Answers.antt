use Rattle.std.proofs.Common.{◌≡◌, ◌+◌, ◌-◌, ◌%◌, ◌<◌, All, arith, length, length-take-le, refl, rules, subst, take}
use borrow.Rule.Slice.PartMut.{put_mid}
use Rattle.std.proofs.lemmas.List.{take_rest}
use Rattle.utf16_units.proofs.IllFormedLemmas.{rest_from}
use Rattle.utf16_units.specs.Encoding.{units_of}
use Rattle.utf16_units.proofs.BackChar.{length-even}
use Rattle.utf16_transcode.specs.Transcoded.{TranscodesToUtf8, Writes}
use Rattle.utf16_transcode.proofs.LastLemmas.{taken_back, written_half}
use Rattle.utf16_transcode.proofs.ToUtf8Lemmas.{utf8_joins}
use Rattle.utf16_transcode.proofs.TranscodedLemmas.{WritesAt-put, Writes-then}
use Rattle.utf16_transcode.proofs.decode.write_last_ascii.Goals as goal

pub overflow_sub-end-2 : goal.overflow_sub-end-2
overflow_sub-end-2 g c =
    let half = written_half g.E.Utf16Order.BIG c.args.raw.now c.args.to.now c.args.from.read c.args.from.written c.requires.wrote in
    omega (arith, half, c.if-end-lt16.false, c.requires.ascii)

pub write_eight_ascii-requires-clause-space : goal.write_eight_ascii-requires-clause-space
write_eight_ascii-requires-clause-space g c =
    let half = written_half g.E.Utf16Order.BIG c.args.raw.now c.args.to.now c.args.from.read c.args.from.written c.requires.wrote in
    search (arith, half, c.if-end-lt16.false, c.requires.ascii, c.requires.space)

pub returns-clause-wrote : goal.returns-clause-wrote
returns-clause-wrote g c =
    let big = g.E.Utf16Order.BIG in
    let raw = c.args.raw.now in
    let to = c.args.to.now in
    let read = c.args.from.read in
    let written = c.args.from.written in
    let last = c.args.end.read in
    let before = c.requires.wrote in
    let many = c.if-end-lt16.false in
    let half = written_half big raw to read written before in
    let part = c.write_eight_ascii.new.to in
    let eight = c.if-not-write_eight_ascii.ensures in
    let start = last - 16 in
    let end = c.args.end.written - 8 in
    let all : start + 16 ≡ last = omega (arith, many) in
    let there : end + 8 ≡ c.args.end.written = omega (arith, half, many, c.requires.ascii) in
    let low = subst (λ t. All (λ unit. unit < 0x80) (units_of big (take 16 t))) (take_rest raw start) (eight.ascii.0 refl) in
    let even : read % 2 ≡ 0 = omega (arith, length-even big _ before.gives.0, length-take-le read raw before.within) in
    let back = taken_back big raw to read written start 16 before (omega (arith, c.requires.few, all)) (omega (arith, even, c.requires.ascii, all)) (omega (arith, c.if-end-from.false, all)) low end
    (omega (arith, even, c.requires.ascii, c.requires.few, all, there)) in
    subst (λ n. Writes (TranscodesToUtf8 big) raw (put_mid end (length to - end) to part) n c.args.end.written) all
    (subst (Writes (TranscodesToUtf8 big) raw (put_mid end (length to - end) to part) (start + 16)) there
    (Writes-then (utf8_joins big) raw to _ start end 16 (end + 8) back
    (WritesAt-put (rest_from raw start) to part (take 8 part) end 16 8 back.fits (search rules) (search rules) (eight.well_formed refl, eight.utf8 refl) refl (search rules))))
