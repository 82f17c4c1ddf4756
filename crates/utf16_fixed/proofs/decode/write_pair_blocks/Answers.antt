use Rattle.std.proofs.Common.{◌≡◌, ◌+◌, ◌-◌, ◌*◌, length, arith, rules, subst}
use borrow.Rule.Slice.PartMut.{put_mid}
use Rattle.utf16_transcode.specs.Transcoded.{Writes}
use Rattle.utf16_units.proofs.IllFormedLemmas.{rest_from}
use Rattle.utf16_fixed.proofs.PartLemmas.{Writes-rest}
use Rattle.utf16_fixed.specs.Utf32.{TranscodesToUtf32}
use Rattle.utf16_fixed.proofs.TextLemmas.{utf32_joins}
use Rattle.utf16_fixed.proofs.decode.write_pair_blocks.Goals as goal
use Rattle.utf16_fixed.proofs.decode.write_pair_blocks.Given.{Over}
use Rattle.utf16_fixed.proofs.decode.write_pair_blocks.Goals.{After-write_pairs-len}

-- the code units that count are written
after : (g : Over) (c : After-write_pairs-len g)
    → Writes (TranscodesToUtf32 g.E.Utf16Order.BIG) c.args.raw.now
    (put_mid c.loop-read.written (length c.loop-read.to - c.loop-read.written) c.loop-read.to c.write_pairs-len.new.to)
    (c.loop-read.read + 4 * c.write_pairs-len.result) (c.loop-read.written + c.write_pairs-len.result)
after g c =
    let n = c.write_pairs-len.result in
    let block : Writes (TranscodesToUtf32 g.E.Utf16Order.BIG) (rest_from c.args.raw.now c.loop-read.read) c.write_pairs-len.new.to (4 * n) n =
    record { within = search rules; fits = search rules; gives = c.write_pairs-len.ensures.text } in
    Writes-rest (utf32_joins g.E.Utf16Order.BIG) _ _ _ _ _ _ _ c.loop-read.invariant.wrote block (search rules)

pub returns-then-len-lt8-clause-wrote : goal.returns-then-len-lt8-clause-wrote
returns-then-len-lt8-clause-wrote g c = after g (goal.at.returns-then-len-lt8-clause-wrote g c).After-write_pairs-len

pub loop-read-preserved : goal.loop-read-preserved
loop-read-preserved g c =
    let big = g.E.Utf16Order.BIG in
    let at = c.loop-read.written in
    let to = put_mid at (length c.loop-read.to - at) c.loop-read.to c.write_pairs-len.new.to in
    let all : c.write_pairs-len.result ≡ 8 = omega (arith, c.write_pairs-len.ensures.few, c.if-len-lt8.false) in
    record {
      wrote = subst (λ n. Writes (TranscodesToUtf32 big) c.args.raw.now to (c.loop-read.read + 4 * n) (at + n)) all (after g (goal.at.loop-read-preserved g c).After-write_pairs-len);
      after = search rules;
    }
