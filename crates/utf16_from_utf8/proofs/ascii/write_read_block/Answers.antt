use Rattle.std.proofs.Common.{◌*◌, ◌++◌, take, drop, slice_index, refl, sym, ap, ◌∙◌, arith}
use Rattle.std.specs.Str.{chars}
use Rattle.utf16_units.specs.Encoding.{encode}
use Rattle.std.proofs.lemmas.Simd.{get_or-chunk}
use Rattle.utf16_from_utf8.proofs.AsciiLemmas.{block-written}
use Rattle.utf16_from_utf8.proofs.ascii.write_read_block.Goals as goal

pub write_ascii_block-requires-clause-ascii : goal.write_ascii_block-requires-clause-ascii
write_ascii_block-requires-clause-ascii g c i below =
    omega (arith, ap (λ v. slice_index v i) c.requires.read, get_or-chunk c.args.at 16 c.args.bytes.now i 0 below, c.requires.ascii i below)

pub returns-clause-written : goal.returns-clause-written
returns-clause-written g c before done =
    let out = c.write_ascii_block.new.out in
    let wrote = c.write_ascii_block.ensures in
    block-written g.E.Utf16Order.BIG c.args.bytes.now before c.args.out.now out c.args.at _ refl c.requires.more c.requires.ascii
    (ap (λ n. take n out) (sym wrote.written_to) ∙ wrote.bytes ∙ ap (λ b. take (2 * c.args.at) c.args.out.now ++ encode g.E.Utf16Order.BIG (chars b)) c.requires.read)
    (ap (λ n. drop n out) (sym wrote.written_to) ∙ wrote.rest ∙ ap (λ n. drop n c.args.out.now) wrote.written_to)
    done
