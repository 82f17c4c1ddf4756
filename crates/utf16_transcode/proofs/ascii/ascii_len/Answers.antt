use Rattle.std.proofs.Common.{◌<◌, ◌≤◌, All, slice_index, take, subst, arith}
use Rattle.utf16_transcode.proofs.AsciiLemmas.{ascii_front, ascii_len-all, ascii_len-few, ascii_len-lowest, other_there}
use Rattle.utf16_transcode.proofs.ascii.ascii_len.Goals as goal

pub returns-then-others-eq0-clause-ascii : goal.returns-then-others-eq0-clause-ascii
returns-then-others-eq0-clause-ascii g c =
    let are = c.high_bits-others.ensures in
    let long = c.fits-bytes.0 in
    subst (λ n. All (λ byte. byte < 0x80) (take n c.args.bytes)) (ascii_len-all c.args.bytes g.row.N long c.requires _ are c.if-others-eq0.true) (ascii_front c.args.bytes g.row.N long c.requires _ are c.fits-bytes.1)

pub returns-else-others-eq0-clause-few : goal.returns-else-others-eq0-clause-few
returns-else-others-eq0-clause-few g c =
    let are = c.high_bits-others.ensures in
    let long = c.fits-bytes.0 in
    subst (λ n. n ≤ g.row.N) (ascii_len-lowest c.args.bytes g.row.N long c.requires _ are (omega (arith, c.if-others-eq0.false))) (ascii_len-few c.args.bytes g.row.N long c.requires _ are)

pub returns-else-others-eq0-clause-ascii : goal.returns-else-others-eq0-clause-ascii
returns-else-others-eq0-clause-ascii g c =
    let are = c.high_bits-others.ensures in
    let long = c.fits-bytes.0 in
    subst (λ n. All (λ byte. byte < 0x80) (take n c.args.bytes)) (ascii_len-lowest c.args.bytes g.row.N long c.requires _ are (omega (arith, c.if-others-eq0.false))) (ascii_front c.args.bytes g.row.N long c.requires _ are c.fits-bytes.1)

pub returns-else-others-eq0-clause-stop : goal.returns-else-others-eq0-clause-stop
returns-else-others-eq0-clause-stop g c =
    let are = c.high_bits-others.ensures in
    let long = c.fits-bytes.0 in
    subst (λ n. n < g.row.N → 0x80 ≤ slice_index c.args.bytes n) (ascii_len-lowest c.args.bytes g.row.N long c.requires _ are (omega (arith, c.if-others-eq0.false))) (other_there c.args.bytes g.row.N long c.requires _ are)
