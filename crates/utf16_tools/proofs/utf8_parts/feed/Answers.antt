use Rattle.std.proofs.Common.{◌+◌, ◌*◌, ◌++◌, length, length-append, arith}
use Rattle.utf16_transcode.specs.Stream.{stream_pending}
use Rattle.utf16_transcode.proofs.FeedsUtf8.{enough_after_tail}
use Rattle.utf16_tools.proofs.Utf8PartLemmas.{IsTail-pending, few_undecided}
use Rattle.utf16_tools.proofs.utf8_parts.feed.Goals as goal

pub returns-then-piece-le-SHORT_CHUNK-clause-succeeds : goal.returns-then-piece-le-SHORT_CHUNK-clause-succeeds
returns-then-piece-le-SHORT_CHUNK-clause-succeeds g c fits =
    let most = enough_after_tail _ c.args.piece.now (2 * length c.args.piece.now + 2) (IsTail-pending _ c.requires) (omega arith) in
    c.append_part.ensures.succeeds (omega (arith, most, fits))

pub returns-in_err-reserve-clause-nothing : goal.returns-in_err-reserve-clause-nothing
returns-in_err-reserve-clause-nothing g c none =
    absurd (omega (arith, few_undecided (stream_pending c.args.stream ++ c.args.piece.now) none, length-append (stream_pending c.args.stream) c.args.piece.now))

pub decode_parts-requires-clause-fits : goal.decode_parts-requires-clause-fits
decode_parts-requires-clause-fits g c =
    let most = enough_after_tail _ c.args.piece.now (2 * length c.args.piece.now + 2) (IsTail-pending _ c.requires) (omega arith) in
    omega (arith, most, c.in_ok-reserve.ensures.reserved, c.saturating_mul.ensures, c.saturating_add.ensures, c.reserve.new.self.raw.small)

pub returns-clause-nothing : goal.returns-clause-nothing
returns-clause-nothing g c none =
    absurd (omega (arith, few_undecided (stream_pending c.args.stream ++ c.args.piece.now) none, length-append (stream_pending c.args.stream) c.args.piece.now))
