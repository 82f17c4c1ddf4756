use Rattle.std.proofs.Common.{sym, subst}
use Rattle.utf16_units.specs.Boundary.{IsBoundary}
use Rattle.utf16_units.specs.Encoding.{text_of}
use Rattle.utf16_units.proofs.BoundaryLemmas.{Encodes-to}
use Rattle.utf16_units.proofs.EncodingLemmas.{Encodes-text_of, IsUtf16-from_Encodes, text_of-Encodes}
use Rattle.utf16_transcode.specs.Transcoded.{Writes}
use Rattle.utf16_transcode.specs.FromUtf8.{TranscodesToUtf16}
use Rattle.utf16_transcode.proofs.EncodePrefixLemmas.{boundary_of, encoded, prefix_to_utf16}
use Rattle.utf16_transcode.proofs.encode.FromUtf8Direction.fitting_prefix.Goals as goal

pub last_boundary-end-requires-clause-text : goal.last_boundary-end-requires-clause-text
last_boundary-end-requires-clause-text g c = IsUtf16-from_Encodes _ _ _ (encoded g.E.Utf16Order.BIG c.args._text.now c.args.written.now c.requires.text)

pub utf8_len-requires : goal.utf8_len-requires
utf8_len-requires g c =
    let big = g.E.Utf16Order.BIG in
    let raw = c.args.written.now in
    let utf16 = IsUtf16-from_Encodes _ _ _ (encoded big c.args._text.now raw c.requires.text) in
    IsUtf16-from_Encodes _ _ _ (Encodes-to big (text_of big raw) raw c.last_boundary-end.result (Encodes-text_of big raw utf16) c.last_boundary-end.ensures.boundary)

pub returns-clause-prefix : goal.returns-clause-prefix
returns-clause-prefix g c =
    let big = g.E.Utf16Order.BIG in
    let utf8 = c.args._text.now in
    let end = c.last_boundary-end in
    let same = text_of-Encodes _ _ _ (encoded big utf8 c.args.written.now c.requires.text) in
    subst (λ n. Writes (TranscodesToUtf16 big) utf8 c.args.written.now n end.result) (sym c.utf8_len.ensures)
    (prefix_to_utf16 big utf8 c.args.written.now end.result c.requires.text (subst (λ t. IsBoundary t end.result) same end.ensures.boundary))

pub returns-clause-longest : goal.returns-clause-longest
returns-clause-longest g c read end wrote le =
    let big = g.E.Utf16Order.BIG in
    let same = text_of-Encodes _ _ _ (encoded big c.args._text.now c.args.written.now c.requires.text) in
    c.last_boundary-end.ensures.last end (subst (λ t. IsBoundary t end) (sym same) (boundary_of big _ _ read end c.requires.text wrote)) le
