use Rattle.std.proofs.Common.{◌≡◌, ◌-◌, ◌<◌, ◌≤◌, ◌∙◌, ⊎_elim, ap, arith, length, subst, sym, take}
use Rattle.std.proofs.lemmas.Bool.{cases_lt}
use Rattle.std.proofs.lemmas.Str.{IsCharBoundary-from_take}
use Rattle.std.specs.Str.{IsCharBoundary, IsUtf8, chars}
use Rattle.utf16_units.specs.Encoding.{size}
use Rattle.utf16_transcode.specs.Transcoded.{TranscodesToUtf8, Writes}
use Rattle.utf16_transcode.proofs.DecodePrefixLemmas.{boundary_is_near, prefix_to_utf8, utf8_given}
use Rattle.utf16_transcode.proofs.decode.ToUtf8Direction.fitting_prefix.Goals as goal

pub from_utf8_unchecked-text-requires : goal.from_utf8_unchecked-text-requires
from_utf8_unchecked-text-requires g c = utf8_given g.E.Utf16Order.BIG _ _ c.requires.text

pub returns-clause-prefix : goal.returns-clause-prefix
returns-clause-prefix g c =
    let big = g.E.Utf16Order.BIG in
    let text = c.args._text.now in
    let utf8 = c.args.written.now in
    let end = c.floor_char_boundary-end in
    let same = c.from_utf8_unchecked-text.ensures in
    let all : end.result - 0 ≡ end.result = omega arith in
    let front = c.range.ensures.value ∙ ap (λ n. take n c.from_utf8_unchecked-text.result.now) all ∙ ap (take end.result) same in
    subst (λ n. Writes (TranscodesToUtf8 big) text utf8 n end.result) (sym (c.utf16_len.ensures ∙ ap (λ t. size (chars t)) front))
    (prefix_to_utf8 big text utf8 end.result c.requires.text (subst (λ t. IsCharBoundary t end.result) same end.ensures.boundary))

pub returns-clause-most : goal.returns-clause-most
returns-clause-most g c =
    let end = c.floor_char_boundary-end in
    let text = c.from_utf8_unchecked-text in
    boundary_is_near text.result.now end.result c.args.room text.utf8 end.ensures.boundary end.ensures.bound (omega (arith, c.requires.long, ap length text.ensures)) end.ensures.nearest

pub returns-clause-longest : goal.returns-clause-longest
returns-clause-longest g c read end wrote le =
    let last = c.floor_char_boundary-end in
    let text = c.from_utf8_unchecked-text in
    let utf8 = subst (λ t. IsUtf8 (take end t)) (sym text.ensures) (utf8_given g.E.Utf16Order.BIG _ _ wrote.gives) in
    ⊎_elim
    (λ (past : last.result < end). absurd (last.ensures.nearest end past le (IsCharBoundary-from_take text.result.now end text.utf8 (omega (arith, wrote.fits, ap length text.ensures)) utf8)))
    (λ (before : end ≤ last.result). before)
    (cases_lt last.result end)
