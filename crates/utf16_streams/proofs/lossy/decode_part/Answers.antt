use Rattle.std.proofs.Common.{◌≡◌, ◌+◌, ◌<◌, ◌≤◌, ◌++◌, length, string_bytes, take, sym, ap, ◌∙◌, subst, arith, rules}
use Rattle.std.specs.Str.{IsUtf8}
use Rattle.std.specs.String.{string_capacity, string_len}
use Rattle.utf16_units.specs.Split.{split_items}
use Rattle.utf16_transcode.proofs.DecodesLemmas.{shown}
use Rattle.utf16_transcode.specs.Stream.{stream_pending}
use Rattle.utf16_transcode.specs.declared.progress.Stop.TheVariants.{Done}
use Rattle.utf16_streams.proofs.PartLemmas.{Decodes-part, part_none}
use Rattle.utf16_streams.proofs.lossy.decode_part.Given.{Over}
use Rattle.utf16_streams.proofs.lossy.decode_part.Goals as goal
use Rattle.utf16_streams.proofs.lossy.decode_part.Goals.{After-feed-written, After-part_that_fits}

decided : (g : Over) (c : After-part_that_fits g) → let part = c.part_that_fits.result.0.now in
    shown (split_items g.E.Utf16Order.BIG (c.pending.result.now ++ part)) ≡ shown (split_items g.E.Utf16Order.BIG (stream_pending c.args.stream ++ part))
decided g c = ap (λ h. shown (split_items g.E.Utf16Order.BIG (h ++ c.part_that_fits.result.0.now))) c.pending.ensures.bytes

-- it fits
whole : (g : Over) (c : After-feed-written g) → c.feed-written.result.stop ≡ Done
whole g c = c.feed-written.ensures.done.1 (omega (arith, ap length (decided g (goal.at.After-feed-written g c).After-part_that_fits), c.part_that_fits.ensures.within))

text : (g : Over) (c : After-feed-written g) → take c.feed-written.result.written c.feed-written.new.to
    ≡ shown (split_items g.E.Utf16Order.BIG (stream_pending c.args.stream ++ c.part_that_fits.result.0.now))
text g c = c.feed-written.ensures.text (whole g c)

pub from_utf8_unchecked-requires : goal.from_utf8_unchecked-requires
from_utf8_unchecked-requires g c =
    let at = goal.at.from_utf8_unchecked-requires g c in
    subst IsUtf8 (decided g at.After-part_that_fits ∙ sym (text g at.After-feed-written)) c.part_that_fits.ensures.utf8

pub returns-in_err-push_str-clause-nothing : goal.returns-in_err-push_str-clause-nothing
returns-in_err-push_str-clause-nothing g c none =
    let empty = part_none _ _ _ _ _ c.part_that_fits.ensures.joined none in
    let zero : length c.from_utf8_unchecked.result.now ≡ 0 = ap length (c.from_utf8_unchecked.ensures ∙ text g (goal.at.returns-in_err-push_str-clause-nothing g c).After-feed-written ∙ ap shown empty) in
    let full : string_capacity c.args.to.now < string_len c.args.to.now + length c.from_utf8_unchecked.result.now = search rules in
    let fits : string_len c.args.to.now ≤ string_capacity c.args.to.now = search rules in
    absurd (omega arith)

pub returns-clause-decoded : goal.returns-clause-decoded
returns-clause-decoded g c =
    let fed = (goal.at.returns-clause-decoded g c).After-feed-written in
    Decodes-part _ _ _ _ _ c.part_that_fits.ensures.joined _ _ _ (c.feed-written.ensures.pending (whole g fed))
    (c.in_ok-push_str.ensures.bytes ∙ ap (λ t. string_bytes c.args.to.now ++ t) (c.from_utf8_unchecked.ensures ∙ text g fed))

pub returns-clause-undecided : goal.returns-clause-undecided
returns-clause-undecided g c = c.feed-written.ensures.undecided (whole g (goal.at.returns-clause-undecided g c).After-feed-written)
