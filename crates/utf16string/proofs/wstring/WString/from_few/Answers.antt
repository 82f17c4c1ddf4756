use Rattle.std.proofs.Common.{◌≡◌, ◌∙◌, ap, arith, length, map-id, refl, sym}
use Rattle.std.proofs.lemmas.Bool.{false≢true}
use Rattle.std.proofs.lemmas.Iterator.{YieldsList-from_chars}
use Rattle.std.proofs.lemmas.Iterator.Consumers.{YieldsList-end, YieldsList-turn}
use Rattle.std.specs.Str.{chars}
use Rattle.utf16_units.specs.Encoding.{encode, size, text_of}
use Rattle.utf16_units.proofs.EncodingLemmas.{encode-nil, length-encode, size-nil}
use Rattle.utf16_units.proofs.PrefixLemmas.{prefix-more, size-prefix, size-push}
use Rattle.utf16string.proofs.Converted.{converted-IsUtf16, converted-text, encode-push}
use Rattle.utf16string.proofs.wstring.WString.from_few.Given.{Over}
use Rattle.utf16string.proofs.wstring.WString.from_few.Goals as goal
use Rattle.utf16string.proofs.wstring.WString.from_few.Goals.{In-None}

pub returns-in_err-raw-clause-nothing : goal.returns-in_err-raw-clause-nothing
unfolding chars
returns-in_err-raw-clause-nothing g c none =
    absurd (false≢true (c.in_err-raw.ensures.succeeds (c.utf16_len_by_chars.ensures ∙ ap (λ s. size (chars s)) none ∙ size-nil)))

pub loop-c-init : goal.loop-c-init
loop-c-init g c = record { begins = refl; written = c.in_ok-raw.ensures.items ∙ sym (encode-nil g.E.Utf16Order.BIG); exact = c.in_ok-raw.ensures.exact ∙ c.utf16_len_by_chars.ensures }

pub write_char-requires : goal.write_char-requires
write_char-requires g c =
    let turn = YieldsList-turn (YieldsList-from_chars c.args.s.now c.utf8.s cc) c.loop-c.yielded _ c.loop-c.yielded_by _ _ c.in-Some.c c.in-Some.is c.next.ensures.steps in
    let more = size-prefix _ _ (prefix-more c.loop-c.yielded (chars c.args.s.now) c.in-Some.c c.loop-c.invariant.begins turn) in
    let done = ap length c.loop-c.invariant.written ∙ length-encode g.E.Utf16Order.BIG c.loop-c.yielded in
    omega (arith, size-push c.loop-c.yielded c.in-Some.c, done, c.loop-c.raw.ok.0, c.loop-c.invariant.exact)

pub loop-c-preserved : goal.loop-c-preserved
loop-c-preserved g c =
    let turn = YieldsList-turn (YieldsList-from_chars c.args.s.now c.utf8.s cc) c.loop-c.yielded _ c.loop-c.yielded_by _ _ c.in-Some.c c.in-Some.is c.next.ensures.steps in
    record {
      begins = prefix-more c.loop-c.yielded (chars c.args.s.now) c.in-Some.c c.loop-c.invariant.begins turn;
      written = c.write_char.ensures.items ∙ encode-push g.E.Utf16Order.BIG c.loop-c.raw.items c.loop-c.yielded c.in-Some.c c.loop-c.invariant.written;
      exact = c.write_char.ensures.capacity ∙ c.loop-c.invariant.exact;
    }

-- all characters were written
whole : (g : Over) (c : In-None g) → c.loop-c.raw.items ≡ encode g.E.Utf16Order.BIG (chars c.args.s.now)
whole g c =
    let end = YieldsList-end (YieldsList-from_chars c.args.s.now c.utf8.s cc) c.loop-c.yielded _ c.loop-c.yielded_by _ _ c.in-None.is c.next.ensures.steps in
    c.loop-c.invariant.written ∙ ap (encode g.E.Utf16Order.BIG) (sym (map-id c.loop-c.yielded) ∙ end.0)

pub from_utf16_unchecked-requires : goal.from_utf16_unchecked-requires
from_utf16_unchecked-requires g c =
    converted-IsUtf16 g.E.Utf16Order.BIG c.args.s.now c.loop-c.raw.items c.utf8.s (whole g (goal.at.from_utf16_unchecked-requires g c).In-None)

pub returns-clause-text : goal.returns-clause-text
returns-clause-text g c =
    ap (λ v. text_of g.E.Utf16Order.BIG v.items) c.from_utf16_unchecked.ensures.vec
    ∙ converted-text g.E.Utf16Order.BIG c.args.s.now c.loop-c.raw.items c.utf8.s (whole g (goal.at.returns-clause-text g c).In-None)
