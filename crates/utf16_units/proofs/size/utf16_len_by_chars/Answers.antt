use Rattle.std.proofs.Common.{◌∙◌, ap, arith, map-id, refl, sym}
use Rattle.std.proofs.lemmas.Iterator.{YieldsList-from_chars}
use Rattle.std.proofs.lemmas.Iterator.Consumers.{YieldsList-end, YieldsList-turn}
use Rattle.std.specs.Str.{chars}
use Rattle.utf16_units.specs.Encoding.{size}
use Rattle.utf16_units.proofs.EncodingLemmas.{size-nil}
use Rattle.utf16_units.proofs.PrefixLemmas.{prefix-more, size-prefix, size-push}
use Rattle.utf16_units.proofs.SizeLemmas.{size-le}
use Rattle.utf16_units.proofs.size.utf16_len_by_chars.Goals as goal

pub loop-c-init : goal.loop-c-init
loop-c-init c = record { begins = refl; counted = sym size-nil }

pub overflow_add-len : goal.overflow_add-len
overflow_add-len c =
    let turn = YieldsList-turn (YieldsList-from_chars c.args.s.now c.utf8.s cc) c.loop-c.yielded _ c.loop-c.yielded_by _ _ c.in-Some.c c.in-Some.is c.next.ensures.steps in
    let more = prefix-more c.loop-c.yielded (chars c.args.s.now) c.in-Some.c c.loop-c.invariant.begins turn in
    let bound = size-le c.args.s.now c.utf8.s in
    let front = size-prefix _ _ more in
    omega (arith, size-push c.loop-c.yielded c.in-Some.c, c.loop-c.invariant.counted, c.encoded_utf16_len-len.ensures)

pub loop-c-preserved : goal.loop-c-preserved
loop-c-preserved c =
    let turn = YieldsList-turn (YieldsList-from_chars c.args.s.now c.utf8.s cc) c.loop-c.yielded _ c.loop-c.yielded_by _ _ c.in-Some.c c.in-Some.is c.next.ensures.steps in
    record {
      begins = prefix-more c.loop-c.yielded (chars c.args.s.now) c.in-Some.c c.loop-c.invariant.begins turn;
      counted = omega (arith, size-push c.loop-c.yielded c.in-Some.c, c.loop-c.invariant.counted, c.encoded_utf16_len-len.ensures);
    }

pub returns : goal.returns
returns c =
    let end = YieldsList-end (YieldsList-from_chars c.args.s.now c.utf8.s cc) c.loop-c.yielded _ c.loop-c.yielded_by _ _ c.in-None.is c.next.ensures.steps in
    c.loop-c.invariant.counted ∙ ap size (sym (map-id c.loop-c.yielded) ∙ end.0)
