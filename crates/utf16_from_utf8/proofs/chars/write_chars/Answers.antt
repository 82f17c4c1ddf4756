use Rattle.std.proofs.Common.{◌≡◌, ◌-◌, ◌∙◌, ◌≤◌, List, ℕ, ap, arith, drop, length, length-drop, map-id, refl, sym}
use Rattle.std.proofs.lemmas.Iterator.{YieldsList-from_chars}
use Rattle.std.proofs.lemmas.Iterator.Consumers.{YieldsList-end, YieldsList-turn}
use Rattle.std.proofs.lemmas.List.{take_all}
use Rattle.std.specs.Str.{chars}
use Rattle.utf16_units.specs.Encoding.{encode, size}
use Rattle.utf16_units.proofs.EncodingLemmas.{encode-nil, size-nil}
use Rattle.utf16_units.proofs.PrefixLemmas.{IsPrefixOf, prefix-more, size-prefix, size-push}
use Rattle.utf16_from_utf8.proofs.FewLemmas.{written-more}
use Rattle.utf16_from_utf8.proofs.chars.write_chars.Goals as goal

-- what was written is within the buffer
within : (s given buf old : List ℕ) (len : ℕ) → IsPrefixOf given (chars s) → len ≡ size given → length buf ≡ length old → size (chars s) ≤ length old → len ≤ length buf
within s given buf old len begins counted same room = omega (arith, size-prefix given (chars s) begins)

pub loop-c-init : goal.loop-c-init
loop-c-init g c = record { begins = refl; counted = sym size-nil; written = sym (encode-nil g.E.Utf16Order.BIG) }

pub slice_bounds-encode_utf16_into-count : goal.slice_bounds-encode_utf16_into-count
slice_bounds-encode_utf16_into-count g c =
    within c.args.s.now c.loop-c.yielded _ _ _ c.loop-c.invariant.begins c.loop-c.invariant.counted c.loop-c.auto.buf c.requires

pub slice_bounds-encode_utf16_into-start : goal.slice_bounds-encode_utf16_into-start
slice_bounds-encode_utf16_into-start g c =
    within c.args.s.now c.loop-c.yielded _ _ _ c.loop-c.invariant.begins c.loop-c.invariant.counted c.loop-c.auto.buf c.requires

pub encode_utf16_into-len-requires : goal.encode_utf16_into-len-requires
encode_utf16_into-len-requires g c =
    let turn = YieldsList-turn (YieldsList-from_chars c.args.s.now c.utf8.s cc) c.loop-c.yielded _ c.loop-c.yielded_by _ _ c.in-Some.c c.in-Some.is c.next.ensures.steps in
    let more = size-prefix _ _ (prefix-more c.loop-c.yielded (chars c.args.s.now) c.in-Some.c c.loop-c.invariant.begins turn) in
    let k = length c.loop-c.buf - c.loop-c.len in
    let left = length-drop c.loop-c.len c.loop-c.buf in
    let all = ap length (take_all k (drop c.loop-c.len c.loop-c.buf) (omega arith)) in
    omega (arith, size-push c.loop-c.yielded c.in-Some.c, c.loop-c.invariant.counted, c.loop-c.auto.buf, c.requires)

pub returns-clause-bytes : goal.returns-clause-bytes
returns-clause-bytes g c =
    let end = YieldsList-end (YieldsList-from_chars c.args.s.now c.utf8.s cc) c.loop-c.yielded _ c.loop-c.yielded_by _ _ c.in-None.is c.next.ensures.steps in
    c.loop-c.invariant.written ∙ ap (encode g.E.Utf16Order.BIG) (sym (map-id c.loop-c.yielded) ∙ end.0)

pub returns-clause-written_to : goal.returns-clause-written_to
returns-clause-written_to g c =
    let end = YieldsList-end (YieldsList-from_chars c.args.s.now c.utf8.s cc) c.loop-c.yielded _ c.loop-c.yielded_by _ _ c.in-None.is c.next.ensures.steps in
    c.loop-c.invariant.counted ∙ ap size (sym (map-id c.loop-c.yielded) ∙ end.0)

pub loop-c-preserved : goal.loop-c-preserved
loop-c-preserved g c =
    let turn = YieldsList-turn (YieldsList-from_chars c.args.s.now c.utf8.s cc) c.loop-c.yielded _ c.loop-c.yielded_by _ _ c.in-Some.c c.in-Some.is c.next.ensures.steps in
    let inside = within c.args.s.now c.loop-c.yielded _ _ _ c.loop-c.invariant.begins c.loop-c.invariant.counted c.loop-c.auto.buf c.requires in
    let put = c.encode_utf16_into-len in
    let k = length c.loop-c.buf - c.loop-c.len in
    let left = length-drop c.loop-c.len c.loop-c.buf in
    let all = ap length (take_all k (drop c.loop-c.len c.loop-c.buf) (omega arith)) in
    record {
      begins = prefix-more c.loop-c.yielded (chars c.args.s.now) c.in-Some.c c.loop-c.invariant.begins turn;
      counted = omega (arith, size-push c.loop-c.yielded c.in-Some.c, c.loop-c.invariant.counted, put.ensures.len);
      written =
          written-more g.E.Utf16Order.BIG c.loop-c.buf put.new.buf _ c.loop-c.yielded c.loop-c.len c.in-Some.c put.result c.loop-c.invariant.written c.loop-c.invariant.counted inside put.ensures.bytes put.ensures.len (omega (arith, put.auto.buf));
    }
