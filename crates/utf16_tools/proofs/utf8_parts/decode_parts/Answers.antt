use Rattle.std.proofs.Common.{◌++◌, refl, sym, ap, ◌∙◌, arith, rules, true≢false}
use Rattle.std.proofs.lemmas.List.{nil_from_length}
use Rattle.utf16_units.specs.Encoding.{size}
use Rattle.utf16_units.proofs.EncodingLemmas.{size-nil}
use Rattle.utf8_bytes.specs.Split.{split_tail}
use Rattle.utf16_transcode.specs.Stream.{stream_pending}
use Rattle.utf16_tools.proofs.Utf8PartLemmas.{Leaves-end, Leaves-part, decided_text-end, size-part, split_tail-again, two_parts}
use Rattle.utf16_tools.proofs.utf8_parts.decode_parts.Goals as goal

pub unreachable-requires : goal.unreachable-requires
unreachable-requires g c =
    let rest = two_parts c.min.result c.loop-rest.rest.now _ _ c.split_at.ensures.front c.split_at.ensures.back in
    let pending = stream_pending c.loop-rest.stream in
    let more = size-part pending _ _ _ (split_tail (pending ++ c.split_at.result.0.now)) rest refl in
    absurd (true≢false (sym (c.in_default.ensures.succeeds (omega (arith, more, c.loop-rest.invariant.2, c.loop-rest.invariant.3, c.requires.fits)))))

pub loop-rest-preserved : goal.loop-rest-preserved
loop-rest-preserved g c =
    let rest = two_parts c.min.result c.loop-rest.rest.now _ _ c.split_at.ensures.front c.split_at.ensures.back in
    let tail = c.in-Ok.ensures.pending in
    let more = size-part (stream_pending c.loop-rest.stream) _ _ _ _ rest tail in (
      Leaves-part (stream_pending c.loop-rest.stream) _ _ _ _ rest tail _ _ _ _ c.loop-rest.invariant.0 c.in-Ok.ensures.text,
      ap split_tail tail ∙ split_tail-again _ ∙ sym tail,
      omega (arith, more, c.loop-rest.invariant.2, c.in-Ok.ensures.len),
      omega (arith, c.loop-rest.invariant.3, c.in-Ok.ensures.grows),
    )

pub returns-clause-text : goal.returns-clause-text
returns-clause-text g c =
    let empty = nil_from_length c.loop-rest.rest.now (search rules) in
    (Leaves-end _ _ c.loop-rest.invariant.1 empty _ _ _ c.loop-rest.invariant.0).0

pub returns-clause-pending : goal.returns-clause-pending
returns-clause-pending g c =
    let empty = nil_from_length c.loop-rest.rest.now (search rules) in
    (Leaves-end _ _ c.loop-rest.invariant.1 empty _ _ _ c.loop-rest.invariant.0).1

pub returns-clause-len : goal.returns-clause-len
returns-clause-len g c =
    let empty = nil_from_length c.loop-rest.rest.now (search rules) in
    let none = ap size (decided_text-end _ _ c.loop-rest.invariant.1 empty) ∙ size-nil in
    omega (arith, none, c.loop-rest.invariant.2)
