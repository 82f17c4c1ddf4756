use Rattle.std.proofs.Common.{◌≡◌, ◌-◌, ◌<◌, ◌++◌, [], All, drop, encode_utf8_all, length, string_bytes, take_all, sym, ap, ◌∙◌, subst, arith, rules}
use Rattle.std.proofs.lemmas.List.{nil_from_length}
use Rattle.std.proofs.lemmas.List.Elements.{All-nil}
use Rattle.std.specs.List.{flat_map}
use Rattle.std.specs.Vec.{vec_items}
use Rattle.utf16_tools.specs.Split.{lossy_chars, split_items, split_tail}
use Rattle.utf16_tools.proofs.DecodesLemmas.{length-split_tail-le, tail_at_end}
use Rattle.uses_buffers.proofs.ReadLemmas.{IsByte, Told-all, Told-more, bytes-more, none_kept, some_kept}
use Rattle.uses_buffers.proofs.headline.resume_pieces.Goals as goal

pub loop-piece-init : goal.loop-piece-init
unfolding split_items split_tail
loop-piece-init g c = (record { shown = c.new-text.ensures.bytes; tail = c.new-rest.ensures.items }, All-nil _)

pub keep_last-requires : goal.keep_last-requires
keep_last-requires g c =
    let kept = ap length (c.in_ok-kept.ensures.tail ∙ ap (split_tail g.E.Utf16Order.BIG) c.deref-in-loop-piece.ensures.value) in
    let short = length-split_tail-le g.E.Utf16Order.BIG c.extend_from_slice.new.self.items in
    omega arith

pub loop-piece-preserved : goal.loop-piece-preserved
loop-piece-preserved g c =
    let big = g.E.Utf16Order.BIG in
    let rest = c.loop-piece.rest.items in
    let whole = c.extend_from_slice.new.self.items in
    let same = c.deref-in-loop-piece.ensures.value in
    let grown : c.deref-in-loop-piece.result.now ≡ rest ++ c.piece-item.result.items =
    same ∙ c.in_ok-extend_from_slice.ensures.items ∙ ap (λ p. rest ++ p) c.deref.ensures.value in
    let kept = c.in_ok-kept.ensures.tail ∙ ap (split_tail big) same in
    let last : c.keep_last.new.bytes.items ≡ split_tail big whole =
    c.keep_last.ensures ∙ ap (λ n. drop (length whole - n) whole) (ap length kept) ∙ sym (tail_at_end big whole) in (
      Told-more vec_items c.args.pieces.now c.loop-piece.piece-index big _ rest c.loop-piece.invariant.0 c.piece-item.result _ _ c.loop-piece-test.true c.piece-item.is
          (c.in_ok-kept.ensures.text ∙ ap (λ b. string_bytes c.loop-piece.text ++ encode_utf8_all (lossy_chars (split_items big b))) grown)
          (last ∙ ap (split_tail big) (sym same ∙ grown)),
      bytes-more vec_items c.args.pieces.now c.loop-piece.piece-index c.piece-item.result rest c.loop-piece-test.true c.piece-item.is c.loop-piece.invariant.1
          (subst (All IsByte) grown c.in_ok-kept.ensures.are_bytes),
    )

pub returns-then-is_empty-clause-text : goal.returns-then-is_empty-clause-text
returns-then-is_empty-clause-text g c =
    none_kept _ _ _ _ (Told-all vec_items c.args.pieces.now c.loop-piece.piece-index _ _ _ c.loop-piece.invariant.0 c.loop-piece-test.false)
    (nil_from_length c.loop-piece.rest.items (search rules))

pub returns-then-is_empty-clause-are_bytes : goal.returns-then-is_empty-clause-are_bytes
returns-then-is_empty-clause-are_bytes g c =
    subst (λ p. All IsByte (flat_map vec_items p)) (take_all c.loop-piece.piece-index c.args.pieces.now c.loop-piece-test.false) c.loop-piece.invariant.1

pub returns-clause-text : goal.returns-clause-text
returns-clause-text g c =
    let some : ¬ (c.loop-piece.rest.items ≡ []) = λ none. (
    let short = ap length none in
    let long : 0 < length c.loop-piece.rest.items = search rules in
    absurd (omega arith)
    ) in
    some_kept _ _ _ _ (Told-all vec_items c.args.pieces.now c.loop-piece.piece-index _ _ _ c.loop-piece.invariant.0 c.loop-piece-test.false)
    _ some c.in_ok-push.ensures.bytes

pub returns-clause-are_bytes : goal.returns-clause-are_bytes
returns-clause-are_bytes g c =
    subst (λ p. All IsByte (flat_map vec_items p)) (take_all c.loop-piece.piece-index c.args.pieces.now c.loop-piece-test.false) c.loop-piece.invariant.1
