use Rattle.std.proofs.Common.{◌≡◌, ◌∙◌, ◌+◌, ◌++◌, ap, append_assoc, arith, drop, sym, subst, take}
use Rattle.utf16_units.specs.Boundary.{IsBoundary, text_from, text_to}
use Rattle.utf16_units.specs.Encoding.{size}
use Rattle.utf16_units.proofs.BoundaryLemmas.{IsBoundary-within, size-text_to}
use Rattle.utf16_units.proofs.EncodingLemmas.{IsUtf16-from_is_utf16, length-text}
use Rattle.utf16_bytes.proofs.OccurrenceLemmas.{text_around}
use Rattle.utf16_str.specs.WStr.{wstr_bytes, wstr_text}
use Rattle.utf16_str.proofs.wstr.WStr.split_around.Goals as goal

pub split_at-requires : goal.split_at-requires
split_at-requires g c = c.requires.start

pub overflow_add-at : goal.overflow_add-at
overflow_add-at g c =
    let within = IsBoundary-within (wstr_text c.args.self) _ c.requires.end in
    omega (arith, within, length-text _ _ (IsUtf16-from_is_utf16 _ _ c.args.self.well_formed), c.encoded_len.ensures, c.ranges.self.0)

pub split_at-requires-2 : goal.split_at-requires-2
split_at-requires-2 g c =
    subst (λ n. IsBoundary (wstr_text c.args.self) (c.args.at + n)) (sym c.encoded_len.ensures) c.requires.end

pub returns-clause-back : goal.returns-clause-back
returns-clause-back g c = c.split_at-2.ensures.back ∙ ap (λ n. text_from (wstr_text c.args.self) (c.args.at + n)) c.encoded_len.ensures

pub returns-clause-split : goal.returns-clause-split
returns-clause-split g c =
    let text = wstr_text c.args.self in
    let part = g.P.Pattern.part c.args.pattern in
    let behind = text_from text (c.args.at + size part) in
    let back = c.split_at-2.ensures.back ∙ ap (λ n. text_from text (c.args.at + n)) c.encoded_len.ensures in
    text_around text part c.args.at c.requires ∙ append_assoc (text_to text c.args.at) part behind
    ∙ ap (λ t. t ++ (part ++ behind)) (sym c.split_at.ensures.front)
    ∙ ap (λ t. wstr_text c.split_at.result.0 ++ (part ++ t)) (sym back)

pub returns-clause-front_bytes : goal.returns-clause-front_bytes
returns-clause-front_bytes g c =
    let offset = ap size c.split_at.ensures.front ∙ size-text_to (wstr_text c.args.self) c.args.at c.requires.start in
    c.split_at.ensures.front_bytes ∙ ap (λ n. take n (wstr_bytes c.args.self)) (sym offset)

pub returns-clause-back_bytes : goal.returns-clause-back_bytes
returns-clause-back_bytes g c =
    let offset = ap size c.split_at.ensures.front ∙ size-text_to (wstr_text c.args.self) c.args.at c.requires.start in
    let behind : c.args.at + c.encoded_len.result ≡ size (wstr_text c.split_at.result.0) + size (g.P.Pattern.part c.args.pattern) =
    omega (arith, offset, c.encoded_len.ensures) in
    c.split_at-2.ensures.back_bytes ∙ ap (λ n. drop n (wstr_bytes c.args.self)) behind
