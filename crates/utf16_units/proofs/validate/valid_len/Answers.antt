use Rattle.std.proofs.Common.{ℕ, ◌+◌, Bool, List, arith, false, refl, subst, sym, take, take-add}
use Rattle.std.proofs.lemmas.List.{take_rest}
use Rattle.utf16_units.specs.Encoding.{IsUtf16}
use Rattle.utf16_units.specs.IllFormed.{BeginsWithNoChar}
use Rattle.utf16_units.proofs.EncodingLemmas.{IsUtf16-append, IsUtf16-nil}
use Rattle.utf16_units.proofs.EndPairs.{text-to_end}
use Rattle.utf16_units.proofs.IllFormedLemmas.{rest_from}
use Rattle.utf16_units.proofs.PairLemmas.{PairedTo-text}
use Rattle.utf16_units.proofs.validate.valid_len.Goals as goal

-- a text, and a text at the start of what follows it
both : (big : Bool) (raw : List ℕ) (at len : ℕ) → IsUtf16 big (take at raw) → IsUtf16 big (take len (rest_from raw at)) → IsUtf16 big (take (at + len) raw)
both big raw at len front behind =
    subst (IsUtf16 big) (sym (take-add at len raw))
    (IsUtf16-append big _ _ front (subst (λ rest. IsUtf16 big (take len rest)) (take_rest raw at) behind))

pub valid_len_from-requires-clause-well_formed_before : goal.valid_len_from-requires-clause-well_formed_before
valid_len_from-requires-clause-well_formed_before g c = IsUtf16-nil g.E.Utf16Order.BIG

pub valid_len_from-requires-2-clause-well_formed_before : goal.valid_len_from-requires-2-clause-well_formed_before
valid_len_from-requires-2-clause-well_formed_before g c =
    both g.E.Utf16Order.BIG c.args.raw.now _ _ c.passed_blocks-passed.ensures.well_formed c.plain_prefix_len-plain.ensures.text

pub returns-in-Err : goal.returns-in-Err
returns-in-Err g c =
    let big = g.E.Utf16Order.BIG in
    let raw = c.args.raw.now in
    let front = c.plain_front-front in
    let first = c.plain_prefix_len in
    record {
      within = omega (arith, first.ensures.most);
      text = both big raw front.result first.result (PairedTo-text big raw front.result c.type_inv.raw false refl front.ensures) first.ensures.text;
      stops = λ more. subst (λ rest. BeginsWithNoChar big rest) (take_rest raw (front.result + first.result)) c.in-Err.ensures.ill_formed.0;
    }

pub returns-then-is_text_to_end : goal.returns-then-is_text_to_end
returns-then-is_text_to_end g c =
    text-to_end g.E.Utf16Order.BIG c.args.raw.now c.passed_blocks-passed.result c.passed_blocks-passed.ensures.well_formed
    (c.is_text_to_end.ensures.text c.if-is_text_to_end.true)
