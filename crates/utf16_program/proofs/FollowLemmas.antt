-- What a checker reports once more bytes come.
use Rattle.std.proofs.Common.{◌≡◌, ◌↔◌, ℕ, ◌+◌, ◌-◌, ◌<◌, ◌≤◌, Bool, List, [], ◌∷◌, ◌++◌, Option, None, Some, length, drop, refl, sym, ap, ap₂, ◌∙◌, arith, append-nil, append_assoc, length-append, length-drop}
use Rattle.std.proofs.lemmas.List.{drop-drop, nil_from_length}
use Rattle.std.specs.Prelude.{count_by}
use Rattle.utf16_units.specs.Split.{Item, items_bytes, split_items, split_tail}
use Rattle.utf16_units.proofs.SplitJoin.{split_items-append, split_tail-append}
use Rattle.utf16_units.proofs.SplitUnique.{length-split_tail}
use Rattle.utf16_transcode.proofs.DecodesLemmas.{split_tail-again}
use Rattle.utf16_streams.proofs.Utf8Lemmas.{waits}
use Rattle.utf16_streams.specs.Bom.{big_in, text_in}
use Rattle.utf16_program.specs.Checker.{Follows, Takes, checker_lines, checker_report}
use Rattle.utf16_program.specs.Order.{bom_len}
use Rattle.utf16_program.specs.Report.{closing, count_line, ill_formed_lines, ill_formed_from, is_char, is_ill_formed, items_in, lines_from, report_from, tail_ill_formed, tail_in, tail_line}
use Rattle.utf16_program.specs.Scans.{Scans}
use Rattle.utf16_program.specs.declared.checker.Checker.{Checker}
use Rattle.utf16_program.specs.declared.scan.Found.{Found}
use Rattle.utf16_program.proofs.ItemLemmas.{count-append, ill_formed_lines-append}

-- the text of the bytes, and of all that begin so, begins at `from`, in this byte order
module _ (order : Option Bool) (big : Bool) (from : ℕ) (bytes : List ℕ) (within : from ≤ length bytes)
    (is_big : (back : List ℕ) → big_in order (bytes ++ back) ≡ big) (is_text : (back : List ℕ) → text_in order (bytes ++ back) ≡ drop from bytes ++ back) where
  abbrev text : List ℕ
  text = drop from bytes

  module _ (back : List ℕ) where
    begun_items : items_in order (bytes ++ back) ≡ split_items big (text ++ back)
    begun_items = ap₂ split_items (is_big back) (is_text back)

    begun_tail : tail_in order (bytes ++ back) ≡ split_tail big (text ++ back)
    begun_tail = ap₂ split_tail (is_big back) (is_text back)

    begun_bom : bom_len order (bytes ++ back) ≡ from
    begun_bom =
        let long = ap length (is_text back) in
        omega (arith, long, length-append bytes back, length-append text back, length-drop from bytes)

    begun_lines : (offset : ℕ) → lines_from order offset (bytes ++ back) ≡ ill_formed_lines big (offset + from) (split_items big (text ++ back))
    begun_lines offset =
        ap₂ (λ b n. ill_formed_lines b (offset + n) (items_in order (bytes ++ back))) (is_big back) begun_bom
        ∙ ap (ill_formed_lines big (offset + from)) begun_items

  -- with nothing after them
  pub bytes_lines : (offset : ℕ) → lines_from order offset bytes ≡ ill_formed_lines big (offset + from) (split_items big text)
  bytes_lines offset =
      ap (lines_from order offset) (sym (append-nil bytes)) ∙ begun_lines [] offset
      ∙ ap (λ t. ill_formed_lines big (offset + from) (split_items big t)) (append-nil text)

  -- they were scanned: what more bytes add
  module _ (offset : ℕ) (old new : List ℕ) (found : Found) (scans : Scans big (offset + from) text old new found) where
    abbrev kept : List ℕ
    kept = drop (from + found.taken) bytes

    abbrev later : ℕ
    later = (offset + from) + found.taken

    pub is_kept : kept ≡ split_tail big text
    is_kept = sym (drop-drop found.taken from bytes) ∙ scans.left

    module _ (back : List ℕ) where
      more_items : split_items big (text ++ back) ≡ split_items big text ++ split_items big (kept ++ back)
      more_items = split_items-append big text back ∙ ap (λ k. split_items big text ++ split_items big (k ++ back)) (sym is_kept)

      more_tail : split_tail big (text ++ back) ≡ split_tail big (kept ++ back)
      more_tail = split_tail-append big text back ∙ ap (λ k. split_tail big (k ++ back)) (sym is_kept)

      more_count : (p : Item → Bool) → count_by p (items_in order (bytes ++ back)) ≡ count_by p (split_items big text) + count_by p (split_items big (kept ++ back))
      more_count p = ap (count_by p) (begun_items back ∙ more_items) ∙ count-append p (split_items big text) (split_items big (kept ++ back))

      pub more_lines : lines_from order offset (bytes ++ back) ≡ lines_from order offset bytes ++ lines_from (Some big) later (kept ++ back)
      more_lines =
          begun_lines back offset ∙ ap (ill_formed_lines big (offset + from)) more_items
          ∙ ill_formed_lines-append big (offset + from) (split_items big text) (split_items big (kept ++ back))
          ∙ ap₂ (λ l n. l ++ ill_formed_lines big n (split_items big (kept ++ back))) (sym (bytes_lines offset)) at where
            at : (offset + from) + length (items_bytes big (split_items big text)) ≡ later + bom_len (Some big) (kept ++ back)
            at = omega (arith, scans.taken)

      pub more_ill_formed : (unpaired : ℕ) → ill_formed_from order unpaired (bytes ++ back) ≡ ill_formed_from (Some big) (unpaired + found.unpaired) (kept ++ back)
      more_ill_formed unpaired =
          let tail = ap tail_ill_formed (begun_tail back ∙ more_tail) in
          omega (arith, tail, more_count is_ill_formed, scans.unpaired)

      more_closing : (chars unpaired : ℕ)
          → closing (offset + length (bytes ++ back)) (chars + count_by is_char (items_in order (bytes ++ back)))
          (unpaired + count_by is_ill_formed (items_in order (bytes ++ back))) (tail_in order (bytes ++ back))
          ≡ closing (later + length (kept ++ back)) ((chars + found.chars) + count_by is_char (split_items big (kept ++ back)))
          ((unpaired + found.unpaired) + count_by is_ill_formed (split_items big (kept ++ back))) (split_tail big (kept ++ back))
      more_closing chars unpaired =
          ap₂ (λ n c. closing n c (unpaired + count_by is_ill_formed (items_in order (bytes ++ back))) (tail_in order (bytes ++ back))) end good
          ∙ ap₂ (closing (later + length (kept ++ back)) ((chars + found.chars) + count_by is_char (split_items big (kept ++ back)))) bad (begun_tail back ∙ more_tail) where
            end : offset + length (bytes ++ back) ≡ later + length (kept ++ back)
            end = omega (arith, within, scans.within, length-append bytes back, length-append kept back, length-drop from bytes, length-drop (from + found.taken) bytes)

            good : chars + count_by is_char (items_in order (bytes ++ back)) ≡ (chars + found.chars) + count_by is_char (split_items big (kept ++ back))
            good = omega (arith, more_count is_char, scans.chars)

            bad : unpaired + count_by is_ill_formed (items_in order (bytes ++ back)) ≡ (unpaired + found.unpaired) + count_by is_ill_formed (split_items big (kept ++ back))
            bad = omega (arith, more_count is_ill_formed, scans.unpaired)

      pub more_report : (chars unpaired : ℕ)
          → report_from order offset chars unpaired (bytes ++ back)
          ≡ lines_from order offset bytes ++ report_from (Some big) later (chars + found.chars) (unpaired + found.unpaired) (kept ++ back)
      more_report chars unpaired =
          ap₂ (λ l c. l ++ c) more_lines (more_closing chars unpaired)
          ∙ append_assoc (lines_from order offset bytes) (lines_from (Some big) later (kept ++ back))
          (closing (later + length (kept ++ back)) ((chars + found.chars) + count_by is_char (split_items big (kept ++ back)))
          ((unpaired + found.unpaired) + count_by is_ill_formed (split_items big (kept ++ back))) (split_tail big (kept ++ back)))

    -- the lines that were appended
    pub fed_lines : new ≡ old ++ lines_from order offset bytes
    fed_lines = scans.lines ∙ ap (λ l. old ++ l) (sym (bytes_lines offset))

    pub fed_pending : split_tail big kept ≡ kept
    fed_pending = ap (split_tail big) is_kept ∙ split_tail-again big text ∙ sym is_kept

    pub fed_few : length bytes ≤ (from + found.taken) + 3
    fed_few = omega (arith, within, scans.within, length-drop from bytes, length-drop (from + found.taken) bytes, ap length is_kept, length-split_tail big text)

    -- a checker that takes them
    pub fed_takes : (it now : Checker) → it.big_endian ≡ order → it.offset ≡ offset → now.big_endian ≡ Some big → now.offset ≡ later
        → now.chars ≡ it.chars + found.chars → now.unpaired ≡ it.unpaired + found.unpaired → Takes it now bytes (from + found.taken)
    fed_takes it now in_order at is_now at_now chars unpaired = record {
      within = omega (arith, within, scans.within, length-drop from bytes);
      few = fed_few;
      offset = omega (arith, at, at_now);
      follows = record {
        lines = λ back. rw (in_order, at, is_now, at_now) (more_lines back);
        report = λ back. rw (in_order, at, is_now, at_now, chars, unpaired) (more_report back it.chars it.unpaired);
        ill_formed = λ back. rw (in_order, is_now, unpaired) (more_ill_formed back it.unpaired);
      };
      pending = rw is_now fed_pending;
    }

-- ---- pending bytes

-- bytes that do not decide the byte order
pub few_items : (bytes : List ℕ) → length bytes < 2 → items_in None bytes ≡ []
unfolding split_items
few_items (first ∷ second ∷ bytes) short = absurd (omega arith)
few_items bytes short = refl

pub few_tail : (bytes : List ℕ) → length bytes < 2 → tail_in None bytes ≡ bytes
unfolding split_tail
few_tail (first ∷ second ∷ bytes) short = absurd (omega arith)
few_tail bytes short = refl

pub few_lines : (order : Option Bool) (offset : ℕ) (bytes : List ℕ) → order ≡ None → length bytes < 2 → lines_from order offset bytes ≡ []
few_lines order offset bytes none short =
    ap (λ o. lines_from o offset bytes) none ∙ ap (ill_formed_lines (big_in None bytes) (offset + bom_len None bytes)) (few_items bytes short)

-- a checker that they do not change follows itself
pub Follows-few : (checker : Checker) (bytes : List ℕ) → checker.big_endian ≡ None → length bytes < 2 → Follows checker checker bytes bytes
Follows-few checker bytes none short = record {
  lines = λ back. ap (λ l. l ++ checker_lines checker (bytes ++ back)) (sym no_lines);
  report = λ back. ap (λ l. l ++ checker_report checker (bytes ++ back)) (sym no_lines);
  ill_formed = λ back. refl;
} where
  no_lines : checker_lines checker bytes ≡ []
  no_lines = few_lines checker.big_endian checker.offset bytes none short

pub Takes-few : (checker : Checker) (bytes : List ℕ) → checker.big_endian ≡ None → length bytes < 2 → Takes checker checker bytes 0
Takes-few checker bytes none short = record {
  within = omega arith;
  few = omega (arith, short);
  offset = omega arith;
  follows = Follows-few checker bytes none short;
  pending = ap (λ o. tail_in o bytes) none ∙ few_tail bytes short;
}

-- a tail that is not empty
some_tail : (offset : ℕ) (tail : List ℕ) → ¬ (length tail ≡ 0) → (tail_line offset tail ≡ tail_line offset (0 ∷ [])) × (tail_ill_formed tail ≡ 1)
some_tail offset [] some = absurd (some refl)
some_tail offset (first ∷ after) some = (refl, refl)

module _ (order : Option Bool) (bytes : List ℕ) (same : tail_in order bytes ≡ bytes) where
  -- the report on them
  pub pending_report : (offset chars unpaired : ℕ)
      → report_from order offset chars unpaired bytes ≡ tail_line offset bytes ++ count_line (offset + length bytes) chars (unpaired + tail_ill_formed bytes)
  pending_report offset chars unpaired =
      let none = waits order bytes same in
      let start : (offset + length bytes) - length (tail_in order bytes) ≡ offset = omega (arith, ap length same) in
      let good : chars + count_by is_char (items_in order bytes) ≡ chars = omega (arith, ap (count_by is_char) none) in
      let bad : unpaired + count_by is_ill_formed (items_in order bytes) ≡ unpaired = omega (arith, ap (count_by is_ill_formed) none) in
      ap (λ i. ill_formed_lines (big_in order bytes) (offset + bom_len order bytes) i
      ++ closing (offset + length bytes) (chars + count_by is_char (items_in order bytes)) (unpaired + count_by is_ill_formed (items_in order bytes)) (tail_in order bytes)) none
      ∙ ap₂ (λ c u. closing (offset + length bytes) c u (tail_in order bytes)) good bad
      ∙ ap₂ (λ at t. tail_line at t ++ count_line (offset + length bytes) chars (unpaired + tail_ill_formed t)) start same

  -- there are none, or they are one ill-formed sequence more
  pub no_pending : length bytes ≡ 0 → (offset chars unpaired : ℕ) → report_from order offset chars unpaired bytes ≡ count_line (offset + length bytes) chars unpaired
  no_pending none offset chars unpaired =
      pending_report offset chars unpaired
      ∙ ap₂ (λ l n. l ++ count_line (offset + length bytes) chars n) (ap (tail_line offset) (nil_from_length bytes none)) (omega (arith, ap tail_ill_formed (nil_from_length bytes none)))

  pub some_pending : ¬ (length bytes ≡ 0) → (offset chars unpaired : ℕ)
      → report_from order offset chars unpaired bytes ≡ tail_line offset (0 ∷ []) ++ count_line (offset + length bytes) chars (unpaired + 1)
  some_pending some offset chars unpaired =
      let tail = some_tail offset bytes some in
      pending_report offset chars unpaired ∙ ap₂ (λ l n. l ++ count_line (offset + length bytes) chars (unpaired + n)) tail.0 tail.1

  pub pending_ill_formed : (unpaired : ℕ) → ill_formed_from order unpaired bytes ≡ unpaired + tail_ill_formed bytes
  pending_ill_formed unpaired =
      let none = ap (count_by is_ill_formed) (waits order bytes same) in
      let tail = ap tail_ill_formed same in
      omega (arith, none, tail)

-- only a tail that is not empty is ill-formed
pub tail_none : (tail : List ℕ) → (length tail ≡ 0) ↔ (tail_ill_formed tail ≡ 0)
tail_none [] = (λ none. refl, λ none. refl)
tail_none (first ∷ after) = (λ none. absurd (omega arith), λ none. absurd (omega arith))
