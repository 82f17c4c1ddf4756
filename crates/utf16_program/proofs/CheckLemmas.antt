-- What a check has read and written so far, and at each of its exits.
use Rattle.std.proofs.Common.{◌≡◌, inl, inr, ℕ, ◌+◌, ◌-◌, ◌^◌, ◌≤◌, Bool, List, [], ◌++◌, Option, None, Some, length, take, drop, refl, sym, ap, ap₂, ◌∙◌, subst, arith, append-nil, append_assoc, length-append, take_all, take_at, take-append-drop, true, false, if◌then◌else◌}
use Rattle.std.specs.Prelude.{count_by}
use Rattle.std.specs.Io.{StartsWith}
use Rattle.std.specs.Io.KnownBytes.{Appends, Consumes, IsAtEnd, Keeps}
use Rattle.std.proofs.KnownBytes.{Appends-kept, Appends-nil, Appends-trans, Consumes-kept, Consumes-nil, Consumes-trans}
use Rattle.utf16_units.specs.Split.{split_items, split_tail}
use Rattle.utf16_units.proofs.FirstChar.{AreBytes}
use Rattle.utf16_units.proofs.SplitIllFormed.{AreBytes-drop}
use Rattle.utf16_streams.proofs.PartLemmas.{AreBytes-append}
use Rattle.utf16_streams.specs.Bom.{big_in, has_bom, text_in}
use Rattle.utf16_program.specs.declared.outcome.Outcome.{Outcome}
use Rattle.utf16_program.specs.declared.outcome.Outcome.TheVariants.{Done, IllFormed, Long, Memory, Read, Write}
use Rattle.utf16_program.specs.Checker.{Follows, StartsIn, checker_ill_formed, checker_lines, checker_offset, checker_report}
use Rattle.utf16_program.specs.Checks.{ChecksBy, EndsBy, FailsBy}
use Rattle.utf16_program.specs.Report.{closing, ill_formed_from, is_char, is_ill_formed, items_in, lines, lines_from, report, report_from, tail_in}
use Rattle.utf16_program.specs.declared.checker.Checker.{Checker}
use Rattle.utf16_program.proofs.WellFormedLemmas.{none_ill_formed, well_formed}

-- some bytes were read, and the lines that are certain for them were written; the checker, with
-- the pending bytes, decides what more bytes add
pub record Checking (order : Option Bool) (input left old new : Option (List ℕ)) (checker : Checker) (pending : List ℕ) : Type 0 where
  pub bytes : List ℕ
  pub are : AreBytes bytes
  pub consumed : Consumes input left bytes
  pub written : Appends old new (lines order bytes)
  pub long : length bytes ≡ checker_offset checker + length pending
  pub lines_then : (back : List ℕ) → lines order (bytes ++ back) ≡ lines order bytes ++ checker_lines checker (pending ++ back)
  pub report_then : (back : List ℕ) → report order (bytes ++ back) ≡ lines order bytes ++ checker_report checker (pending ++ back)
  pub ill_formed_then : (back : List ℕ) → ill_formed_from order 0 (bytes ++ back) ≡ checker_ill_formed checker (pending ++ back)

-- the lines after the items
abbrev pub checker_closing : Checker → List ℕ → List ℕ
checker_closing checker bytes = closing (checker.offset + length bytes) (checker.chars + count_by is_char (items_in checker.big_endian bytes))
    (checker.unpaired + count_by is_ill_formed (items_in checker.big_endian bytes)) (tail_in checker.big_endian bytes)

-- before the first read
no_lines : (order : Option Bool) → lines order [] ≡ []
unfolding split_items
no_lines None = refl
no_lines (Some big) = refl

pub start_pending : (order : Option Bool) → tail_in order [] ≡ []
unfolding split_tail
start_pending None = refl
start_pending (Some big) = refl

pub Checking-start : (order : Option Bool) (input old : Option (List ℕ)) (checker : Checker) → StartsIn order checker → Checking order input input old old checker []
Checking-start order input old checker is = record {
  bytes = [];
  are = λ k. omega arith;
  consumed = Consumes-nil input;
  written = subst (Appends old old) (sym (no_lines order)) (Appends-nil old);
  long = omega (arith, is.offset);
  lines_then = λ back. ap₂ (λ o n. lines_from o n back) (sym is.byte_order) (sym is.offset) ∙ ap (λ l. l ++ checker_lines checker back) (sym (no_lines order));
  report_then = λ back. ap₂ (λ o n. report_from o n 0 0 back) (sym is.byte_order) (sym is.offset)
      ∙ ap₂ (λ c u. report_from checker.big_endian checker.offset c u back) (sym is.chars) (sym is.unpaired)
      ∙ ap (λ l. l ++ checker_report checker back) (sym (no_lines order));
  ill_formed_then = λ back. ap₂ (λ o u. ill_formed_from o u back) (sym is.byte_order) (sym is.unpaired);
}

module _ (order : Option Bool) (input left old new : Option (List ℕ)) (checker : Checker) (pending : List ℕ)
    (so_far : Checking order input left old new checker pending) where
  abbrev bytes : List ℕ
  bytes = so_far.bytes

  -- a read failed
  pub Checking-read : (after : Option (List ℕ)) → Keeps left after → ChecksBy order input after old new Read
  Checking-read after kept = (bytes, Consumes-kept input left after bytes so_far.consumed kept, omega arith, so_far.written)

  -- no more bytes can be counted
  pub Checking-long : 2 ^ 64 - 1 ≤ checker_offset checker + length pending → ChecksBy order input left old new Long
  Checking-long many = (bytes, so_far.consumed, omega (arith, so_far.long, many), so_far.written)

  module _ (piece : List ℕ) (after : Option (List ℕ)) (read : Consumes left after piece) where
    more_read : Consumes input after (bytes ++ piece)
    more_read = Consumes-trans input left after bytes piece so_far.consumed read

    long_more : length (bytes ++ piece) ≡ length bytes + length piece
    long_more = length-append bytes piece

    before : take (length bytes) (bytes ++ piece) ≡ bytes
    before = take_at bytes piece (length bytes) refl

    near : length piece ≤ 4096 → length (bytes ++ piece) ≤ length bytes + 4096
    near few = omega (arith, long_more, few)

    -- the run ended at a block: a write failed after a prefix of its lines, or allocation failed
    -- for one of them
    pub Checking-fails : (now : Option (List ℕ)) (ended_as : Outcome) → length piece ≤ 4096 → FailsBy new now (checker_lines checker (pending ++ piece)) ended_as
        → ChecksBy order input after old now ended_as
    Checking-fails now Write few fails =
        let output = checker_lines checker (pending ++ piece) in
        let rest = checker_closing checker (pending ++ piece) in
        let written = lines order bytes ++ take fails.0 output in (
          bytes ++ piece,
          more_read,
          (
            written,
            Appends-trans old new now (lines order bytes) (take fails.0 output) so_far.written fails.1,
            ap (take (length written))
                (so_far.report_then piece ∙ ap (λ o. lines order bytes ++ (o ++ rest)) (sym (take-append-drop fails.0 output))
                ∙ ap (λ o. lines order bytes ++ o) (append_assoc (take fails.0 output) (drop fails.0 output) rest)
                ∙ sym (append_assoc (lines order bytes) (take fails.0 output) (drop fails.0 output ++ rest)))
                ∙ take_at written (drop fails.0 output ++ rest) (length written) refl,
            (
              length bytes,
              (omega (arith, long_more), near few),
              subst (λ b. StartsWith written (lines order b)) (sym before) (take_at (lines order bytes) (take fails.0 output) (length (lines order bytes)) refl),
            ),
          ),
        )
    Checking-fails now Memory few fails =
        let joined : lines order (take (length bytes) (bytes ++ piece)) ≡ lines order (bytes ++ piece) → ⊥ = λ same. (
        let all = ap length (ap (lines order) (sym before) ∙ same ∙ so_far.lines_then piece) in
        omega (arith, all, length-append (lines order bytes) (checker_lines checker (pending ++ piece)), fails.1)
        ) in (
          bytes ++ piece,
          more_read,
          (
            length bytes,
            (omega (arith, long_more), near few),
            subst (λ b. Appends old now (lines order b)) (sym before) (Appends-kept old new now (lines order bytes) so_far.written fails.0),
            inl joined,
          ),
        )
    Checking-fails now ended_as few fails = absurd fails

    -- the bytes were checked
    pub Checking-more : (now : Option (List ℕ)) (later : Checker) (kept : List ℕ) → AreBytes piece → Appends new now (checker_lines checker (pending ++ piece))
        → Follows checker later (pending ++ piece) kept → checker_offset later + length kept ≡ checker_offset checker + length (pending ++ piece)
        → Checking order input after old now later kept
    Checking-more now later kept are wrote follows at = record {
      bytes = bytes ++ piece;
      are = AreBytes-append bytes piece so_far.are are;
      consumed = more_read;
      written = subst (Appends old now) (sym (so_far.lines_then piece))
          (Appends-trans old new now (lines order bytes) (checker_lines checker (pending ++ piece)) so_far.written wrote);
      long = omega (arith, long_more, so_far.long, at, length-append pending piece);
      lines_then = λ back. both (lines order) (checker_lines checker) (checker_lines later) so_far.lines_then follows.lines back;
      report_then = λ back. both (report order) (checker_report checker) (checker_report later) so_far.report_then follows.report back;
      ill_formed_then = λ back. ap (ill_formed_from order 0) (append_assoc bytes piece back) ∙ so_far.ill_formed_then (piece ++ back)
          ∙ ap (checker_ill_formed checker) (sym (append_assoc pending piece back)) ∙ follows.ill_formed back;
    } where
      both : (whole next last : List ℕ → List ℕ) → ((back : List ℕ) → whole (bytes ++ back) ≡ lines order bytes ++ next (pending ++ back))
          → ((back : List ℕ) → next ((pending ++ piece) ++ back) ≡ checker_lines checker (pending ++ piece) ++ last (kept ++ back))
          → (back : List ℕ) → whole ((bytes ++ piece) ++ back) ≡ lines order (bytes ++ piece) ++ last (kept ++ back)
      both whole next last first second back =
          ap whole (append_assoc bytes piece back) ∙ first (piece ++ back)
          ∙ ap (λ p. lines order bytes ++ next p) (sym (append_assoc pending piece back)) ∙ ap (λ o. lines order bytes ++ o) (second back)
          ∙ sym (append_assoc (lines order bytes) (checker_lines checker (pending ++ piece)) (last (kept ++ back)))
          ∙ ap (λ o. o ++ last (kept ++ back)) (sym (so_far.lines_then piece))

  -- a read returned 0
  module _ (after : Option (List ℕ)) (kept : Consumes left after []) (ended : IsAtEnd after) where
    all_read : Consumes input after bytes
    all_read = subst (Consumes input after) (append-nil bytes) (Consumes-trans input left after bytes [] so_far.consumed kept)

    whole_report : report order bytes ≡ lines order bytes ++ checker_report checker pending
    whole_report = ap (report order) (sym (append-nil bytes)) ∙ so_far.report_then [] ∙ ap (λ p. lines order bytes ++ checker_report checker p) (append-nil pending)

    whole_ill_formed : ill_formed_from order 0 bytes ≡ checker_ill_formed checker pending
    whole_ill_formed = ap (ill_formed_from order 0) (sym (append-nil bytes)) ∙ so_far.ill_formed_then [] ∙ ap (checker_ill_formed checker) (append-nil pending)

    all_bytes : take (length bytes) bytes ≡ bytes
    all_bytes = take_all (length bytes) bytes (omega arith)

    reported : (now : Option (List ℕ)) → Appends new now (checker_report checker pending) → Appends old now (report order bytes)
    reported now wrote = subst (Appends old now) (sym whole_report) (Appends-trans old new now (lines order bytes) (checker_report checker pending) so_far.written wrote)

    text_are : AreBytes (text_in order bytes)
    text_are = by_order order where
      by_bom : (bom : Bool) → AreBytes (if bom then drop 2 bytes else bytes)
      by_bom true = AreBytes-drop 2 bytes so_far.are
      by_bom false = so_far.are

      by_order : (o : Option Bool) → AreBytes (text_in o bytes)
      by_order (Some big) = so_far.are
      by_order None = by_bom (has_bom bytes)

    pub Checking-end : (now : Option (List ℕ)) (ended_as : Outcome) → EndsBy new now (checker_report checker pending) (checker_ill_formed checker pending) ended_as
        → ChecksBy order input after old now ended_as
    Checking-end now Done ends = (bytes, all_read, ended, reported now ends.0, none_ill_formed (big_in order bytes) (text_in order bytes) text_are (omega (arith, whole_ill_formed, ends.1)))
    Checking-end now IllFormed ends = (bytes, all_read, ended, reported now ends.0, λ text. ends.1 (omega (arith, whole_ill_formed, well_formed (big_in order bytes) (text_in order bytes) text)))
    Checking-end now Write ends =
        let rest = checker_report checker pending in
        let written = lines order bytes ++ take ends.0 rest in (
          bytes,
          all_read,
          (
            written,
            Appends-trans old new now (lines order bytes) (take ends.0 rest) so_far.written ends.1,
            ap (take (length written))
                (whole_report ∙ ap (λ o. lines order bytes ++ o) (sym (take-append-drop ends.0 rest)) ∙ sym (append_assoc (lines order bytes) (take ends.0 rest) (drop ends.0 rest)))
                ∙ take_at written (drop ends.0 rest) (length written) refl,
            (
              length bytes,
              (omega arith, omega arith),
              subst (λ b. StartsWith written (lines order b)) (sym all_bytes) (take_at (lines order bytes) (take ends.0 rest) (length (lines order bytes)) refl),
            ),
          ),
        )
    Checking-end now Memory ends = (
      bytes,
      all_read,
      (
        length bytes,
        (omega arith, omega arith),
        subst (λ b. Appends old now (lines order b)) (sym all_bytes) (Appends-kept old new now (lines order bytes) so_far.written ends),
        inr ended,
      ),
    )
    Checking-end now ended_as ends = absurd ends
