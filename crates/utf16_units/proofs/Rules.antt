-- Rule sets for the proofs of callers: one `using(..)` at a function cites a set.
use Rattle.std.proofs.Common.{◌≡◌, ◌≢◌, ◌↔◌, ℕ, ◌+◌, ◌%◌, ◌<◌, ◌≤◌, Bool, true, List, [], length, arith, subst, sym, ⊎_elim}
use Rattle.std.proofs.lemmas.Bool.{cases_lt}
use Rattle.utf16_units.specs.Boundary.{IsAbsentBefore, OccursIn}
use Rattle.utf16_units.specs.Laws.{OccursAt}
use Rattle.utf16_units.proofs.EditLemmas.{Encodes-checked}
use Rattle.utf16_units.proofs.EditParts.{kept-back, kept-front, kept-start, put-back, put-end, put-there, size-insert_at, size-overwrite_at}
use Rattle.utf16_units.proofs.LawProofs.{at_boundaries, found_exactly, size-some}
use Rattle.utf16_units.specs.Encoding.{encode, is_utf16, size, text_of}
use Rattle.utf16_units.proofs.BoundaryLemmas.{IsBoundary-end, IsBoundary-start, IsBoundary-within, size-text_to, text_between-end, text_to-text_from}
use Rattle.utf16_units.proofs.EncodingLemmas.{IsUtf16-encode, IsUtf16-from_is_utf16, encode-text_of, length-encode, length-text, size-append, text_of-encode}
use Rattle.utf16_units.proofs.NumberedLemmas.{is_new, number_of_part, place_before, place_behind, place_found, place_start, table_insert, table_none}
use Rattle.utf16_units.proofs.PartsLemmas.{length-parts, no_part, part_at, part_window, parts_none, parts_push}
use Rattle.utf16_units.proofs.PartLemmas.{IsBoundary-append, IsBoundary-even, IsBoundary-seam, text_between-append, text_between-behind, text_between-start, text_between-whole}

-- the bytes of a string are as long as its text's size
pub length-checked : (big : Bool) (bytes : List ℕ) → is_utf16 big bytes ≡ true → length bytes ≡ size (text_of big bytes)
length-checked big bytes checked = length-text big bytes (IsUtf16-from_is_utf16 big bytes checked)

-- and they are that text's encoding
pub encode-checked : (big : Bool) (bytes : List ℕ) → is_utf16 big bytes ≡ true → encode big (text_of big bytes) ≡ bytes
encode-checked big bytes checked = encode-text_of big bytes (IsUtf16-from_is_utf16 big bytes checked)

-- boundaries, and the substrings between them
pub ruleset boundaries = (IsBoundary-start, IsBoundary-end, IsBoundary-within, text_between-start, text_between-end, text_between-whole, text_to-text_from, size-text_to, length-checked)

-- what stays when more is appended to a text, and the place of what was appended
pub ruleset behind = (IsBoundary-append, IsBoundary-seam, IsBoundary-end, text_between-append, text_between-behind, size-append, length-checked)

-- a text after an edit at a boundary: the substrings before it, there and after it, and the size of
-- the text
pub ruleset edits = (IsBoundary-within, kept-start, kept-front, kept-back, put-end, put-there, put-back, size-insert_at, size-overwrite_at, text_to-text_from, length-checked)

-- texts, and the bytes that encode them
pub ruleset texts = (text_of-encode, IsUtf16-encode, length-encode, encode-checked, length-checked)

module _ (big : Bool) (bytes part : List ℕ) (i : ℕ) (checked : is_utf16 big bytes ≡ true) (part_checked : is_utf16 big part ≡ true) (some : text_of big part ≢ []) where
  exactly : ((i % 2 ≡ 0) × OccursAt bytes i part) ↔ OccursIn (text_of big bytes) i (text_of big part)
  exactly = found_exactly big (text_of big bytes) (text_of big part) bytes part i (Encodes-checked big bytes checked) (Encodes-checked big part part_checked) some

  -- a part that occurs in the bytes at an even offset occurs in the text there
  pub stands-found : i % 2 ≡ 0 → OccursAt bytes i part → OccursIn (text_of big bytes) i (text_of big part)
  stands-found even stands = exactly.0 (even, stands)

  -- a search that has found the part nowhere before an even offset, nor at it, has found it nowhere
  -- before the next one
  pub absent-step : i % 2 ≡ 0 → IsAbsentBefore (text_of big bytes) i (text_of big part) → ¬ (OccursAt bytes i part)
      → IsAbsentBefore (text_of big bytes) (i + 2) (text_of big part)
  absent-step even before none = record {
    absent = λ j within stands. ⊎_elim
        (λ (earlier : j < i). before.absent j earlier stands)
        (λ (later : i ≤ j).
        let even_too = IsBoundary-even (text_of big bytes) j stands.start in
        let here : i ≡ j = omega arith in
        none (subst (λ k. OccursAt bytes k part) (sym here) (at_boundaries big (text_of big bytes) (text_of big part) bytes part j (Encodes-checked big bytes checked) (Encodes-checked big part part_checked) stands)))
        (cases_lt j i);
  }

pub absent-start : (text part : List ℕ) → IsAbsentBefore text 0 part
absent-start text part = record { absent = λ j within stands. absurd (omega arith) }

-- a search in a text, by its bytes
pub ruleset searches = (stands-found, absent-step, absent-start, size-some, length-checked)

-- texts concatenated in one, each under its number
pub ruleset parts = (part_window, part_at, no_part, length-parts, parts_none, parts_push)

-- a number found by binary search among the numbers sorted by their texts
pub ruleset halving = (number_of_part, place_start, place_behind, place_before, place_found, is_new)

-- a table of texts, and one text more
pub ruleset tables = (table_none, table_insert, parts_none, parts_push, is_new, length-parts)
