-- The split of UTF-8 is what a reader gets that resumes by the error: its items' text, with U+FFFD,
-- and its tail.
use Rattle.std.proofs.Common.{◌≡◌, ℕ, ◌+◌, ◌<◌, ◌≤◌, List, [], ◌∷◌, ◌++◌, None, Some, length, take, drop, refl, sym, ap, ◌∙◌, ⊎_elim, arith}
use Rattle.std.proofs.lemmas.Bool.{cases_lt}
use Rattle.std.proofs.lemmas.List.{map-append}
use Rattle.std.proofs.lemmas.Str.{IsUtf8-nil, chars-nil}
use Rattle.std.specs.Str.{IsUtf8, IsValidUpTo, chars}
use Rattle.std.specs.Str.Lossy.{utf8_error_len, utf8_valid_len}
use Rattle.utf16_units.specs.Recipe.{RecipeOf}
use Rattle.utf16_units.proofs.Resuming.{Decided, SplitAtErrors, has_error, is_text, split_of_recipe}
use Rattle.utf8_bytes.specs.Recipe.{utf8_coding}
use Rattle.utf8_bytes.specs.Split.{IsTail, lossy_char, lossy_chars, split_items, split_tail}
use Rattle.utf8_bytes.proofs.PartLemmas.{subpart_at, tail_undecided}
use Rattle.utf8_bytes.proofs.SplitIllFormed.{shown-fault, shown-incomplete, split_tail-fault, split_tail-incomplete, split_undecided}
use Rattle.utf8_bytes.proofs.SplitLemmas.{Split-computed}
use Rattle.utf8_bytes.proofs.SplitUnique.{split_items-append, split_tail-append}
use Rattle.utf8_bytes.proofs.TextLemmas.{shown_text}
use Rattle.utf8_bytes.proofs.ValidLemmas.{IsValidUpTo-computed, all_valid, none_at}

-- the computed tail is a tail
pub tail_ends : (bytes : List ℕ) → IsTail (split_tail bytes)
tail_ends bytes = (Split-computed bytes).ends

-- a tail has no item, and all of it is its tail
pub split_of_tail : (tail : List ℕ) → IsTail tail → (split_items tail ≡ []) × (split_tail tail ≡ tail)
split_of_tail tail ends =
    let undecided = tail_undecided tail ends in
    split_undecided tail undecided.0 undecided.1

-- bytes that are not a text have an error
decided : (bytes : List ℕ) → Decided utf8_coding bytes
decided bytes = ⊎_elim
    (λ (short : utf8_valid_len bytes < length bytes).
    let n = utf8_valid_len bytes in
    let at = IsValidUpTo-computed bytes short in
    has_error (chars (take n bytes)) n (utf8_error_len (drop n bytes)) (at, refl) (at.front, refl))
    (λ (all : length bytes ≤ utf8_valid_len bytes). is_text (chars bytes) (all_valid bytes all, refl))
    (cases_lt (utf8_valid_len bytes) (length bytes))

abbrev text : List ℕ → List ℕ
text bytes = lossy_chars (split_items bytes)

-- the split of UTF-8 is what a reader gets, whatever the numbers are
pub splits : SplitAtErrors utf8_coding (λ bytes. Unit {0}) text split_tail
splits = record {
  nothing = (IsUtf8-nil, sym chars-nil);
  whole = λ bytes given e.
      let same = shown_text bytes e.0 in
      (same.0 ∙ sym e.1, same.1);
  fault = λ bytes front n len are at e.
      (shown-fault bytes n at.0 len at.1 ∙ ap (λ f. f ++ 0xFFFD ∷ text (drop (n + len) bytes)) (sym e.1), split_tail-fault bytes n at.0 len at.1);
  some = λ bytes n len at. (subpart_at (drop n bytes) len (none_at bytes n at.0) at.1).some;
  cut = λ bytes front n at e. (shown-incomplete bytes n at.0 at.1 ∙ sym e.1, split_tail-incomplete bytes n at.0 at.1);
  decides = decided;
  joined = λ front back. (
    ap lossy_chars (split_items-append front back) ∙ map-append lossy_char (split_items front) (split_items (split_tail front ++ back)),
    split_tail-append front back,
  );
  dropped = λ n bytes are. tt;
  parted = λ front back are. (tt, tt);
}

pub utf8_recipe : (bytes : List ℕ) → RecipeOf utf8_coding bytes (text bytes) (split_tail bytes)
utf8_recipe bytes = split_of_recipe utf8_coding (λ b. Unit {0}) text split_tail splits bytes tt
