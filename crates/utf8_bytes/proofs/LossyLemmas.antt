-- The whole lossy text is the text of std's `from_utf8_lossy`.
use Rattle.std.proofs.Common.{◌≡◌, ℕ, zero, suc, ◌+◌, ◌<◌, ◌≤◌, List, [], ◌∷◌, ◌++◌, Option, None, Some, length, take, drop, refl, sym, ap, ap₂, ◌∙◌, ⊎_elim, arith, append-nil, append_assoc, length-drop}
use Rattle.std.proofs.lemmas.Bool.{cases_lt}
use Rattle.std.proofs.lemmas.Str.{chars-append, chars-nil, utf8_lossy-IsUtf8, utf8_lossy_empty, utf8_lossy_step}
use Rattle.std.specs.Option.{unwrap_or}
use Rattle.std.specs.Str.{IsUtf8, IsValidUpTo, chars}
use Rattle.std.specs.Str.Lossy.{after_first_chunk, replacement_bytes, utf8_error_len, utf8_lossy, utf8_valid_len}
use Rattle.utf8_bytes.specs.Split.{Item, lossy_char, lossy_chars, lossy_text, split_items, split_tail, whole_lossy_chars}
use Rattle.utf8_bytes.proofs.PartLemmas.{subpart_at}
use Rattle.utf8_bytes.proofs.SplitIllFormed.{shown-fault, shown-incomplete, split_tail-fault, split_tail-incomplete}
use Rattle.utf8_bytes.proofs.TextLemmas.{shown_text}
use Rattle.utf8_bytes.proofs.ValidLemmas.{IsValidUpTo-computed, all_valid, front_valid, none_at}
use Rattle.std.proofs.lemmas.List.{map-append}
use Rattle.utf8_bytes.proofs.SplitUnique.{split_items-append, split_tail-append}

-- the bytes of U+FFFD spell it
replaced : (bytes : List ℕ) → chars (replacement_bytes ++ bytes) ≡ 0xFFFD ∷ chars bytes
unfolding chars
replaced [] = refl
replaced (b ∷ bytes) = refl

-- the text of a tail: nothing, or one U+FFFD
abbrev pub tail_text : List ℕ → List ℕ
tail_text [] = []
tail_text (first ∷ after) = 0xFFFD ∷ []

pub whole_is : (items : List Item) (tail : List ℕ) → whole_lossy_chars items tail ≡ lossy_chars items ++ tail_text tail
whole_is items [] = sym (append-nil (lossy_chars items))
whole_is items (first ∷ after) = refl

tail_some : (tail : List ℕ) → 0 < length tail → tail_text tail ≡ 0xFFFD ∷ []
tail_some [] some = absurd (omega arith)
tail_some (first ∷ after) some = refl

lossy_is : (bytes : List ℕ) → lossy_text bytes ≡ lossy_chars (split_items bytes) ++ tail_text (split_tail bytes)
lossy_is bytes = whole_is (split_items bytes) (split_tail bytes)

-- the lossy text if the error has a length, and if it has none
module _ (bytes : List ℕ) (n : ℕ) (at : IsValidUpTo bytes n) where
  pub lossy-fault : (len : ℕ) → utf8_error_len (drop n bytes) ≡ Some len → lossy_text bytes ≡ chars (take n bytes) ++ 0xFFFD ∷ lossy_text (drop (n + len) bytes)
  lossy-fault len error =
      let rest = drop (n + len) bytes in
      lossy_is bytes
      ∙ ap₂ (λ t k. t ++ tail_text k) (shown-fault bytes n at len error) (split_tail-fault bytes n at len error)
      ∙ append_assoc (chars (take n bytes)) (0xFFFD ∷ lossy_chars (split_items rest)) (tail_text (split_tail rest))
      ∙ ap (λ t. chars (take n bytes) ++ 0xFFFD ∷ t) (sym (lossy_is rest))

  pub lossy-incomplete : utf8_error_len (drop n bytes) ≡ None → lossy_text bytes ≡ chars (take n bytes) ++ 0xFFFD ∷ []
  lossy-incomplete error =
      let short = at.short in
      lossy_is bytes
      ∙ ap₂ (λ t k. t ++ tail_text k) (shown-incomplete bytes n at error) (split_tail-incomplete bytes n at error)
      ∙ ap (λ t. chars (take n bytes) ++ t) (tail_some (drop n bytes) (omega (arith, length-drop n bytes)))

-- the text of std, one chunk at a time
std_step : (bytes : List ℕ) → utf8_valid_len bytes < length bytes
    → chars (utf8_lossy bytes) ≡ chars (take (utf8_valid_len bytes) bytes) ++ 0xFFFD ∷ chars (utf8_lossy (after_first_chunk bytes))
std_step bytes short =
    ap chars (utf8_lossy_step bytes (λ all. omega arith))
    ∙ chars-append (take (utf8_valid_len bytes) bytes) (replacement_bytes ++ utf8_lossy (after_first_chunk bytes)) (front_valid bytes)
    ∙ ap (λ t. chars (take (utf8_valid_len bytes) bytes) ++ t) (replaced (utf8_lossy (after_first_chunk bytes)))

std_empty : (bytes : List ℕ) → length bytes ≡ 0 → chars (utf8_lossy bytes) ≡ []
std_empty bytes none = ap chars (utf8_lossy_empty bytes none) ∙ chars-nil

lossy_valid : (bytes : List ℕ) → IsUtf8 bytes → lossy_text bytes ≡ chars bytes
lossy_valid bytes text =
    let shown = shown_text bytes text in
    lossy_is bytes ∙ ap₂ (λ t k. t ++ tail_text k) shown.0 shown.1 ∙ append-nil (chars bytes)

step : (bytes : List ℕ) (error : Option ℕ) → utf8_valid_len bytes < length bytes → utf8_error_len (drop (utf8_valid_len bytes) bytes) ≡ error
    → ((m : ℕ) → 0 < m → lossy_text (drop m bytes) ≡ chars (utf8_lossy (drop m bytes))) → lossy_text bytes ≡ chars (utf8_lossy bytes)
step bytes None short error next =
    let n = utf8_valid_len bytes in
    let at = IsValidUpTo-computed bytes short in
    let none : chars (utf8_lossy (after_first_chunk bytes)) ≡ [] =
    std_empty (after_first_chunk bytes) (omega (arith, ap (λ o. unwrap_or o (length (drop n bytes))) error, length-drop n bytes, length-drop (n + unwrap_or (utf8_error_len (drop n bytes)) (length (drop n bytes))) bytes)) in
    lossy-incomplete bytes n at error ∙ ap (λ t. chars (take n bytes) ++ 0xFFFD ∷ t) (sym none) ∙ sym (std_step bytes short)
step bytes (Some len) short error next =
    let n = utf8_valid_len bytes in
    let at = IsValidUpTo-computed bytes short in
    let part = subpart_at (drop n bytes) len (none_at bytes n at) error in
    let same : after_first_chunk bytes ≡ drop (n + len) bytes = ap (λ o. drop (n + unwrap_or o (length (drop n bytes))) bytes) error in
    lossy-fault bytes n at len error
    ∙ ap (λ t. chars (take n bytes) ++ 0xFFFD ∷ t) (next (n + len) (omega (arith, part.some)) ∙ ap (λ b. chars (utf8_lossy b)) (sym same))
    ∙ sym (std_step bytes short)

whole : (bytes : List ℕ) → length bytes ≤ utf8_valid_len bytes → lossy_text bytes ≡ chars (utf8_lossy bytes)
whole bytes all =
    let text = all_valid bytes all in
    lossy_valid bytes text ∙ ap chars (sym (utf8_lossy-IsUtf8 bytes text))

lossy_within : (most : ℕ) (bytes : List ℕ) → length bytes ≤ most → lossy_text bytes ≡ chars (utf8_lossy bytes)
lossy_within zero bytes within = whole bytes (omega arith)
lossy_within (suc most) bytes within = ⊎_elim
    (λ (short : utf8_valid_len bytes < length bytes).
    step bytes _ short refl (λ m some. let fewer = length-drop m bytes in lossy_within most (drop m bytes) (omega arith)))
    (λ (all : length bytes ≤ utf8_valid_len bytes). whole bytes all)
    (cases_lt (utf8_valid_len bytes) (length bytes))

-- the whole lossy text is std's
pub lossy_text-is : (bytes : List ℕ) → lossy_text bytes ≡ chars (utf8_lossy bytes)
lossy_text-is bytes = lossy_within (length bytes) bytes (omega arith)

-- ---- the whole text of a stream that is cut in two

pub lossy_text-append : (front back : List ℕ) → lossy_text (front ++ back) ≡ lossy_chars (split_items front) ++ lossy_text (split_tail front ++ back)
lossy_text-append front back =
    let next = split_tail front ++ back in
    lossy_is (front ++ back)
    ∙ ap₂ (λ i t. lossy_chars i ++ tail_text t) (split_items-append front back) (split_tail-append front back)
    ∙ ap (λ t. t ++ tail_text (split_tail next)) (map-append lossy_char (split_items front) (split_items next))
    ∙ append_assoc (lossy_chars (split_items front)) (lossy_chars (split_items next)) (tail_text (split_tail next))
    ∙ ap (λ t. lossy_chars (split_items front) ++ t) (sym (lossy_is next))
