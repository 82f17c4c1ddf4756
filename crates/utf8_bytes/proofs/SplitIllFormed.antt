-- The split of bytes that have an error: what the error's fields say about the items and the tail.
use Rattle.std.proofs.Common.{◌≡◌, ℕ, ◌+◌, List, [], ◌∷◌, ◌++◌, None, Some, map, take, drop, sym, ap, ◌∙◌, subst, append-nil, drop-drop, take-append-drop}
use Rattle.std.proofs.lemmas.List.{map-append}
use Rattle.std.specs.Str.{IsValidUpTo, StartsWithNoChar, chars}
use Rattle.std.specs.Str.Lossy.{utf8_error_len}
use Rattle.utf8_bytes.specs.Split.{Split, good, ill, lossy_char, lossy_chars, split_items, split_tail}
use Rattle.utf8_bytes.proofs.PartLemmas.{subpart_at, tail_from}
use Rattle.utf8_bytes.proofs.SplitLemmas.{Split-computed, Split-cons, Split-nil}
use Rattle.utf8_bytes.proofs.SplitUnique.{Split-unique}
use Rattle.utf8_bytes.proofs.TextLemmas.{lossy_chars-good, split_items-text, split_tail-text}
use Rattle.utf8_bytes.proofs.ValidLemmas.{none_at}

-- bytes that no character begins, and whose error has a length
module _ (bytes : List ℕ) (len : ℕ) (none : StartsWithNoChar bytes) (error : utf8_error_len bytes ≡ Some len) where
  subpart_then : (ill (take len bytes) ∷ split_items (drop len bytes) ≡ split_items bytes) × (split_tail (drop len bytes) ≡ split_tail bytes)
  subpart_then =
      let rest = drop len bytes in
      Split-unique bytes (ill (take len bytes) ∷ split_items rest) (split_tail rest)
      (subst (λ b. Split b (ill (take len bytes) ∷ split_items rest) (split_tail rest)) (take-append-drop len bytes)
      (Split-cons (ill (take len bytes)) rest (split_items rest) (split_tail rest) (subpart_at bytes len none error).here (Split-computed rest)))

  pub split_items-subpart : split_items bytes ≡ ill (take len bytes) ∷ split_items (drop len bytes)
  split_items-subpart = sym subpart_then.0

  pub split_tail-subpart : split_tail bytes ≡ split_tail (drop len bytes)
  split_tail-subpart = sym subpart_then.1

-- the split of such bytes, if the error has no length
pub split_undecided : (bytes : List ℕ) → StartsWithNoChar bytes → utf8_error_len bytes ≡ None → (split_items bytes ≡ []) × (split_tail bytes ≡ bytes)
split_undecided bytes none error =
    let only = Split-unique bytes [] bytes (Split-nil bytes (tail_from bytes none error)) in
    (sym only.0, sym only.1)

-- bytes that are valid up to n
module _ (bytes : List ℕ) (n : ℕ) (at : IsValidUpTo bytes n) where
  abbrev front : List ℕ
  front = take n bytes

  items_from : split_items bytes ≡ map good (chars front) ++ split_items (drop n bytes)
  items_from = ap split_items (sym (take-append-drop n bytes)) ∙ split_items-text front (drop n bytes) at.front

  tail_from_there : split_tail bytes ≡ split_tail (drop n bytes)
  tail_from_there = ap split_tail (sym (take-append-drop n bytes)) ∙ split_tail-text front (drop n bytes) at.front

  -- the error has a length: after the text an ill-formed subpart of this length, and then the split
  -- continues as if the bytes began there
  pub split_items-fault : (len : ℕ) → utf8_error_len (drop n bytes) ≡ Some len
      → split_items bytes ≡ map good (chars front) ++ ill (take len (drop n bytes)) ∷ split_items (drop (n + len) bytes)
  split_items-fault len error =
      items_from ∙ ap (λ i. map good (chars front) ++ i)
      (split_items-subpart (drop n bytes) len (none_at bytes n at) error
      ∙ ap (λ b. ill (take len (drop n bytes)) ∷ split_items b) (drop-drop len n bytes))

  pub split_tail-fault : (len : ℕ) → utf8_error_len (drop n bytes) ≡ Some len → split_tail bytes ≡ split_tail (drop (n + len) bytes)
  split_tail-fault len error = tail_from_there ∙ split_tail-subpart (drop n bytes) len (none_at bytes n at) error ∙ ap split_tail (drop-drop len n bytes)

  -- the error has none: the items are the text, and what follows it is the tail
  pub split_items-incomplete : utf8_error_len (drop n bytes) ≡ None → split_items bytes ≡ map good (chars front)
  split_items-incomplete error =
      items_from ∙ ap (λ i. map good (chars front) ++ i) (split_undecided (drop n bytes) (none_at bytes n at) error).0 ∙ append-nil (map good (chars front))

  pub split_tail-incomplete : utf8_error_len (drop n bytes) ≡ None → split_tail bytes ≡ drop n bytes
  split_tail-incomplete error = tail_from_there ∙ (split_undecided (drop n bytes) (none_at bytes n at) error).1

  -- their text
  pub shown-fault : (len : ℕ) → utf8_error_len (drop n bytes) ≡ Some len
      → lossy_chars (split_items bytes) ≡ chars front ++ 0xFFFD ∷ lossy_chars (split_items (drop (n + len) bytes))
  shown-fault len error =
      ap lossy_chars (split_items-fault len error) ∙ map-append lossy_char (map good (chars front)) _
      ∙ ap (λ t. t ++ 0xFFFD ∷ lossy_chars (split_items (drop (n + len) bytes))) (lossy_chars-good (chars front))

  pub shown-incomplete : utf8_error_len (drop n bytes) ≡ None → lossy_chars (split_items bytes) ≡ chars front
  shown-incomplete error = ap lossy_chars (split_items-incomplete error) ∙ lossy_chars-good (chars front)
