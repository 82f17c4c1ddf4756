-- The split of a text, and of a text before other bytes.
use Rattle.std.proofs.Common.{◌≡◌, ℕ, true, List, [], ◌∷◌, ◌++◌, All, map, encode_utf8_all, refl, sym, ap, ◌∙◌, append-nil}
use Rattle.std.proofs.lemmas.List.Elements.{All-head, All-tail}
use Rattle.std.proofs.lemmas.Str.{chars-encodes}
use Rattle.std.specs.Char.{IsScalar}
use Rattle.std.specs.Prelude.{◌&&◌}
use Rattle.std.specs.Str.{IsUtf8, all_scalars, chars}
use Rattle.utf8_bytes.specs.Split.{good, lossy_chars, split_items, split_tail}
use Rattle.utf8_bytes.proofs.SplitLemmas.{Split-computed, Split-text}
use Rattle.utf8_bytes.proofs.SplitUnique.{Split-unique}

-- a character gives itself
pub lossy_chars-good : (text : List ℕ) → lossy_chars (map good text) ≡ text
lossy_chars-good [] = refl
lossy_chars-good (c ∷ text) = ap (λ t. c ∷ t) (lossy_chars-good text)

pub all_scalars-from_All : (text : List ℕ) → All IsScalar text → all_scalars text ≡ true
all_scalars-from_All [] scalars = refl
all_scalars-from_All (c ∷ text) scalars = λ i. All-head IsScalar c text scalars i && all_scalars-from_All text (All-tail IsScalar c text scalars) i

-- a text's characters come first, and then the split of what follows
module _ (front back : List ℕ) (text : IsUtf8 front) where
  text_then : (map good (chars front) ++ split_items back ≡ split_items (front ++ back)) × (split_tail back ≡ split_tail (front ++ back))
  text_then = Split-unique (front ++ back) (map good (chars front) ++ split_items back) (split_tail back)
      (Split-text front back (split_items back) (split_tail back) text (Split-computed back))

  pub split_items-text : split_items (front ++ back) ≡ map good (chars front) ++ split_items back
  split_items-text = sym text_then.0

  pub split_tail-text : split_tail (front ++ back) ≡ split_tail back
  split_tail-text = sym text_then.1

-- the items of a text, and its tail
pub split_text : (bytes : List ℕ) → IsUtf8 bytes → (split_items bytes ≡ map good (chars bytes)) × (split_tail bytes ≡ [])
unfolding split_items split_tail
split_text bytes text = (
  ap split_items (sym (append-nil bytes)) ∙ split_items-text bytes [] text ∙ append-nil (map good (chars bytes)),
  ap split_tail (sym (append-nil bytes)) ∙ split_tail-text bytes [] text,
)

pub shown_text : (bytes : List ℕ) → IsUtf8 bytes → (lossy_chars (split_items bytes) ≡ chars bytes) × (split_tail bytes ≡ [])
shown_text bytes text =
    let split = split_text bytes text in
    (ap lossy_chars split.0 ∙ lossy_chars-good (chars bytes), split.1)

pub shown_encode : (text : List ℕ) → All IsScalar text → (lossy_chars (split_items (encode_utf8_all text)) ≡ text) × (split_tail (encode_utf8_all text) ≡ [])
shown_encode text scalars =
    let all = all_scalars-from_All text scalars in
    let shown = shown_text (encode_utf8_all text) (text, (all, refl)) in
    (shown.0 ∙ chars-encodes text all, shown.1)
