-- The computed split is a split.
use Rattle.std.proofs.Common.{◌≡◌, ℕ, zero, suc, ◌<◌, ◌≤◌, true, List, [], ◌∷◌, ◌++◌, Option, None, Some, length, map, take, drop, encode_utf8_all, refl, sym, ap, ◌∙◌, subst, arith, append_assoc, length-drop, take-append-drop}
use Rattle.std.proofs.lemmas.Str.{encodes-chars, scalars-chars}
use Rattle.std.proofs.str.Laws.{both}
use Rattle.std.specs.Char.{encode_utf8}
use Rattle.std.specs.Str.{IsUtf8, StartsWithNoChar, all_scalars, chars}
use Rattle.std.specs.Str.Lossy.{utf8_error_len, utf8_valid_len}
use Rattle.utf8_bytes.specs.Split.{IsItem, IsTail, Item, Split, after_valid, good, ill, item_bytes, items_at, items_bytes, split_items, split_items_within, split_tail, split_tail_within, tail_at}
use Rattle.utf8_bytes.proofs.TableLemmas.{tail_nil}
use Rattle.utf8_bytes.proofs.BeginsLemmas.{no_bytes}
use Rattle.utf8_bytes.proofs.PartLemmas.{subpart_at, tail_from}
use Rattle.utf8_bytes.proofs.ValidLemmas.{front_valid, none_after_valid}

-- bytes that are a tail and nothing else
pub Split-nil : (tail : List ℕ) → IsTail tail → Split tail [] tail
Split-nil tail ends = record { made = tt; spelled = refl; ends = ends }

-- an item before a split
pub Split-cons : (item : Item) (bytes : List ℕ) (items : List Item) (tail : List ℕ) → IsItem item bytes → Split bytes items tail
    → Split (item_bytes item ++ bytes) (item ∷ items) tail
Split-cons item bytes items tail is s = record {
  made = (subst (IsItem item) (sym s.spelled) is, s.made);
  spelled = append_assoc (item_bytes item) (items_bytes items) tail ∙ ap (λ b. item_bytes item ++ b) s.spelled;
  ends = s.ends;
}

-- the split without its first item
pub Split-tail : (bytes : List ℕ) (item : Item) (items : List Item) (tail : List ℕ) → Split bytes (item ∷ items) tail
    → Split (items_bytes items ++ tail) items tail
Split-tail bytes item items tail s = record { made = s.made.1; spelled = refl; ends = s.ends }

-- a text before a split
pub Split-chars : (text bytes : List ℕ) (items : List Item) (tail : List ℕ) → all_scalars text ≡ true → Split bytes items tail
    → Split (encode_utf8_all text ++ bytes) (map good text ++ items) tail
Split-chars [] bytes items tail scalars s = s
Split-chars (c ∷ text) bytes items tail scalars s =
    let each = both _ _ scalars in
    subst (λ b. Split b (good c ∷ (map good text ++ items)) tail) (sym (append_assoc (encode_utf8 c) (encode_utf8_all text) bytes))
    (Split-cons (good c) (encode_utf8_all text ++ bytes) (map good text ++ items) tail each.0 (Split-chars text bytes items tail each.1 s))

pub Split-text : (front bytes : List ℕ) (items : List Item) (tail : List ℕ) → IsUtf8 front → Split bytes items tail
    → Split (front ++ bytes) (map good (chars front) ++ items) tail
Split-text front bytes items tail text s =
    subst (λ b. Split (b ++ bytes) (map good (chars front) ++ items) tail) (encodes-chars front text)
    (Split-chars (chars front) bytes items tail (scalars-chars front text) s)

-- ---- the computed split is a split

-- bytes that no character begins, and what follows an ill-formed subpart
Split-at : (error : Option ℕ) (bytes : List ℕ) (items : List ℕ → List Item) (tail : List ℕ → List ℕ) → StartsWithNoChar bytes
    → utf8_error_len bytes ≡ error
    → ((len : ℕ) → 0 < len → len ≤ length bytes → Split (drop len bytes) (items (drop len bytes)) (tail (drop len bytes)))
    → Split bytes (items_at error bytes items) (tail_at error bytes tail)
Split-at None bytes items tail none error next = Split-nil bytes (tail_from bytes none error)
Split-at (Some len) bytes items tail none error next =
    let part = subpart_at bytes len none error in
    let rest = drop len bytes in
    subst (λ b. Split b (ill (take len bytes) ∷ items rest) (tail rest)) (take-append-drop len bytes)
    (Split-cons (ill (take len bytes)) rest (items rest) (tail rest) (part.here) (next len part.some part.within))

pub Split-within : (k : ℕ) (bytes : List ℕ) → length bytes ≤ k → Split bytes (split_items_within k bytes) (split_tail_within k bytes)
Split-within zero bytes short = subst (λ b. Split b [] []) (sym (no_bytes bytes (omega arith))) (Split-nil [] tail_nil)
Split-within (suc k) bytes short =
    let n = utf8_valid_len bytes in
    let rest = after_valid bytes in
    let left = length-drop n bytes in
    let behind = Split-at (utf8_error_len rest) rest (λ b. split_items_within k b) (λ b. split_tail_within k b) (none_after_valid bytes) refl
    (λ len some within. Split-within k (drop len rest) (omega (arith, length-drop len rest))) in
    subst (λ b. Split b (split_items_within (suc k) bytes) (split_tail_within (suc k) bytes)) (take-append-drop n bytes)
    (Split-text (take n bytes) rest (items_at (utf8_error_len rest) rest (λ b. split_items_within k b)) (split_tail_within (suc k) bytes) (front_valid bytes) behind)

pub Split-computed : (bytes : List ℕ) → Split bytes (split_items bytes) (split_tail bytes)
unfolding split_items split_tail
Split-computed bytes = Split-within (length bytes) bytes (omega arith)
