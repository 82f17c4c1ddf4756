-- What a tail that was kept becomes with more bytes after it: it is inside the first item, and so
-- adds at most two bytes of UTF-16.
use Rattle.std.proofs.Common.{◌≡◌, ℕ, ◌+◌, ◌*◌, ◌<◌, ◌≤◌, List, [], ◌∷◌, ◌++◌, length, take, drop, refl, sym, ap, ◌∙◌, subst, ⊎_elim, arith, length-append, take-append-drop, take_at}
use Rattle.std.proofs.lemmas.Bool.{cases_lt}
use Rattle.std.proofs.lemmas.List.{take-append-le}
use Rattle.std.specs.Char.{IsScalar, encode_utf8}
use Rattle.utf16_units.specs.Encoding.{char_size, size}
use Rattle.utf16_units.proofs.CharLemmas.{char_size_four, char_size_two}
use Rattle.utf16_units.proofs.EncodingLemmas.{size-append, size-cons}
use Rattle.utf8_bytes.specs.Split.{IsItem, IsSubpart, IsTail, Item, Split, good, ill, item_bytes, items_bytes, lossy_char, lossy_chars, decided_text, lossy_text, split_items, split_tail, whole_lossy_chars}
use Rattle.utf8_bytes.proofs.LossyLemmas.{tail_text, whole_is}
use Rattle.utf8_bytes.proofs.PartLemmas.{subpart_at, tail_undecided}
use Rattle.utf8_bytes.proofs.ShownLemmas.{items_within, replacement_size, tail_within}
use Rattle.utf8_bytes.proofs.SplitLemmas.{Split-computed}
use Rattle.utf8_bytes.proofs.SplitUnique.{first_bytes}

module _ (tail back rest : List ℕ) (ends : IsTail tail) where
  -- a character that tail and more bytes begin with is longer than the tail
  char_longer : (c : ℕ) → IsScalar c → encode_utf8 c ++ rest ≡ tail ++ back → length tail < length (encode_utf8 c)
  char_longer c scalar e = ⊎_elim
      (λ (longer : length tail < length (encode_utf8 c)). longer)
      (λ (short : length (encode_utf8 c) ≤ length tail).
      let n = length (encode_utf8 c) in
      let front : encode_utf8 c ≡ take n tail = sym (take_at (encode_utf8 c) rest n refl) ∙ ap (take n) e ∙ take-append-le n tail back short in
      absurd ((tail_undecided tail ends).0 c (drop n tail) scalar (sym (ap (λ b. b ++ drop n tail) front ∙ take-append-drop n tail))))
      (cases_lt (length tail) (length (encode_utf8 c)))

  -- an ill-formed subpart is at least as long
  part_longer : (part : List ℕ) → IsSubpart part rest → part ++ rest ≡ tail ++ back → length tail ≤ length part
  part_longer part is e = ⊎_elim
      (λ (short : length part < length tail).
      let here = subpart_at (part ++ rest) (length part) is.no_char is.len in
      absurd (here.longest (length tail) short (omega (arith, ap length e, length-append tail back))
      (subst IsTail (sym (ap (take (length tail)) e ∙ take_at tail back (length tail) refl)) ends)))
      (λ (longer : length tail ≤ length part). longer)
      (cases_lt (length part) (length tail))

  -- and the character of either takes at most two bytes of UTF-16 more than twice what is after the
  -- tail
  item_after : (item : Item) → IsItem item rest → item_bytes item ++ rest ≡ tail ++ back
      → (length tail ≤ length (item_bytes item)) × (char_size (lossy_char item) + 2 * length tail ≤ 2 * length (item_bytes item) + 2)
  item_after (good c) is e =
      let longer = char_longer c is e in
      let most : char_size c ≤ 4 = ⊎_elim
      (λ (one : c < 0x1_0000). omega (arith, char_size_two c one))
      (λ (two : 0x1_0000 ≤ c). omega (arith, char_size_four c two))
      (cases_lt c 0x1_0000) in
      (omega arith, omega arith)
  item_after (ill part) is e =
      let longer = part_longer part is e in
      (longer, omega (arith, replacement_size))

-- ---- the first item, and the whole text

-- the tail is inside the first item
pub tail_first : (tail back : List ℕ) (item : Item) (items : List Item) (last : List ℕ) → IsTail tail → Split (tail ++ back) (item ∷ items) last
    → length tail ≤ length (item_bytes item)
tail_first tail back item items last ends s =
    (item_after tail back (items_bytes items ++ last) ends item s.made.0 (first_bytes (tail ++ back) item items last s)).0

tail_size : (tail : List ℕ) → size (tail_text tail) ≤ 2
unfolding size
tail_size [] = omega arith
tail_size (first ∷ after) = omega (arith, size-cons 0xFFFD [], replacement_size)

size_nil : size [] ≡ 0
unfolding size
size_nil = refl

whole_size : (items : List Item) (last : List ℕ) → size (whole_lossy_chars items last) ≡ size (lossy_chars items) + size (tail_text last)
whole_size items last = ap size (whole_is items last) ∙ size-append (lossy_chars items) (tail_text last)

-- so the text takes two bytes of UTF-16 for each byte after the tail, and at most two more
pub size_after : (tail back : List ℕ) (items : List Item) (last : List ℕ) → IsTail tail → Split (tail ++ back) items last
    → size (whole_lossy_chars items last) ≤ 2 * length back + 2
size_after tail back [] last ends s = let most = tail_size last in omega (arith, whole_size [] last, size_nil)
size_after tail back (item ∷ items) last ends s =
    let rest = items_bytes items ++ last in
    let bytes = first_bytes (tail ++ back) item items last s in
    let first = (item_after tail back rest ends item s.made.0 bytes).1 in
    let others = (items_within items last s.made.1).1 in
    let at_end = (tail_within last).0 in
    let long = ap length bytes in
    omega (arith, whole_size (item ∷ items) last, size-cons (lossy_char item) (lossy_chars items), length-append (item_bytes item) rest, length-append (items_bytes items) last, length-append tail back)

pub text_after : (tail back : List ℕ) → IsTail tail → (size (decided_text (tail ++ back)) ≤ 2 * length back + 2) × (size (lossy_text (tail ++ back)) ≤ 2 * length back + 2)
text_after tail back ends =
    let bytes = tail ++ back in
    let whole = size_after tail back (split_items bytes) (split_tail bytes) ends (Split-computed bytes) in
    (omega (arith, whole, whole_size (split_items bytes) (split_tail bytes)), whole)
