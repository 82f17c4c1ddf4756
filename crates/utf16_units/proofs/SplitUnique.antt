-- Any split is the computed one; how long a tail is, and the split of an encoding.
use Rattle.std.proofs.Common.{◌≡◌, ℕ, ◌+◌, ◌-◌, ◌/◌, ◌%◌, ◌<◌, ◌≤◌, Bool, true, false, List, [], ◌∷◌, ◌++◌, length, map, All, refl, sym, ap, ap₂, ◌∙◌, subst, ⊎_elim, arith, append_assoc, append-nil, length-append}
use Rattle.std.proofs.lemmas.Bool.{cases_lt, cases_Bool}
use Rattle.std.proofs.lemmas.List.Elements.{All-head, All-tail}
use Rattle.std.specs.Char.{IsScalar}
use Rattle.std.specs.Char.Utf16.{surrogate_pair_char}
use Rattle.utf16_units.specs.Unit.{IsLeading, IsTrailing, unit_bytes, unit_of}
use Rattle.utf16_units.specs.Encoding.{char_bytes, encode}
use Rattle.utf16_units.specs.IllFormed.{is_incomplete}
use Rattle.utf16_units.specs.Split.{BeginsUnpaired, IsItem, IsTail, Item, Split, good, item_bytes, items_bytes, lone_lead, lone_trail, lossy_chars, put_leading, put_unit, split_items, split_tail}
use Rattle.utf16_units.proofs.UnitLemmas.{length-unit_bytes}
use Rattle.utf16_units.proofs.CharLemmas.{no_surrogate, one_unit_bytes}
use Rattle.utf16_units.proofs.EncodingLemmas.{encode-cons, encode-nil}
use Rattle.utf16_units.proofs.FirstChar.{first_unit}
use Rattle.utf16_units.proofs.FrontChar.{first_unit-bytes}
use Rattle.utf16_units.proofs.Computed.{IsIncomplete-from_is_incomplete, is_incomplete-from_IsIncomplete}
use Rattle.utf16_units.proofs.SplitLemmas.{Follows, Split-cons, Split-nil, Split-tail, cut_items, cut_tail, not_cut, pair_bytes, put_unit-leading, put_unit-neither, put_unit-trailing, whole_items, whole_tail}

-- the items and the tail are the computed ones
abbrev IsComputed : Bool → List ℕ → List Item → List ℕ → Type 0
IsComputed big bytes items tail = (items ≡ split_items big bytes) × (tail ≡ split_tail big bytes)

-- a unit before them
unit_computed : (big : Bool) (unit : ℕ) (bytes : List ℕ) (items : List Item) (tail : List ℕ) → (IsLeading unit → 2 ≤ length bytes)
    → IsComputed big bytes items tail → IsComputed big (unit_bytes big unit ++ bytes) (put_unit unit items) tail
unit_computed true unit bytes items tail long computed =
    let same : unit_of true (unit / 256) (unit % 256) ≡ unit = omega arith in
    let whole = not_cut true (unit / 256) (unit % 256) bytes (λ l. long (subst IsLeading same l)) in (
      ap₂ put_unit (sym same) computed.0 ∙ sym (whole_items true (unit / 256) (unit % 256) bytes whole),
      computed.1 ∙ sym (whole_tail true (unit / 256) (unit % 256) bytes whole),
    )
unit_computed false unit bytes items tail long computed =
    let same : unit_of false (unit % 256) (unit / 256) ≡ unit = omega arith in
    let whole = not_cut false (unit % 256) (unit / 256) bytes (λ l. long (subst IsLeading same l)) in (
      ap₂ put_unit (sym same) computed.0 ∙ sym (whole_items false (unit % 256) (unit / 256) bytes whole),
      computed.1 ∙ sym (whole_tail false (unit % 256) (unit / 256) bytes whole),
    )

-- a tail without items is computed
tail_computed : (big : Bool) (tail : List ℕ) → IsTail big tail → IsComputed big tail [] tail
unfolding split_items split_tail
tail_computed big [] ends = (refl, refl)
tail_computed big (last ∷ []) ends = (refl, refl)
tail_computed big (first ∷ second ∷ after) ends =
    let cut = is_incomplete-from_IsIncomplete big (first ∷ second ∷ after) ends in
    (sym (cut_items big first second after cut), sym (cut_tail big first second after cut))

length-BeginsUnpaired : (big : Bool) (bytes : List ℕ) → BeginsUnpaired big bytes → 2 ≤ length bytes
length-BeginsUnpaired big [] follows = absurd follows
length-BeginsUnpaired big (last ∷ []) follows = absurd follows
length-BeginsUnpaired big (first ∷ second ∷ after) follows = omega arith

first-BeginsUnpaired : (big : Bool) (bytes : List ℕ) → BeginsUnpaired big bytes → ¬ (IsTrailing (first_unit big bytes))
first-BeginsUnpaired big [] follows = absurd follows
first-BeginsUnpaired big (last ∷ []) follows = absurd follows
first-BeginsUnpaired big (first ∷ second ∷ after) follows = follows

-- a leading unit before items that do not start with a trailing unit stays unpaired
put_leading-lone : (big : Bool) (lead : ℕ) (items : List Item) (tail : List ℕ) → All IsItem items → BeginsUnpaired big (items_bytes big items ++ tail)
    → put_leading lead items ≡ lone_lead lead ∷ items
unfolding put_leading
put_leading-lone big lead [] tail made follows = refl
put_leading-lone big lead (good c ∷ items) tail made follows = refl
put_leading-lone big lead (lone_trail trail ∷ items) tail made follows =
    let t : IsTrailing trail = All-head IsItem (lone_trail trail) items made in
    let rest = items_bytes big items ++ tail in
    let unit : first_unit big ((unit_bytes big trail ++ items_bytes big items) ++ tail) ≡ trail =
    ap (first_unit big) (append_assoc (unit_bytes big trail) (items_bytes big items) tail) ∙ first_unit-bytes big trail rest in
    absurd (first-BeginsUnpaired big ((unit_bytes big trail ++ items_bytes big items) ++ tail) follows (subst IsTrailing (sym unit) t))
put_leading-lone big lead (lone_lead next ∷ items) tail made follows = refl

-- a character before them
good_computed : (big : Bool) (c : ℕ) (bytes : List ℕ) (items : List Item) (tail : List ℕ) → IsScalar c
    → IsComputed big bytes items tail → IsComputed big (char_bytes big c ++ bytes) (good c ∷ items) tail
unfolding put_leading
good_computed big c bytes items tail scalar computed =
    let cases = no_surrogate c scalar in
    ⊎_elim
    (λ (one : c < 0x1_0000).
    let l : ¬ (IsLeading c) = λ lead. ⊎_elim (λ (low : c < 0xD800). omega arith) (λ (high : (0xE000 ≤ c) × (c < 0x11_0000)). omega arith) cases in
    let t : ¬ (IsTrailing c) = λ trail. ⊎_elim (λ (low : c < 0xD800). omega arith) (λ (high : (0xE000 ≤ c) × (c < 0x11_0000)). omega arith) cases in
    subst (λ i. IsComputed big (char_bytes big c ++ bytes) i tail) (put_unit-neither c items l t)
    (subst (λ b. IsComputed big (b ++ bytes) (put_unit c items) tail) (sym (one_unit_bytes big c one))
    (unit_computed big c bytes items tail (λ lead. absurd (l lead)) computed)))
    (λ (two : 0x1_0000 ≤ c).
    let lead = 0xD800 + (c - 0x1_0000) / 0x400 in
    let trail = 0xDC00 + (c - 0x1_0000) % 0x400 in
    let l : IsLeading lead = (omega arith, omega arith) in
    let t : IsTrailing trail = (omega arith, omega arith) in
    let same : surrogate_pair_char lead trail ≡ c = omega arith in
    let behind = unit_computed big trail bytes items tail (λ h. absurd (omega arith)) computed in
    let sizes = length-append (unit_bytes big trail) bytes in
    let size = length-unit_bytes big trail in
    let whole = unit_computed big lead (unit_bytes big trail ++ bytes) (put_unit trail items) tail (λ h. omega arith) behind in
    let made : put_unit lead (put_unit trail items) ≡ good c ∷ items =
    ap (put_unit lead) (put_unit-trailing trail items t) ∙ put_unit-leading lead (lone_trail trail ∷ items) l ∙ ap (λ d. good d ∷ items) same in
    subst (λ i. IsComputed big (char_bytes big c ++ bytes) i tail) made
    (subst (λ b. IsComputed big b (put_unit lead (put_unit trail items)) tail)
    (sym (pair_bytes lead trail l t big bytes) ∙ ap (λ d. char_bytes big d ++ bytes) same) whole))
    (cases_lt c 0x1_0000)

-- an item before them
item_computed : (big : Bool) (item : Item) (items : List Item) (tail : List ℕ) → All IsItem items
    → IsItem item → Follows big item (items_bytes big items ++ tail) → IsComputed big (items_bytes big items ++ tail) items tail
    → IsComputed big (item_bytes big item ++ (items_bytes big items ++ tail)) (item ∷ items) tail
item_computed big (good c) items tail made is follows computed = good_computed big c (items_bytes big items ++ tail) items tail is computed
item_computed big (lone_trail unit) items tail made is follows computed =
    let bytes = items_bytes big items ++ tail in
    subst (λ i. IsComputed big (unit_bytes big unit ++ bytes) i tail) (put_unit-trailing unit items is)
    (unit_computed big unit bytes items tail (λ lead. absurd (omega arith)) computed)
item_computed big (lone_lead unit) items tail made is follows computed =
    let bytes = items_bytes big items ++ tail in
    subst (λ i. IsComputed big (unit_bytes big unit ++ bytes) i tail)
    (put_unit-leading unit items is ∙ put_leading-lone big unit items tail made follows)
    (unit_computed big unit bytes items tail (λ lead. length-BeginsUnpaired big bytes follows) computed)

-- what follows the first item of a split is as required
Follows-first : (big : Bool) (bytes : List ℕ) (item : Item) (items : List Item) (tail : List ℕ)
    → Split big bytes (item ∷ items) tail → Follows big item (items_bytes big items ++ tail)
Follows-first big bytes (good c) items tail s = tt
Follows-first big bytes (lone_trail unit) items tail s = tt
Follows-first big bytes (lone_lead unit) items tail s = s.unpaired [] unit items refl

-- any split is the computed one
pub Split-unique : (big : Bool) (bytes : List ℕ) (items : List Item) (tail : List ℕ) → Split big bytes items tail
    → (items ≡ split_items big bytes) × (tail ≡ split_tail big bytes)
Split-unique big bytes [] tail s = subst (λ b. IsComputed big b [] tail) s.spelled (tail_computed big tail s.ends)
Split-unique big bytes (item ∷ items) tail s =
    let rest = items_bytes big items ++ tail in
    let behind = Split-tail big bytes item items tail s in
    subst (λ b. IsComputed big b (item ∷ items) tail)
    (sym (append_assoc (item_bytes big item) (items_bytes big items) tail) ∙ s.spelled)
    (item_computed big item items tail behind.made (All-head IsItem item items s.made) (Follows-first big bytes item items tail s)
    (Split-unique big rest items tail behind))

-- ---- the tail's length, and the split of an encoding

-- the computed tail is a tail, whatever the numbers are
pub IsTail-split_tail : (big : Bool) (bytes : List ℕ) → IsTail big (split_tail big bytes)
unfolding split_tail
IsTail-split_tail big [] = tt
IsTail-split_tail big (last ∷ []) = tt
IsTail-split_tail big (first ∷ second ∷ bytes) = ⊎_elim
    (λ (cut : is_incomplete big (first ∷ second ∷ bytes) ≡ true).
    subst (IsTail big) (sym (cut_tail big first second bytes cut)) (IsIncomplete-from_is_incomplete big (first ∷ second ∷ bytes) cut))
    (λ (whole : is_incomplete big (first ∷ second ∷ bytes) ≡ false).
    subst (IsTail big) (sym (whole_tail big first second bytes whole)) (IsTail-split_tail big bytes))
    (cases_Bool (is_incomplete big (first ∷ second ∷ bytes)))

-- a tail has at most three bytes
pub length-IsTail : (big : Bool) (tail : List ℕ) → IsTail big tail → length tail ≤ 3
length-IsTail big [] ends = omega arith
length-IsTail big (last ∷ []) ends = omega arith
length-IsTail big (first ∷ second ∷ after) ends =
    omega arith

pub length-split_tail : (big : Bool) (bytes : List ℕ) → length (split_tail big bytes) ≤ 3
length-split_tail big bytes = length-IsTail big (split_tail big bytes) (IsTail-split_tail big bytes)

-- a text before a split
pub Split-text : (big : Bool) (text bytes : List ℕ) (items : List Item) (tail : List ℕ) → All IsScalar text
    → Split big bytes items tail → Split big (encode big text ++ bytes) (map good text ++ items) tail
Split-text big [] bytes items tail scalars s = subst (λ b. Split big (b ++ bytes) items tail) (sym (encode-nil big)) s
Split-text big (c ∷ text) bytes items tail scalars s =
    subst (λ b. Split big b (good c ∷ (map good text ++ items)) tail)
    (sym (append_assoc (char_bytes big c) (encode big text) bytes) ∙ ap (λ b. b ++ bytes) (sym (encode-cons big c text)))
    (Split-cons big (good c) (encode big text ++ bytes) (map good text ++ items) tail (All-head IsScalar c text scalars) tt
    (Split-text big text bytes items tail (All-tail IsScalar c text scalars) s))

-- an encoding splits into the text's characters, and no tail
pub Split-encode : (big : Bool) (text : List ℕ) → All IsScalar text → Split big (encode big text) (map good text) []
Split-encode big text scalars =
    subst (λ b. Split big b (map good text) []) (append-nil (encode big text))
    (subst (λ i. Split big (encode big text ++ []) i []) (append-nil (map good text))
    (Split-text big text [] [] [] scalars (Split-nil big [] tt)))

pub computed-encode : (big : Bool) (text : List ℕ) → All IsScalar text
    → (split_items big (encode big text) ≡ map good text) × (split_tail big (encode big text) ≡ [])
computed-encode big text scalars =
    let only = Split-unique big (encode big text) (map good text) [] (Split-encode big text scalars) in
    (sym only.0, sym only.1)

-- the text of characters is these characters
pub lossy_chars-good : (text : List ℕ) → lossy_chars (map good text) ≡ text
lossy_chars-good [] = refl
lossy_chars-good (c ∷ text) = ap (λ t. c ∷ t) (lossy_chars-good text)
