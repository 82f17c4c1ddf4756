-- The lines and counts of items, one list after another, and of characters.
use Rattle.std.proofs.Common.{cond, ◌≡◌, ℕ, ◌+◌, ◌*◌, ◌≤◌, Bool, List, [], ◌∷◌, ◌++◌, length, map, refl, sym, ap, ◌∙◌, arith, add-zero, length-append, ⊎_elim, le-leb, le-ltb, lt-ltb, true, false, ◌<◌}
use Rattle.std.proofs.lemmas.Bool.{cases_Bool, cases_lt, lt-leb}
use Rattle.std.proofs.lemmas.List.Concat.{flat_map-append}
use Rattle.std.proofs.lemmas.List.Sums.{sum_by-append, sum_by-cons}
use Rattle.std.specs.Char.Utf16.{is_high_surrogate}
use Rattle.std.specs.Prelude.{count_by}
use Rattle.std.specs.List.{flat_map}
use Rattle.utf16_units.specs.Encoding.{IsUtf16, encode, text_of}
use Rattle.utf16_units.specs.Unit.{IsLeading}
use Rattle.utf16_units.specs.Split.{Item, good, item_bytes, items_bytes, lone_lead, lone_trail}
use Rattle.utf16_units.proofs.CountLemmas.{counted_bytes}
use Rattle.utf16_units.proofs.EncodingLemmas.{encode-cons, encode-nil, encode-text_of}
use Rattle.utf16_program.specs.Report.{ill_formed_line, ill_formed_lines, is_char, is_ill_formed, placed}
use Rattle.utf16_program.specs.Scans.{lone}

-- ---- two lists of items

placed-append : (big : Bool) (offset : ℕ) (items more : List Item)
    → placed big offset (items ++ more) ≡ placed big offset items ++ placed big (offset + length (items_bytes big items)) more
placed-append big offset [] more = ap (λ at. placed big at more) (sym (add-zero offset))
placed-append big offset (item ∷ items) more =
    let long = length-append (item_bytes big item) (items_bytes big items) in
    let at : (offset + length (item_bytes big item)) + length (items_bytes big items) ≡ offset + length (items_bytes big (item ∷ items)) = omega (arith, long) in
    ap (λ rest. (offset, item) ∷ rest)
    (placed-append big (offset + length (item_bytes big item)) items more
    ∙ ap (λ n. placed big (offset + length (item_bytes big item)) items ++ placed big n more) at)

pub ill_formed_lines-append : (big : Bool) (offset : ℕ) (items more : List Item)
    → ill_formed_lines big offset (items ++ more) ≡ ill_formed_lines big offset items ++ ill_formed_lines big (offset + length (items_bytes big items)) more
ill_formed_lines-append big offset items more =
    ap (flat_map (λ (at, item). ill_formed_line at item)) (placed-append big offset items more) ∙ flat_map-append (λ (at, item). ill_formed_line at item) (placed big offset items) (placed big (offset + length (items_bytes big items)) more)

pub length-items_bytes : (big : Bool) (items more : List Item)
    → length (items_bytes big (items ++ more)) ≡ length (items_bytes big items) + length (items_bytes big more)
length-items_bytes big items more =
    ap length (flat_map-append (item_bytes big) items more) ∙ length-append (items_bytes big items) (items_bytes big more)

pub count-append : (p : Item → Bool) (items more : List Item) → count_by p (items ++ more) ≡ count_by p items + count_by p more
count-append p items more = sum_by-append (λ i. cond (p i) 1 0) items more

pub count-cons : (p : Item → Bool) (item : Item) (items : List Item) → count_by p (item ∷ items) ≡ cond (p item) 1 0 + count_by p items
count-cons p item items = sum_by-cons (λ i. cond (p i) 1 0) item items

-- ---- characters

pub ill_formed_lines-good : (big : Bool) (offset : ℕ) (text : List ℕ) → ill_formed_lines big offset (map good text) ≡ []
ill_formed_lines-good big offset [] = refl
ill_formed_lines-good big offset (c ∷ text) = ill_formed_lines-good big (offset + length (item_bytes big (good c))) text

pub chars-good : (text : List ℕ) → count_by is_char (map good text) ≡ length text
chars-good [] = refl
chars-good (c ∷ text) = omega (arith, chars-good text, count-cons is_char (good c) (map good text))

pub ill_formed-good : (text : List ℕ) → count_by is_ill_formed (map good text) ≡ 0
ill_formed-good [] = refl
ill_formed-good (c ∷ text) = omega (arith, ill_formed-good text, count-cons is_ill_formed (good c) (map good text))

pub items_bytes-good : (big : Bool) (text : List ℕ) → items_bytes big (map good text) ≡ encode big text
items_bytes-good big [] = sym (encode-nil big)
items_bytes-good big (c ∷ text) = ap (λ b. item_bytes big (good c) ++ b) (items_bytes-good big text) ∙ sym (encode-cons big c text)

-- the bytes are well formed
pub length-good : (big : Bool) (bytes : List ℕ) → IsUtf16 big bytes → length (items_bytes big (map good (text_of big bytes))) ≡ length bytes
length-good big bytes text = ap length (items_bytes-good big (text_of big bytes) ∙ encode-text_of big bytes text)

pub few_chars : (big : Bool) (bytes : List ℕ) → IsUtf16 big bytes → 2 * length (text_of big bytes) ≤ length bytes
few_chars big bytes text = omega (arith, counted_bytes big bytes text)

-- ---- an unpaired surrogate

pub lone-leading : (unit : ℕ) → IsLeading unit → lone unit ≡ lone_lead unit
lone-leading unit l =
    let below : unit < 0xDC00 = omega arith in
    rw (le-leb 0xD800 unit l.0, lt-ltb unit 0xDC00 below) refl

pub lone-trailing : (unit : ℕ) → ¬ (IsLeading unit) → lone unit ≡ lone_trail unit
lone-trailing unit not_leading = ⊎_elim
    (λ (low : unit < 0xD800). rw (lt-leb 0xD800 unit low) refl)
    (λ (from : 0xD800 ≤ unit). ⊎_elim
    (λ (lead : unit < 0xDC00). absurd (not_leading (from, omega arith)))
    (λ (past : 0xDC00 ≤ unit). rw (le-leb 0xD800 unit from, le-ltb unit 0xDC00 past) refl)
    (cases_lt unit 0xDC00))
    (cases_lt unit 0xD800)

-- what holds of both kinds holds of the item
lone-either : (P : Item → Type 0) (unit : ℕ) → P (lone_lead unit) → P (lone_trail unit) → P (lone unit)
lone-either P unit lead trail = ⊎_elim
    (λ (e : is_high_surrogate unit ≡ true). rw e lead)
    (λ (e : is_high_surrogate unit ≡ false). rw e trail)
    (cases_Bool (is_high_surrogate unit))

pub lone-bytes : (big : Bool) (unit : ℕ) → length (item_bytes big (lone unit)) ≡ 2
lone-bytes true unit = lone-either (λ i. length (item_bytes true i) ≡ 2) unit refl refl
lone-bytes false unit = lone-either (λ i. length (item_bytes false i) ≡ 2) unit refl refl

pub lone-chars : (unit : ℕ) → count_by is_char (lone unit ∷ []) ≡ 0
lone-chars unit = lone-either (λ i. count_by is_char (i ∷ []) ≡ 0) unit refl refl

pub lone-ill_formed : (unit : ℕ) → count_by is_ill_formed (lone unit ∷ []) ≡ 1
lone-ill_formed unit = lone-either (λ i. count_by is_ill_formed (i ∷ []) ≡ 1) unit refl refl
