-- The computed split is a split.
use Rattle.std.proofs.Common.{◌≡◌, ℕ, suc, ◌+◌, ◌-◌, ◌*◌, ◌<◌, ◌≤◌, Bool, true, false, cond, List, [], ◌∷◌, ◌++◌, length, refl, sym, ap, ◌∙◌, subst, ⊎_elim, inl, inr, arith, append_assoc, append-nil, flat_map, le-leb, lt-ltb, le-ltb, true≢false}
use Rattle.std.proofs.lemmas.Bool.{cases_lt, cases_Bool, lt-leb}
use Rattle.std.proofs.lemmas.List.Elements.{All-nil, All-cons, All-head, All-tail}
use Rattle.std.proofs.str.Utf16.{pair_units}
use Rattle.std.specs.Char.{IsScalar}
use Rattle.std.specs.Char.Utf16.{surrogate_pair_char}
use Rattle.utf16_units.specs.Unit.{IsLeading, IsTrailing, unit_bytes, unit_of}
use Rattle.utf16_units.specs.Encoding.{char_bytes}
use Rattle.utf16_units.specs.IllFormed.{is_incomplete}
use Rattle.utf16_units.proofs.CharLemmas.{one_unit_bytes}
use Rattle.utf16_units.specs.Split.{BeginsUnpaired, IsItem, IsTail, Item, Split, good, item_bytes, items_bytes, lone_lead, lone_trail, put_leading, put_unit, split_items, split_tail}
use Rattle.utf16_units.proofs.UnitLemmas.{unit_bytes-unit_of}
use Rattle.utf16_units.proofs.FirstChar.{AreBytes, first_unit, high_scalar, scalar_unit, unit_below}
use Rattle.utf16_units.proofs.FrontChar.{first_unit-bytes, first_unit-char}
use Rattle.utf16_units.proofs.Computed.{IsIncomplete-from_is_incomplete, is_incomplete-from_IsIncomplete}

-- ---- the class of a unit

-- a unit is leading, trailing or neither
pub data Class (unit : ℕ) : Type 0 where
  leading : IsLeading unit → Class unit
  trailing : IsTrailing unit → Class unit
  neither : ¬ (IsLeading unit) → ¬ (IsTrailing unit) → Class unit

pub class_of : (unit : ℕ) → Class unit
class_of unit = ⊎_elim
    (λ (low : unit < 0xD800). neither (λ l. omega arith) (λ t. omega arith))
    (λ (high : 0xD800 ≤ unit). ⊎_elim
    (λ (lead : unit < 0xDC00). leading (high, omega arith))
    (λ (past : 0xDC00 ≤ unit). ⊎_elim
    (λ (trail : unit < 0xE000). trailing (past, omega arith))
    (λ (above : 0xE000 ≤ unit). neither (λ l. omega arith) (λ t. omega arith))
    (cases_lt unit 0xE000))
    (cases_lt unit 0xDC00))
    (cases_lt unit 0xD800)

pub put_unit-leading : (unit : ℕ) (items : List Item) → IsLeading unit → put_unit unit items ≡ put_leading unit items
unfolding put_unit
put_unit-leading unit items l =
    let below : unit < 0xDC00 = omega arith in
    rw (le-leb 0xD800 unit l.0, lt-ltb unit 0xDC00 below) refl

pub put_unit-trailing : (unit : ℕ) (items : List Item) → IsTrailing unit → put_unit unit items ≡ lone_trail unit ∷ items
unfolding put_unit
put_unit-trailing unit items t =
    let from : 0xD800 ≤ unit = omega arith in
    let below : unit < 0xE000 = omega arith in
    rw (le-leb 0xD800 unit from, le-ltb unit 0xDC00 t.0, le-leb 0xDC00 unit t.0, lt-ltb unit 0xE000 below) refl

put_unit-low : (unit : ℕ) (items : List Item) → unit < 0xD800 → put_unit unit items ≡ good unit ∷ items
unfolding put_unit
put_unit-low unit items low =
    let below : unit < 0xDC00 = omega arith in
    rw (lt-leb 0xD800 unit low, lt-leb 0xDC00 unit below) refl

put_unit-high : (unit : ℕ) (items : List Item) → 0xE000 ≤ unit → put_unit unit items ≡ good unit ∷ items
unfolding put_unit
put_unit-high unit items high =
    let from : 0xD800 ≤ unit = omega arith in
    let past : 0xDC00 ≤ unit = omega arith in
    rw (le-leb 0xD800 unit from, le-ltb unit 0xDC00 past, le-leb 0xDC00 unit past, le-ltb unit 0xE000 high) refl

pub put_unit-neither : (unit : ℕ) (items : List Item) → ¬ (IsLeading unit) → ¬ (IsTrailing unit) → put_unit unit items ≡ good unit ∷ items
put_unit-neither unit items l t = ⊎_elim
    (λ (low : unit < 0xD800). put_unit-low unit items low)
    (λ (from : 0xD800 ≤ unit). ⊎_elim
    (λ (high : 0xE000 ≤ unit). put_unit-high unit items high)
    (λ (below : unit < 0xE000). ⊎_elim
    (λ (lead : unit < 0xDC00). absurd (l (from, omega arith)))
    (λ (past : 0xDC00 ≤ unit). absurd (t (past, omega arith)))
    (cases_lt unit 0xDC00))
    (⊎_elim inr inl (cases_lt unit 0xE000)))
    (cases_lt unit 0xD800)

-- ---- one more item, and one less

-- what has to follow an item: after an unpaired leading unit, a unit that is not trailing
abbrev pub Follows : Bool → Item → List ℕ → Type 0
Follows big (good c) bytes = Unit {0}
Follows big (lone_trail unit) bytes = Unit {0}
Follows big (lone_lead unit) bytes = BeginsUnpaired big bytes

-- an item before a split
pub Split-cons : (big : Bool) (item : Item) (bytes : List ℕ) (items : List Item) (tail : List ℕ)
    → IsItem item → Follows big item bytes → Split big bytes items tail → Split big (item_bytes big item ++ bytes) (item ∷ items) tail
Split-cons big item bytes items tail is follows s = record {
  made = All-cons IsItem item items is s.made;
  spelled = append_assoc (item_bytes big item) (items_bytes big items) tail ∙ ap (λ t. item_bytes big item ++ t) s.spelled;
  ends = s.ends;
  unpaired = at;
} where
  at : (front : List Item) (unit : ℕ) (back : List Item) → front ++ lone_lead unit ∷ back ≡ item ∷ items → BeginsUnpaired big (items_bytes big back ++ tail)
  at [] unit back e =
      let first : lone_lead unit ≡ item = cc in
      let rest : back ≡ items = cc in
      let here : Follows big (lone_lead unit) bytes = subst (λ i. Follows big i bytes) (sym first) follows in
      subst (BeginsUnpaired big) (sym (ap (λ t. items_bytes big t ++ tail) rest ∙ s.spelled)) here
  at (i ∷ front) unit back e = s.unpaired front unit back (cc)

-- the split without its first item
pub Split-tail : (big : Bool) (bytes : List ℕ) (item : Item) (items : List Item) (tail : List ℕ)
    → Split big bytes (item ∷ items) tail → Split big (items_bytes big items ++ tail) items tail
Split-tail big bytes item items tail s = record {
  made = All-tail IsItem item items s.made;
  spelled = refl;
  ends = s.ends;
  unpaired = λ front unit back e. s.unpaired (item ∷ front) unit back (ap (λ t. item ∷ t) e);
}

-- ---- the computing form, unit by unit

module _ (big : Bool) (first second : ℕ) (bytes : List ℕ) where
  pub cut_items : is_incomplete big (first ∷ second ∷ bytes) ≡ true → split_items big (first ∷ second ∷ bytes) ≡ []
  unfolding split_items
  cut_items e = ap (λ t. cond t [] (put_unit (unit_of big first second) (split_items big bytes))) e

  pub cut_tail : is_incomplete big (first ∷ second ∷ bytes) ≡ true → split_tail big (first ∷ second ∷ bytes) ≡ first ∷ second ∷ bytes
  unfolding split_tail
  cut_tail e = ap (λ t. cond t (first ∷ second ∷ bytes) (split_tail big bytes)) e

  pub whole_items : is_incomplete big (first ∷ second ∷ bytes) ≡ false
      → split_items big (first ∷ second ∷ bytes) ≡ put_unit (unit_of big first second) (split_items big bytes)
  unfolding split_items
  whole_items e = ap (λ t. cond t [] (put_unit (unit_of big first second) (split_items big bytes))) e

  pub whole_tail : is_incomplete big (first ∷ second ∷ bytes) ≡ false → split_tail big (first ∷ second ∷ bytes) ≡ split_tail big bytes
  unfolding split_tail
  whole_tail e = ap (λ t. cond t (first ∷ second ∷ bytes) (split_tail big bytes)) e

  pub not_cut : (IsLeading (unit_of big first second) → 2 ≤ length bytes) → is_incomplete big (first ∷ second ∷ bytes) ≡ false
  not_cut long = ⊎_elim
      (λ (yes : is_incomplete big (first ∷ second ∷ bytes) ≡ true).
      let cut = IsIncomplete-from_is_incomplete big (first ∷ second ∷ bytes) yes in
      let two = long cut.0 in
      absurd (omega arith))
      (λ (no : is_incomplete big (first ∷ second ∷ bytes) ≡ false). no)
      (cases_Bool (is_incomplete big (first ∷ second ∷ bytes)))

  pub not_cut_long : is_incomplete big (first ∷ second ∷ bytes) ≡ false → IsLeading (unit_of big first second) → 2 ≤ length bytes
  not_cut_long e l = ⊎_elim
      (λ (short : length bytes < 2). absurd (true≢false (sym (is_incomplete-from_IsIncomplete big (first ∷ second ∷ bytes) (l, omega arith)) ∙ e)))
      (λ (two : 2 ≤ length bytes). two)
      (cases_lt (length bytes) 2)

-- ---- the computed split is a split

BeginsUnpaired-first : (big : Bool) (bytes : List ℕ) → 2 ≤ length bytes → ¬ (IsTrailing (first_unit big bytes)) → BeginsUnpaired big bytes
BeginsUnpaired-first big [] long class = absurd (omega arith)
BeginsUnpaired-first big (last ∷ []) long class = absurd (omega arith)
BeginsUnpaired-first big (first ∷ second ∷ after) long class = class

BeginsUnpaired-tail : (big : Bool) (tail : List ℕ) → IsTail big tail → 2 ≤ length tail → BeginsUnpaired big tail
BeginsUnpaired-tail big [] ends long = absurd (omega arith)
BeginsUnpaired-tail big (last ∷ []) ends long = absurd (omega arith)
BeginsUnpaired-tail big (first ∷ second ∷ after) ends long = λ t.
    omega arith

module _ (lead trail : ℕ) (l : IsLeading lead) (t : IsTrailing trail) where
  pair_scalar : IsScalar (surrogate_pair_char lead trail)
  pair_scalar = high_scalar (surrogate_pair_char lead trail) (omega arith) (omega arith)

  pub pair_bytes : (big : Bool) (rest : List ℕ) → char_bytes big (surrogate_pair_char lead trail) ++ rest ≡ unit_bytes big lead ++ (unit_bytes big trail ++ rest)
  pair_bytes big rest =
      let same : surrogate_pair_char lead trail ≡ 0x1_0000 + ((lead - 0xD800) * 0x400 + (trail - 0xDC00)) = omega arith in
      ap (λ c. char_bytes big c ++ rest) same
      ∙ ap (λ us. flat_map (unit_bytes big) us ++ rest) (pair_units lead trail l.0 t.0 (omega arith))
      ∙ append_assoc (unit_bytes big lead) (unit_bytes big trail ++ []) rest
      ∙ ap (λ us. unit_bytes big lead ++ (us ++ rest)) (append-nil (unit_bytes big trail))

-- a leading unit before a split of two bytes or more
Split-put_leading : (big : Bool) (lead : ℕ) (bytes : List ℕ) (items : List Item) (tail : List ℕ)
    → IsLeading lead → 2 ≤ length bytes → Split big bytes items tail → Split big (unit_bytes big lead ++ bytes) (put_leading lead items) tail
unfolding put_leading
Split-put_leading big lead bytes [] tail l long s =
    let follows : BeginsUnpaired big bytes = subst (BeginsUnpaired big) s.spelled (BeginsUnpaired-tail big tail s.ends (subst (λ b. 2 ≤ length b) (sym s.spelled) long)) in
    Split-cons big (lone_lead lead) bytes [] tail l follows s
Split-put_leading big lead bytes (good c ∷ items) tail l long s =
    let scalar : IsScalar c = All-head IsItem (good c) items s.made in
    let spelled : char_bytes big c ++ (items_bytes big items ++ tail) ≡ bytes = sym (append_assoc (char_bytes big c) (items_bytes big items) tail) ∙ s.spelled in
    let class = subst (λ b. ¬ (IsTrailing (first_unit big b))) spelled (first_unit-char big c (items_bytes big items ++ tail) scalar) in
    Split-cons big (lone_lead lead) bytes (good c ∷ items) tail l (BeginsUnpaired-first big bytes long class) s
Split-put_leading big lead bytes (lone_trail trail ∷ items) tail l long s =
    let t : IsTrailing trail = All-head IsItem (lone_trail trail) items s.made in
    let rest = items_bytes big items ++ tail in
    let spelled : unit_bytes big trail ++ rest ≡ bytes = sym (append_assoc (unit_bytes big trail) (items_bytes big items) tail) ∙ s.spelled in
    subst (λ b. Split big b (good (surrogate_pair_char lead trail) ∷ items) tail)
    (pair_bytes lead trail l t big rest ∙ ap (λ b. unit_bytes big lead ++ b) spelled)
    (Split-cons big (good (surrogate_pair_char lead trail)) rest items tail (pair_scalar lead trail l t) tt
    (Split-tail big bytes (lone_trail trail) items tail s))
Split-put_leading big lead bytes (lone_lead next ∷ items) tail l long s =
    let n : IsLeading next = All-head IsItem (lone_lead next) items s.made in
    let spelled : unit_bytes big next ++ (items_bytes big items ++ tail) ≡ bytes =
    sym (append_assoc (unit_bytes big next) (items_bytes big items) tail) ∙ s.spelled in
    let unit : first_unit big bytes ≡ next = ap (first_unit big) (sym spelled) ∙ first_unit-bytes big next (items_bytes big items ++ tail) in
    Split-cons big (lone_lead lead) bytes (lone_lead next ∷ items) tail l (BeginsUnpaired-first big bytes long (λ t. omega arith)) s

-- a unit before a split
Split-put_unit : (big : Bool) (unit : ℕ) (bytes : List ℕ) (items : List Item) (tail : List ℕ) → unit < 0x1_0000
    → (IsLeading unit → 2 ≤ length bytes) → Split big bytes items tail → Split big (unit_bytes big unit ++ bytes) (put_unit unit items) tail
Split-put_unit big unit bytes items tail below long s = by_class (class_of unit) where
  by_class : Class unit → Split big (unit_bytes big unit ++ bytes) (put_unit unit items) tail
  by_class (leading l) =
      subst (λ i. Split big (unit_bytes big unit ++ bytes) i tail) (sym (put_unit-leading unit items l))
      (Split-put_leading big unit bytes items tail l (long l) s)
  by_class (trailing t) =
      subst (λ i. Split big (unit_bytes big unit ++ bytes) i tail) (sym (put_unit-trailing unit items t))
      (Split-cons big (lone_trail unit) bytes items tail t tt s)
  by_class (neither l t) =
      subst (λ i. Split big (unit_bytes big unit ++ bytes) i tail) (sym (put_unit-neither unit items l t))
      (subst (λ b. Split big (b ++ bytes) (good unit ∷ items) tail) (one_unit_bytes big unit below)
      (Split-cons big (good unit) bytes items tail (scalar_unit unit below l t) tt s))

-- bytes that are a tail and nothing else
pub Split-nil : (big : Bool) (tail : List ℕ) → IsTail big tail → Split big tail [] tail
Split-nil big tail ends = record { made = All-nil IsItem; spelled = refl; ends = ends; unpaired = none } where
  none : (front : List Item) (unit : ℕ) (back : List Item) → front ++ lone_lead unit ∷ back ≡ [] → BeginsUnpaired big (items_bytes big back ++ tail)
  none [] unit back e = absurd (cc)
  none (i ∷ front) unit back e = absurd (cc)

module _ (big : Bool) (first second : ℕ) (bytes : List ℕ) (first_byte : first < 256) (second_byte : second < 256)
    (s : Split big bytes (split_items big bytes) (split_tail big bytes)) where
  abbrev all : List ℕ
  all = first ∷ second ∷ bytes

  two_more : Split big all (split_items big all) (split_tail big all)
  two_more =
      let unit = unit_of big first second in
      ⊎_elim
      (λ (cut : is_incomplete big all ≡ true).
      subst (λ i. Split big all i (split_tail big all)) (sym (cut_items big first second bytes cut))
      (subst (Split big all []) (sym (cut_tail big first second bytes cut)) (Split-nil big all (IsIncomplete-from_is_incomplete big all cut))))
      (λ (whole : is_incomplete big all ≡ false).
      subst (λ i. Split big all i (split_tail big all)) (sym (whole_items big first second bytes whole))
      (subst (Split big all (put_unit unit (split_items big bytes))) (sym (whole_tail big first second bytes whole))
      (subst (λ b. Split big (b ++ bytes) (put_unit unit (split_items big bytes)) (split_tail big bytes)) (unit_bytes-unit_of big first second first_byte second_byte)
      (Split-put_unit big unit bytes (split_items big bytes) (split_tail big bytes) (unit_below big first second first_byte second_byte) (not_cut_long big first second bytes whole) s))))
      (cases_Bool (is_incomplete big all))

-- the computed split is a split
pub Split-computed : (big : Bool) (bytes : List ℕ) → AreBytes bytes → Split big bytes (split_items big bytes) (split_tail big bytes)
unfolding split_items split_tail
Split-computed big [] are = Split-nil big [] tt
Split-computed big (last ∷ []) are = Split-nil big (last ∷ []) tt
Split-computed big (first ∷ second ∷ bytes) are =
    two_more big first second bytes (are 0) (are 1) (Split-computed big bytes (λ k. are (suc (suc k))))
