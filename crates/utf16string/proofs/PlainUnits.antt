-- Blocks of units, each of which is a character: their bytes, and the bytes of the units for which
-- a predicate returns true.
use Rattle.std.proofs.Common.{◌≡◌, ℕ, ◌+◌, ◌*◌, ◌-◌, ◌<◌, ◌≤◌, Bool, true, false, List, [], ◌∷◌, ◌++◌, All, get_or, length, take, drop, refl, sym, ap, ap₂, ◌∙◌, arith, append-nil, append_assoc, length-append, flat_map}
use Rattle.std.proofs.lemmas.List.{drop-drop, length-take-le, take-append-le, take-take, take_more}
use Rattle.std.proofs.lemmas.List.Elements.{All-cons, All-head, All-nil, All-tail}
use Rattle.std.specs.Char.{IsScalar}
use Rattle.std.specs.List.{items_where_true}
use mir.Val.{bool_byte}
use Rattle.utf16_units.specs.Encoding.{encode}
use Rattle.utf16_units.proofs.EncodingLemmas.{encode-append, encode-cons, encode-nil}
use Rattle.utf16_units.specs.Lanes.{HasNoSurrogate, IsNoSurrogate}
use Rattle.utf16_units.specs.Unit.{unit_bytes}
use Rattle.utf16_units.proofs.FirstChar.{scalar_unit}
use Rattle.utf16_units.proofs.PairLemmas.{is_not_of}
use Rattle.utf16string.proofs.Asked.{kept-append}
use Rattle.utf16_units.proofs.CharLemmas.{one_unit_bytes}

abbrev pub IsUnit : ℕ → Type 0
IsUnit u = u < 0x1_0000

-- a unit that is not a surrogate is a character
pub no_surrogate-scalars : (units : List ℕ) → All IsUnit units → HasNoSurrogate units → All IsScalar units
no_surrogate-scalars [] below plain = All-nil IsScalar
no_surrogate-scalars (u ∷ units) below plain =
    let here = All-head IsNoSurrogate u units plain in
    All-cons IsScalar u units (scalar_unit u (All-head IsUnit u units below) (is_not_of 54 u here.0) (is_not_of 55 u here.1))
    (no_surrogate-scalars units (All-tail IsUnit u units below) (All-tail IsNoSurrogate u units plain))

-- at most all units are kept
length-kept : {X : Type 0} → (answers : List Bool) (items : List X) → length (items_where_true answers items) ≤ length items
length-kept [] items = omega arith
length-kept (b ∷ answers) [] = elim b [ true ↦ omega arith | false ↦ omega arith ]
length-kept (true ∷ answers) (d ∷ items) = omega (arith, length-kept answers items)
length-kept (false ∷ answers) (d ∷ items) = omega (arith, length-kept answers items)

-- if the number of kept units is the number of all, all are kept
pub kept-all : {X : Type 0} → (answers : List Bool) (items : List X) → length (items_where_true answers items) ≡ length items → items_where_true answers items ≡ items
kept-all [] [] many = refl
kept-all [] (d ∷ items) many = absurd (omega (arith, many))
kept-all (true ∷ answers) [] many = refl
kept-all (false ∷ answers) [] many = refl
kept-all (true ∷ answers) (d ∷ items) many = ap (λ l. d ∷ l) (kept-all answers items (omega (arith, many)))
kept-all (false ∷ answers) (d ∷ items) many = absurd (omega (arith, many, length-kept answers items))

-- what is kept of the first units and one more, for which the result is known
module _ (answers : List Bool) (units : List ℕ) (i : ℕ) (answer : Bool) (long : i < length answers) (room : i < length units) where
  same : length (take i answers) ≡ length (take i units)
  same = length-take-le i answers (omega arith) ∙ sym (length-take-le i units (omega arith))

  pub kept-more : items_where_true (take i answers ++ answer ∷ []) (take (i + 1) units)
      ≡ items_where_true (take i answers) (take i units) ++ items_where_true (answer ∷ []) (get_or units i 0 ∷ [])
  kept-more = ap (items_where_true (take i answers ++ answer ∷ [])) (take_more units i 0 room) ∙ kept-append (take i answers) (answer ∷ []) (take i units) _ same

  pub length-kept-more : length (items_where_true (take i answers ++ answer ∷ []) (take (i + 1) units))
      ≡ length (items_where_true (take i answers) (take i units)) + bool_byte answer
  length-kept-more = ap length kept-more ∙ length-append (items_where_true (take i answers) (take i units)) _ ∙ ap (λ n. length (items_where_true (take i answers) (take i units)) + n) (one answer)
    where
      one : (b : Bool) → length (items_where_true (b ∷ []) (get_or units i 0 ∷ [])) ≡ bool_byte b
      one true = refl
      one false = refl

pub bool_byte-below : (b : Bool) → bool_byte b ≤ 1
bool_byte-below true = omega arith
bool_byte-below false = omega arith

-- a step of writing the kept units, after what precedes them
pub written-more : (big : Bool) (front : List ℕ) (answers : List Bool) (units : List ℕ) (i : ℕ) (answer : Bool) → i < length answers → i < length units
    → get_or answers i false ≡ answer → (old new : List ℕ) → old ≡ front ++ encode big (items_where_true (take i answers) (take i units))
    → new ≡ old ++ encode big (items_where_true (answer ∷ []) (get_or units i 0 ∷ []))
    → new ≡ front ++ encode big (items_where_true (take (i + 1) answers) (take (i + 1) units))
written-more big front answers units i answer long room is old new so_far more =
    more ∙ ap (λ l. l ++ encode big (items_where_true (answer ∷ []) (get_or units i 0 ∷ []))) so_far ∙ append_assoc front _ _
    ∙ ap (λ l. front ++ l) (sym (encode-append big (items_where_true (take i answers) (take i units)) _))
    ∙ ap (λ l. front ++ encode big l) (sym (kept-more answers units i answer long room))
    ∙ ap (λ l. front ++ encode big (items_where_true l (take (i + 1) units)))
    (ap (λ b. take i answers ++ b ∷ []) (sym is) ∙ sym (take_more answers i false long))

-- if no units are kept, no bytes are written
pub encode-none : (big : Bool) (front : List ℕ) → front ≡ front ++ encode big []
encode-none big front = sym (ap (λ l. front ++ l) (encode-nil big) ∙ append-nil front)

-- what is written from an index on leaves what is before it
pub before : (at n : ℕ) (old new more : List ℕ) → at ≤ length old → take (at + n) new ≡ take at old ++ more → take at new ≡ take at old
before at n old new more within written =
    sym (take-take at (at + n) new (omega arith)) ∙ ap (take at) written
    ∙ take-append-le at (take at old) more (omega (arith, length-take-le at old within)) ∙ take-take at at old (omega arith)

-- a step of writing each unit after the kept ones: it counts as one of them if it is kept
pub written-next : (big : Bool) (front : List ℕ) (answers : List Bool) (units : List ℕ) (i : ℕ) → i < length answers → i < length units
    → (answer : Bool) → get_or answers i false ≡ answer → (end : ℕ) (old new : List ℕ) → end ≤ length old
    → take end old ≡ front ++ encode big (items_where_true (take i answers) (take i units))
    → take (end + 2) new ≡ take end old ++ encode big (get_or units i 0 ∷ [])
    → take (end + 2 * bool_byte answer) new ≡ front ++ encode big (items_where_true (take (i + 1) answers) (take (i + 1) units))
written-next big front answers units i long room true is end old new within so_far more =
    written-more big front answers units i true long room is (take end old) _ so_far more
written-next big front answers units i long room false is end old new within so_far more =
    let none : end + 2 * bool_byte false ≡ end = omega arith in
    written-more big front answers units i false long room is (take end old) _ so_far
    (ap (λ n. take n new) none ∙ before end 2 old new _ within more ∙ encode-none big (take end old))

-- lists that agree from one index on agree from each later one on
pub drop-later : (a b : ℕ) (xs ys : List ℕ) → a ≤ b → drop a xs ≡ drop a ys → drop b xs ≡ drop b ys
drop-later a b xs ys le same_from =
    let all : a + (b - a) ≡ b = omega arith in
    ap (λ i. drop i xs) (sym all) ∙ sym (drop-drop (b - a) a xs) ∙ ap (drop (b - a)) same_from ∙ drop-drop (b - a) a ys ∙ ap (λ i. drop i ys) all

-- the bytes of characters of one unit each are the bytes of the units
pub encode-units : (big : Bool) (units : List ℕ) → All IsUnit units → encode big units ≡ flat_map (unit_bytes big) units
encode-units big [] below = encode-nil big
encode-units big (u ∷ units) below =
    encode-cons big u units ∙ ap₂ (λ x y. x ++ y) (one_unit_bytes big u (All-head IsUnit u units below)) (encode-units big units (All-tail IsUnit u units below))

-- the bytes of one such character
pub encode-unit : (big : Bool) (u : ℕ) → IsUnit u → encode big (u ∷ []) ≡ unit_bytes big u
encode-unit big u below = encode-units big (u ∷ []) (All-cons IsUnit u [] below (All-nil IsUnit)) ∙ append-nil (unit_bytes big u)
