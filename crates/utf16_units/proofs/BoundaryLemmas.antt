-- Boundaries, the substrings between them, and how the class of a unit shows a boundary.
use Rattle.std.proofs.Common.{◌≡◌, ℕ, zero, suc, ◌+◌, ◌-◌, ◌/◌, ◌%◌, ◌<◌, ◌≤◌, Bool, List, [], ◌∷◌, ◌++◌, length, take, drop, All, refl, sym, ap, ap₂, ◌∙◌, subst, ⊎_elim, arith, append_assoc, append-nil, drop_at, take_at, flat_map, le-leb, cond}
use Rattle.std.proofs.lemmas.Bool.{cases_eq, cases_lt, lt-leb}
use Rattle.std.proofs.lemmas.List.Elements.{All-head, All-tail}
use Rattle.std.proofs.str.Utf16.{two_units}
use Rattle.std.specs.Char.{IsScalar}
use Rattle.utf16_units.specs.Unit.{IsTrailing, unit_bytes}
use Rattle.utf16_units.specs.Encoding.{char_bytes, char_size, encode, Encodes, size}
use Rattle.utf16_units.specs.Boundary.{IsBoundary, text_between, text_from, text_to}
use Rattle.utf16_units.proofs.UnitLemmas.{length-unit_bytes}
use Rattle.utf16_units.proofs.CharLemmas.{char_size_cases, char_size_two, length-char_bytes}
use Rattle.utf16_units.proofs.EncodingLemmas.{All-after, All-before, encode-append, encode-cons, length-encode, size-append, size-cons, size-nil}
use Rattle.utf16_units.proofs.FirstChar.{first_unit}
use Rattle.utf16_units.proofs.FrontChar.{first_unit-bytes}

text_to-whole : (c : ℕ) (text : List ℕ) (i : ℕ) → char_size c ≤ i → text_to (c ∷ text) i ≡ c ∷ text_to text (i - char_size c)
unfolding text_to
text_to-whole c text i fits = ap (λ t. cond t (c ∷ text_to text (i - char_size c)) []) (le-leb (char_size c) i fits)

text_to-none : (c : ℕ) (text : List ℕ) (i : ℕ) → i < char_size c → text_to (c ∷ text) i ≡ []
unfolding text_to
text_to-none c text i short = ap (λ t. cond t (c ∷ text_to text (i - char_size c)) []) (lt-leb (char_size c) i short)

text_from-whole : (c : ℕ) (text : List ℕ) (i : ℕ) → char_size c ≤ i → text_from (c ∷ text) i ≡ text_from text (i - char_size c)
unfolding text_from
text_from-whole c text i fits = ap (λ t. cond t (text_from text (i - char_size c)) (c ∷ text)) (le-leb (char_size c) i fits)

text_from-none : (c : ℕ) (text : List ℕ) (i : ℕ) → i < char_size c → text_from (c ∷ text) i ≡ c ∷ text
unfolding text_from
text_from-none c text i short = ap (λ t. cond t (text_from text (i - char_size c)) (c ∷ text)) (lt-leb (char_size c) i short)

pub char_size-pos : (c : ℕ) → 0 < char_size c
char_size-pos c = ⊎_elim (λ (two : char_size c ≡ 2). omega arith) (λ (four : char_size c ≡ 4). omega arith) (char_size_cases c)

text_to-zero : (text : List ℕ) → text_to text 0 ≡ []
unfolding text_to
text_to-zero [] = refl
text_to-zero (c ∷ text) = text_to-none c text 0 (char_size-pos c)

text_from-zero : (text : List ℕ) → text_from text 0 ≡ text
unfolding text_from
text_from-zero [] = refl
text_from-zero (c ∷ text) = text_from-none c text 0 (char_size-pos c)

-- at the size of a prefix, the text splits into that prefix and the rest
pub text_to-at : (front back : List ℕ) (i : ℕ) → size front ≡ i → text_to (front ++ back) i ≡ front
text_to-at [] back i e = ap (text_to back) (sym e ∙ size-nil) ∙ text_to-zero back
text_to-at (c ∷ front) back i e =
    let whole = size-cons c front in
    text_to-whole c (front ++ back) i (omega arith)
    ∙ ap (λ t. c ∷ t) (text_to-at front back (i - char_size c) (omega arith))

pub text_from-at : (front back : List ℕ) (i : ℕ) → size front ≡ i → text_from (front ++ back) i ≡ back
text_from-at [] back i e = ap (text_from back) (sym e ∙ size-nil) ∙ text_from-zero back
text_from-at (c ∷ front) back i e =
    let whole = size-cons c front in
    text_from-whole c (front ++ back) i (omega arith) ∙ text_from-at front back (i - char_size c) (omega arith)

-- the two substrings concatenated are the text
pub text_to-text_from : (text : List ℕ) (i : ℕ) → text_to text i ++ text_from text i ≡ text
unfolding text_to text_from
text_to-text_from [] i = refl
text_to-text_from (c ∷ text) i = ⊎_elim
    (λ (short : i < char_size c). ap₂ (λ x y. x ++ y) (text_to-none c text i short) (text_from-none c text i short))
    (λ (fits : char_size c ≤ i).
    ap₂ (λ x y. x ++ y) (text_to-whole c text i fits) (text_from-whole c text i fits)
    ∙ ap (λ t. c ∷ t) (text_to-text_from text (i - char_size c)))
    (cases_lt i (char_size c))

-- the size of the substring before a boundary is the boundary's offset
pub size-text_to : (text : List ℕ) (i : ℕ) → IsBoundary text i → size (text_to text i) ≡ i
size-text_to text i b = ap size (ap (λ t. text_to t i) (sym b.split) ∙ text_to-at b.front b.back i b.offset) ∙ b.offset

pub IsBoundary-start : (text : List ℕ) → IsBoundary text 0
IsBoundary-start text = record { front = []; back = text; split = refl; offset = size-nil }

IsBoundary-cons : (c : ℕ) (text : List ℕ) (i : ℕ) → char_size c ≤ i → IsBoundary text (i - char_size c) → IsBoundary (c ∷ text) i
IsBoundary-cons c text i fits b =
    let whole = size-cons c b.front in
    record { front = c ∷ b.front; back = b.back; split = ap (λ t. c ∷ t) b.split; offset = omega arith }

drop-past : (xs ys : List ℕ) (n : ℕ) → length xs ≤ n → drop n (xs ++ ys) ≡ drop (n - length xs) ys
drop-past [] ys n le =
    let same : n ≡ n - 0 = omega arith in
    ap (λ k. drop k ys) same
drop-past (x ∷ xs) ys zero le = absurd (omega arith)
drop-past (x ∷ xs) ys (suc n) le =
    let same : n - length xs ≡ suc n - suc (length xs) = omega arith in
    drop-past xs ys n (omega arith) ∙ ap (λ k. drop k ys) same

-- the second unit of a surrogate pair is a trailing surrogate
pair_trailing : (big : Bool) (c : ℕ) (bytes : List ℕ) → IsScalar c → 0x1_0000 ≤ c → IsTrailing (first_unit big (drop 2 (char_bytes big c ++ bytes)))
pair_trailing big c bytes scalar two =
    let lead = 0xD800 + (c - 0x1_0000) / 0x400 in
    let trail = 0xDC00 + (c - 0x1_0000) % 0x400 in
    let spelled : char_bytes big c ++ bytes ≡ unit_bytes big lead ++ (unit_bytes big trail ++ bytes) =
    ap (λ us. flat_map (unit_bytes big) us ++ bytes) (two_units c two)
    ∙ append_assoc (unit_bytes big lead) (unit_bytes big trail ++ []) bytes
    ∙ ap (λ t. unit_bytes big lead ++ (t ++ bytes)) (append-nil (unit_bytes big trail)) in
    let unit : first_unit big (drop 2 (char_bytes big c ++ bytes)) ≡ trail =
    ap (λ t. first_unit big (drop 2 t)) spelled
    ∙ ap (first_unit big) (drop_at (unit_bytes big lead) (unit_bytes big trail ++ bytes) 2 (length-unit_bytes big lead))
    ∙ first_unit-bytes big trail bytes in
    let class : IsTrailing trail = (omega arith, omega arith) in
    subst IsTrailing (sym unit) class

-- an even offset at which there is no trailing surrogate is a boundary
pub IsBoundary-at_unit : (big : Bool) (text : List ℕ) (i : ℕ) → All IsScalar text → i % 2 ≡ 0 → i < size text
    → ¬ (IsTrailing (first_unit big (drop i (encode big text)))) → IsBoundary text i
IsBoundary-at_unit big [] i scalars even within class =
    let none = size-nil in
    absurd (omega arith)
IsBoundary-at_unit big (c ∷ text) i scalars even within class =
    let scalar = All-head IsScalar c text scalars in
    let whole = size-cons c text in
    let long = length-char_bytes big c in
    let cons = encode-cons big c text in
    ⊎_elim
    (λ (short : i < char_size c). ⊎_elim
    (λ (start : i ≡ 0). subst (IsBoundary (c ∷ text)) (sym start) (IsBoundary-start (c ∷ text)))
    (λ (inside : i ≡ 0 → ⊥). ⊎_elim
    (λ (one : c < 0x1_0000).
    let two = char_size_two c one in
    absurd (omega arith))
    (λ (pair : 0x1_0000 ≤ c).
    let middle : i ≡ 2 = ⊎_elim (λ (s : char_size c ≡ 2). absurd (omega arith)) (λ (s : char_size c ≡ 4). omega arith) (char_size_cases c) in
    absurd (class (subst (λ k. IsTrailing (first_unit big (drop k (encode big (c ∷ text))))) (sym middle)
    (subst (λ t. IsTrailing (first_unit big (drop 2 t))) (sym cons) (pair_trailing big c (encode big text) scalar pair)))))
    (cases_lt c 0x1_0000))
    (cases_eq i 0))
    (λ (fits : char_size c ≤ i).
    let moved : drop i (encode big (c ∷ text)) ≡ drop (i - char_size c) (encode big text) =
    ap (drop i) cons ∙ drop-past (char_bytes big c) (encode big text) i (omega arith) ∙ ap (λ k. drop (i - k) (encode big text)) long in
    IsBoundary-cons c text i fits (IsBoundary-at_unit big text (i - char_size c) (All-tail IsScalar c text scalars) (omega arith) (omega arith)
    (λ trailing. class (subst (λ t. IsTrailing (first_unit big t)) (sym moved) trailing))))
    (cases_lt i (char_size c))

-- ---- bytes split at a boundary

pub text_to-front : (text : List ℕ) (i : ℕ) → (b : IsBoundary text i) → text_to text i ≡ b.front
text_to-front text i b = ap (λ t. text_to t i) (sym b.split) ∙ text_to-at b.front b.back i b.offset

pub text_from-back : (text : List ℕ) (i : ℕ) → (b : IsBoundary text i) → text_from text i ≡ b.back
text_from-back text i b = ap (λ t. text_from t i) (sym b.split) ∙ text_from-at b.front b.back i b.offset

pub IsBoundary-within : (text : List ℕ) (i : ℕ) → IsBoundary text i → i ≤ size text
IsBoundary-within text i b =
    let whole = ap size (sym b.split) ∙ size-append b.front b.back in
    omega arith

pub IsBoundary-end : (text : List ℕ) → IsBoundary text (size text)
IsBoundary-end text = record { front = text; back = []; split = append-nil text; offset = refl }

-- the bytes before a boundary encode the characters before it, and the bytes after it those after
-- it
module _ (big : Bool) (text bytes : List ℕ) (i : ℕ) (e : Encodes big text bytes) (b : IsBoundary text i) where
  scalars : All IsScalar (text_to text i ++ text_from text i)
  scalars = subst (All IsScalar) (sym (text_to-text_from text i)) e.scalars

  parts : encode big b.front ++ encode big b.back ≡ bytes
  parts = sym (encode-append big b.front b.back) ∙ ap (encode big) b.split ∙ e.spelled

  long : length (encode big b.front) ≡ i
  long = length-encode big b.front ∙ b.offset

  pub Encodes-to : Encodes big (text_to text i) (take i bytes)
  Encodes-to = record {
    scalars = All-before (text_to text i) (text_from text i) scalars;
    spelled = ap (encode big) (text_to-front text i b) ∙ sym (take_at (encode big b.front) (encode big b.back) i long) ∙ ap (take i) parts;
  }

  pub Encodes-from : Encodes big (text_from text i) (drop i bytes)
  Encodes-from = record {
    scalars = All-after (text_to text i) (text_from text i) scalars;
    spelled = ap (encode big) (text_from-back text i b) ∙ sym (drop_at (encode big b.front) (encode big b.back) i long) ∙ ap (drop i) parts;
  }

-- of two prefixes the longer one ends at a boundary of what follows the shorter
longer_prefix : (front back other rest : List ℕ) → front ++ back ≡ other ++ rest → size front ≤ size other → IsBoundary back (size other - size front)
longer_prefix [] back other rest e le =
    let none = size-nil in
    record { front = other; back = rest; split = sym e; offset = omega arith }
longer_prefix (x ∷ front) back [] rest e le =
    let some = char_size-pos x in
    let whole = size-cons x front in
    let none = size-nil in
    absurd (omega arith)
longer_prefix (x ∷ front) back (y ∷ other) rest e le =
    let head : x ≡ y = cc in
    let tail : front ++ back ≡ other ++ rest = cc in
    let first = ap char_size head in
    let whole = size-cons x front in
    let longer = size-cons y other in
    let same : size other - size front ≡ size (y ∷ other) - size (x ∷ front) = omega arith in
    subst (IsBoundary back) same (longer_prefix front back other rest tail (omega arith))

-- a boundary is also one of the rest after an earlier boundary
pub IsBoundary-rest : (text : List ℕ) (i j : ℕ) → i ≤ j → IsBoundary text i → IsBoundary text j → IsBoundary (text_from text i) (j - i)
IsBoundary-rest text i j le a b =
    let cut : size b.front - size a.front ≡ j - i = omega arith in
    subst (λ t. IsBoundary t (j - i)) (sym (text_from-back text i a))
    (subst (IsBoundary a.back) cut (longer_prefix a.front a.back b.front b.back (a.split ∙ sym b.split) (omega arith)))

-- the substring from a boundary to the end is the rest from that boundary on
pub text_between-end : (text : List ℕ) (i : ℕ) → IsBoundary text i → text_between text i (size text) ≡ text_from text i
text_between-end text i b =
    let from = text_from-back text i b in
    let whole = ap size (sym b.split) ∙ size-append b.front b.back in
    ap (λ t. text_to t (size text - i)) (from ∙ sym (append-nil b.back))
    ∙ text_to-at b.back [] (size text - i) (omega arith)
    ∙ sym from

-- the bytes between two boundaries encode the characters between them
pub Encodes-between : (big : Bool) (text bytes : List ℕ) (i j : ℕ) → Encodes big text bytes → i ≤ j → IsBoundary text i → IsBoundary text j
    → Encodes big (text_between text i j) (take (j - i) (drop i bytes))
Encodes-between big text bytes i j e le a b =
    Encodes-to big (text_from text i) (drop i bytes) (j - i) (Encodes-from big text bytes i e a) (IsBoundary-rest text i j le a b)

-- a text has no more characters than bytes
pub length-le-size : (text : List ℕ) → length text ≤ size text
length-le-size [] = omega (arith, size-nil)
length-le-size (c ∷ text) = omega (arith, size-cons c text, char_size-pos c, length-le-size text)
