-- Encoding and decoding undo each other.
use Rattle.std.proofs.Common.{◌≡◌, ℕ, ◌+◌, ◌*◌, Bool, true, ◌&&◌, List, [], ◌∷◌, ◌++◌, length, map, All, refl, sym, ap, ap₂, ◌∙◌, subst, arith, append_assoc, append-nil, length-append, flat_map, bytes_eq}
use Rattle.std.proofs.lemmas.Grind.{flat_map-append}
use Rattle.std.proofs.lemmas.List.{append_cancel_left}
use Rattle.std.proofs.lemmas.List.Elements.{All-nil, All-cons, All-head, All-tail, All-append}
use Rattle.std.proofs.Math.Utf8.{scalar}
use Rattle.std.proofs.lemmas.Slice.Eq.{bytes_eq-Decides}
use Rattle.std.specs.Char.{IsScalar}
use Rattle.std.proofs.lemmas.Bool.{and_parts}
use Rattle.std.specs.Char.Escape.{encode_utf16}
use Rattle.std.specs.Char.Utf16.{utf16_chars}
use Rattle.std.specs.Option.{unwrap_or}
use Rattle.std.specs.Str.{all_scalars}
use Rattle.utf16_units.specs.Encoding.{char_bytes, char_size, encode, size, Encodes, IsUtf16, units_of, text_of, is_utf16}
use Rattle.utf16_units.proofs.UnitLemmas.{units_of-units}
use Rattle.utf16_units.proofs.CharLemmas.{utf16_chars-char, length-char_bytes}

-- what holds of all elements of a list holds of all elements of its parts
pub All-back : (P : ℕ → Type 0) (xs ys : List ℕ) → All P (xs ++ ys) → All P ys
All-back P [] ys all = all
All-back P (x ∷ xs) ys all = All-back P xs ys (All-tail P x (xs ++ ys) all)

pub All-front : (P : ℕ → Type 0) (xs ys : List ℕ) → All P (xs ++ ys) → All P xs
All-front P [] ys all = All-nil P
All-front P (x ∷ xs) ys all = All-cons P x xs (All-head P x (xs ++ ys) all) (All-front P xs ys (All-tail P x (xs ++ ys) all))

pub All-after : (xs ys : List ℕ) → All IsScalar (xs ++ ys) → All IsScalar ys
All-after = All-back IsScalar

pub All-before : (xs ys : List ℕ) → All IsScalar (xs ++ ys) → All IsScalar xs
All-before = All-front IsScalar

pub encode-nil : (big : Bool) → encode big [] ≡ []
unfolding encode
encode-nil big = refl

pub encode-cons : (big : Bool) (c : ℕ) (text : List ℕ) → encode big (c ∷ text) ≡ char_bytes big c ++ encode big text
unfolding encode
encode-cons big c text = refl

-- the encoding of two texts concatenated is the concatenation of their encodings
pub encode-append : (big : Bool) (xs ys : List ℕ) → encode big (xs ++ ys) ≡ encode big xs ++ encode big ys
unfolding encode
encode-append big xs ys = flat_map-append (char_bytes big) xs ys

pub encode-one : (big : Bool) (c : ℕ) → encode big (c ∷ []) ≡ char_bytes big c
encode-one big c = encode-cons big c [] ∙ ap (λ t. char_bytes big c ++ t) (encode-nil big) ∙ append-nil (char_bytes big c)

pub size-nil : size [] ≡ 0
unfolding size
size-nil = refl

pub size-append : (xs ys : List ℕ) → size (xs ++ ys) ≡ size xs + size ys
unfolding size
size-append xs ys =
    ap (λ us. 2 * length us) (flat_map-append encode_utf16 xs ys)
    ∙ omega (arith, length-append (flat_map encode_utf16 xs) (flat_map encode_utf16 ys))

pub size-cons : (c : ℕ) (text : List ℕ) → size (c ∷ text) ≡ char_size c + size text
unfolding size
size-cons c text = omega (arith, length-append (encode_utf16 c) (flat_map encode_utf16 text))

-- an encoding is as long as the text's size
pub length-encode : (big : Bool) (text : List ℕ) → length (encode big text) ≡ size text
length-encode big [] = ap length (encode-nil big) ∙ sym size-nil
length-encode big (c ∷ text) =
    ap length (encode-cons big c text) ∙ length-append (char_bytes big c) (encode big text)
    ∙ ap₂ (λ m n. m + n) (length-char_bytes big c) (length-encode big text) ∙ sym (size-cons c text)

-- the bytes of a character followed by others decode to that character and then theirs
pub text_of-char : (big : Bool) (c : ℕ) (bytes : List ℕ) → IsScalar c → text_of big (char_bytes big c ++ bytes) ≡ c ∷ text_of big bytes
unfolding text_of
text_of-char big c bytes scalar =
    ap (map (λ o. unwrap_or o 0xFFFD)) (ap utf16_chars (units_of-units big (encode_utf16 c) bytes) ∙ utf16_chars-char c (units_of big bytes) scalar)

-- the bytes of a text followed by others decode to that text and then theirs
pub text_of-encode_then : (big : Bool) (text bytes : List ℕ) → All IsScalar text → text_of big (encode big text ++ bytes) ≡ text ++ text_of big bytes
text_of-encode_then big [] bytes scalars = ap (λ t. text_of big (t ++ bytes)) (encode-nil big)
text_of-encode_then big (c ∷ text) bytes scalars =
    ap (λ t. text_of big (t ++ bytes)) (encode-cons big c text)
    ∙ ap (text_of big) (append_assoc (char_bytes big c) (encode big text) bytes)
    ∙ text_of-char big c (encode big text ++ bytes) (All-head IsScalar c text scalars)
    ∙ ap (λ t. c ∷ t) (text_of-encode_then big text bytes (All-tail IsScalar c text scalars))

pub text_of-nil : (big : Bool) → text_of big [] ≡ []
unfolding text_of units_of utf16_chars
text_of-nil big = refl

-- decoding undoes encoding
pub text_of-encode : (big : Bool) (text : List ℕ) → All IsScalar text → text_of big (encode big text) ≡ text
text_of-encode big text scalars =
    ap (text_of big) (sym (append-nil (encode big text)))
    ∙ text_of-encode_then big text [] scalars ∙ ap (λ t. text ++ t) (text_of-nil big) ∙ append-nil text

-- `all_scalars` computes `All IsScalar`
pub all_scalars-from_All : (text : List ℕ) → All IsScalar text → all_scalars text ≡ true
all_scalars-from_All [] scalars = refl
all_scalars-from_All (c ∷ text) scalars =
    ap₂ (λ x y. x && y) (All-head IsScalar c text scalars) (all_scalars-from_All text (All-tail IsScalar c text scalars))

pub All-from_all_scalars : (text : List ℕ) → all_scalars text ≡ true → All IsScalar text
All-from_all_scalars [] scalars = All-nil IsScalar
All-from_all_scalars (c ∷ text) scalars =
    let parts = and_parts (scalar c) (all_scalars text) scalars in
    All-cons IsScalar c text parts.0 (All-from_all_scalars text parts.1)

-- a text that bytes encode is the text that they decode to
pub text_of-Encodes : (big : Bool) (text bytes : List ℕ) → Encodes big text bytes → text_of big bytes ≡ text
text_of-Encodes big text bytes e = ap (text_of big) (sym e.spelled) ∙ text_of-encode big text e.scalars

-- bytes are the encoding of at most one text
pub Encodes-unique : (big : Bool) (text other bytes : List ℕ) → Encodes big text bytes → Encodes big other bytes → text ≡ other
Encodes-unique big text other bytes e o = sym (text_of-Encodes big text bytes e) ∙ text_of-Encodes big other bytes o

-- well-formed bytes encode the text that they decode to
pub Encodes-text_of : (big : Bool) (bytes : List ℕ) → IsUtf16 big bytes → Encodes big (text_of big bytes) bytes
Encodes-text_of big bytes t = subst (λ text. Encodes big text bytes) (sym (text_of-Encodes big t.text bytes t.encodes)) t.encodes

-- encoding undoes decoding, if the bytes are well formed
pub encode-text_of : (big : Bool) (bytes : List ℕ) → IsUtf16 big bytes → encode big (text_of big bytes) ≡ bytes
encode-text_of big bytes t = (Encodes-text_of big bytes t).spelled

pub scalars-text_of : (big : Bool) (bytes : List ℕ) → IsUtf16 big bytes → All IsScalar (text_of big bytes)
scalars-text_of big bytes t = (Encodes-text_of big bytes t).scalars

-- `is_utf16` computes `IsUtf16`
pub IsUtf16-from_is_utf16 : (big : Bool) (bytes : List ℕ) → is_utf16 big bytes ≡ true → IsUtf16 big bytes
unfolding is_utf16
IsUtf16-from_is_utf16 big bytes passes =
    let text = text_of big bytes in
    let parts = and_parts (all_scalars text) (bytes_eq (encode big text) bytes) passes in
    record {
      text = text;
      encodes = record {
        scalars = All-from_all_scalars text parts.0;
        spelled = (bytes_eq-Decides (encode big text) bytes).0 parts.1;
      };
    }

pub is_utf16-from_IsUtf16 : (big : Bool) (bytes : List ℕ) → IsUtf16 big bytes → is_utf16 big bytes ≡ true
unfolding is_utf16
is_utf16-from_IsUtf16 big bytes t =
    let e = Encodes-text_of big bytes t in
    let text = text_of big bytes in
    ap₂ (λ x y. x && y) (all_scalars-from_All text e.scalars) ((bytes_eq-Decides (encode big text) bytes).1 e.spelled)

pub IsUtf16-encode : (big : Bool) (text : List ℕ) → All IsScalar text → IsUtf16 big (encode big text)
IsUtf16-encode big text scalars = record { text = text; encodes = record { scalars = scalars; spelled = refl } }

pub IsUtf16-nil : (big : Bool) → IsUtf16 big []
IsUtf16-nil big = record { text = []; encodes = record { scalars = All-nil IsScalar; spelled = encode-nil big } }

pub IsUtf16-char : (big : Bool) (c : ℕ) → IsScalar c → IsUtf16 big (char_bytes big c)
IsUtf16-char big c scalar = record {
  text = c ∷ [];
  encodes = record { scalars = All-cons IsScalar c [] scalar (All-nil IsScalar); spelled = encode-one big c };
}

-- well-formed bytes concatenated are well formed, and decode to the texts concatenated
pub Encodes-append : (big : Bool) (xs ys front back : List ℕ) → Encodes big xs front → Encodes big ys back → Encodes big (xs ++ ys) (front ++ back)
Encodes-append big xs ys front back f b = record {
  scalars = All-append IsScalar xs ys f.scalars b.scalars;
  spelled = encode-append big xs ys ∙ ap₂ (λ x y. x ++ y) f.spelled b.spelled;
}

pub IsUtf16-append : (big : Bool) (front back : List ℕ) → IsUtf16 big front → IsUtf16 big back → IsUtf16 big (front ++ back)
IsUtf16-append big front back f b = record { text = f.text ++ b.text; encodes = Encodes-append big f.text b.text front back f.encodes b.encodes }

pub text_of-append : (big : Bool) (front back : List ℕ) → IsUtf16 big front → text_of big (front ++ back) ≡ text_of big front ++ text_of big back
text_of-append big front back f =
    ap (λ t. text_of big (t ++ back)) (sym (encode-text_of big front f))
    ∙ text_of-encode_then big (text_of big front) back (scalars-text_of big front f)

-- if bytes and a prefix of them are well formed, so is the rest
pub IsUtf16-rest : (big : Bool) (front back : List ℕ) → IsUtf16 big front → IsUtf16 big (front ++ back) → IsUtf16 big back
IsUtf16-rest big front back f whole =
    let split = text_of-append big front back f in
    let xs = text_of big front in
    let ys = text_of big back in
    let scalars = subst (All IsScalar) split (scalars-text_of big (front ++ back) whole) in
    let spelled : front ++ encode big ys ≡ front ++ back =
    ap (λ t. t ++ encode big ys) (sym (encode-text_of big front f)) ∙ sym (encode-append big xs ys)
    ∙ ap (encode big) (sym split) ∙ encode-text_of big (front ++ back) whole in
    record {
      text = ys;
      encodes = record {
        scalars = All-after xs ys scalars;
        spelled = append_cancel_left front (encode big ys) back spelled;
      };
    }

-- well-formed bytes are as long as the size of their text
pub length-text : (big : Bool) (bytes : List ℕ) → IsUtf16 big bytes → length bytes ≡ size (text_of big bytes)
length-text big bytes t = ap length (sym (encode-text_of big bytes t)) ∙ length-encode big (text_of big bytes)

-- well-formed bytes are empty exactly if their text is
pub nil-from_text : (big : Bool) (bytes : List ℕ) → IsUtf16 big bytes → text_of big bytes ≡ [] → bytes ≡ []
nil-from_text big bytes t none = sym (encode-text_of big bytes t) ∙ ap (encode big) none ∙ encode-nil big

pub IsUtf16-from_Encodes : (big : Bool) (text bytes : List ℕ) → Encodes big text bytes → IsUtf16 big bytes
IsUtf16-from_Encodes big text bytes e = record { text = text; encodes = e }

-- the bytes of a character decode to it
pub char_text : (big : Bool) (c : ℕ) → IsScalar c → text_of big (char_bytes big c) ≡ c ∷ []
char_text big c scalar =
    ap (text_of big) (sym (append-nil (char_bytes big c))) ∙ text_of-char big c [] scalar ∙ ap (λ t. c ∷ t) (text_of-nil big)
