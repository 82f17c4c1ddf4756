-- A search that reads the bytes character by character, from the front on.
use Rattle.std.proofs.Common.{◌≡◌, ◌≢◌, ℕ, ◌+◌, ◌<◌, Bool, List, [], ◌∷◌, ◌++◌, Some, None, length, refl, sym, ap, ◌∙◌, subst, append_assoc, append-nil, arith}
use Rattle.std.proofs.lemmas.List.Elements.{All-cons, All-head, All-nil, All-push, All-tail}
use Rattle.std.specs.Char.{IsScalar}
use Rattle.utf16_units.specs.Boundary.{OccursIn, text_from, text_to}
use Rattle.utf16_units.specs.Delimited.{Lacks}
use Rattle.utf16_units.specs.Encoding.{Encodes, IsUtf16, char_size, encode, size, text_of}
use Rattle.utf16_units.proofs.BoundaryLemmas.{char_size-pos, size-text_to}
use Rattle.utf16_units.proofs.EncodingLemmas.{Encodes-text_of, size-append, size-cons, size-nil}
use Rattle.utf16_bytes.specs.Occurrence.{IsFirst, IsOccurrence}
use Rattle.utf16_bytes.proofs.OccurrenceLemmas.{occurrence_in_text, text_around}
use Rattle.utf16_bytes.proofs.PatternLemmas.{between_parts}

-- the characters before the rest are not the wanted one
pub record IsPassed (big : Bool) (wanted : ℕ) (bytes rest : List ℕ) : Type 0 where
  pub front : List ℕ
  pub well_formed : IsUtf16 big rest
  pub split : text_of big bytes ≡ front ++ text_of big rest
  pub long : length bytes ≡ size front + length rest
  pub lacks : Lacks wanted front

pub passed-start : (big : Bool) (wanted : ℕ) (bytes : List ℕ) → IsUtf16 big bytes → IsPassed big wanted bytes bytes
passed-start big wanted bytes text =
    record { front = []; well_formed = text; split = refl; long = omega (arith, size-nil); lacks = All-nil (λ c. c ≢ wanted) }

pub passed-step : (big : Bool) (wanted : ℕ) (bytes rest : List ℕ) (c : ℕ) (more : List ℕ) → IsPassed big wanted bytes rest → text_of big rest ≡ c ∷ text_of big more → length rest ≡ char_size c + length more
    → IsUtf16 big more → c ≢ wanted → IsPassed big wanted bytes more
passed-step big wanted bytes rest c more passed first long text other = record {
  front = passed.front ++ c ∷ [];
  well_formed = text;
  split = passed.split ∙ ap (λ t. passed.front ++ t) first ∙ sym (append_assoc passed.front (c ∷ []) (text_of big more));
  long = omega (arith, passed.long, long, size-append passed.front (c ∷ []), size-cons c [], size-nil);
  lacks = All-push (λ d. d ≢ wanted) passed.front c passed.lacks other;
}

-- a character does not occur in a front that lacks it
not_inside : (c : ℕ) (front more before after : List ℕ) → front ++ more ≡ before ++ c ∷ after → Lacks c front → size before < size front → ⊥
not_inside c [] more before after e lacks less = absurd (omega (arith, less, size-nil))
not_inside c (d ∷ front) more [] after e lacks less =
    let same : d ≡ c = cc in
    All-head (λ x. x ≢ c) d front lacks same
not_inside c (d ∷ front) more (x ∷ before) after e lacks less =
    let same : d ≡ x = cc in
    let tails : front ++ more ≡ before ++ c ∷ after = cc in
    not_inside c front more before after tails (All-tail (λ y. y ≢ c) d front lacks) (omega (arith, less, size-cons d front, size-cons x before, ap char_size same))

-- the text around an occurrence
module _ (text : List ℕ) (i c : ℕ) (o : OccursIn text i (c ∷ [])) where
  around : text ≡ text_to text i ++ c ∷ text_from text (i + size (c ∷ []))
  around = text_around text (c ∷ []) i o ∙ append_assoc (text_to text i) (c ∷ []) (text_from text (i + size (c ∷ [])))

  offset : size (text_to text i) ≡ i
  offset = size-text_to text i o.start

module _ (big : Bool) (wanted : ℕ) (bytes rest : List ℕ) (text : IsUtf16 big bytes) (one : Encodes big (wanted ∷ []) (encode big (wanted ∷ []))) (passed : IsPassed big wanted bytes rest) where
  in_text : (i : ℕ) → IsOccurrence big bytes (encode big (wanted ∷ [])) i → OccursIn (text_of big bytes) i (wanted ∷ [])
  in_text i = (occurrence_in_text big (text_of big bytes) (wanted ∷ []) bytes (encode big (wanted ∷ [])) i (Encodes-text_of big bytes text) one).0

  in_bytes : (i : ℕ) → OccursIn (text_of big bytes) i (wanted ∷ []) → IsOccurrence big bytes (encode big (wanted ∷ [])) i
  in_bytes i = (occurrence_in_text big (text_of big bytes) (wanted ∷ []) bytes (encode big (wanted ∷ [])) i (Encodes-text_of big bytes text) one).1

  pub passed-found : (more : List ℕ) → text_of big rest ≡ wanted ∷ more → IsFirst (IsOccurrence big bytes (encode big (wanted ∷ []))) (Some (size passed.front))
  passed-found more first =
      let whole : text_of big bytes ≡ passed.front ++ wanted ∷ more = passed.split ∙ ap (λ t. passed.front ++ t) first in (
        in_bytes (size passed.front) (between_parts (text_of big bytes) passed.front (wanted ∷ []) more (whole ∙ sym (append_assoc passed.front (wanted ∷ []) more))),
        λ i less o.
            let occurs = in_text i o in
            not_inside wanted passed.front (wanted ∷ more) (text_to (text_of big bytes) i) (text_from (text_of big bytes) (i + size (wanted ∷ [])))
            (sym whole ∙ around (text_of big bytes) i wanted occurs) passed.lacks (subst (λ n. n < size passed.front) (sym (offset (text_of big bytes) i wanted occurs)) less),
      )

  pub passed-all : text_of big rest ≡ [] → IsFirst (IsOccurrence big bytes (encode big (wanted ∷ []))) None
  passed-all none i o =
      let occurs = in_text i o in
      let before = text_to (text_of big bytes) i in
      let after = text_from (text_of big bytes) (i + size (wanted ∷ [])) in
      let whole : passed.front ++ [] ≡ before ++ wanted ∷ after = ap (λ t. passed.front ++ t) (sym none) ∙ sym passed.split ∙ around (text_of big bytes) i wanted occurs in
      let longer : size passed.front ≡ size before + size (wanted ∷ after) = ap size (sym (append-nil passed.front) ∙ whole) ∙ size-append before (wanted ∷ after) in
      not_inside wanted passed.front [] before after whole passed.lacks (omega (arith, longer, size-cons wanted after, char_size-pos wanted))

-- a character encodes as a text
pub one_char : (big : Bool) (c : ℕ) → IsScalar c → Encodes big (c ∷ []) (encode big (c ∷ []))
one_char big c scalar = record { scalars = All-cons IsScalar c [] scalar (All-nil IsScalar); spelled = refl }
