-- The bytes of an edited text are the edited bytes.
use Rattle.std.proofs.Common.{◌≡◌, ℕ, ◌+◌, ◌<◌, ◌≤◌, Bool, true, List, [], ◌∷◌, ◌++◌, length, take, drop, Some, slice_get, sym, ap, ◌∙◌, subst, append_assoc, arith, ⊎_elim}
use Rattle.std.specs.List.{remove_range, splice}
use Rattle.std.specs.Char.{IsScalar}
use Rattle.utf16_units.specs.Boundary.{IsBoundary, text_from, text_to}
use Rattle.utf16_units.specs.Edit.{char_at, insert_at, overwrite_at, push_text, remove_at}
use Rattle.utf16_units.specs.Encoding.{char_bytes, char_size, Encodes, is_utf16, size, text_of}
use Rattle.utf16_units.proofs.BoundaryLemmas.{Encodes-from, Encodes-to, IsBoundary-within, size-text_to, text_from-at, text_to-text_from}
use Rattle.std.proofs.lemmas.Bool.{cases_lt}
use Rattle.std.proofs.lemmas.List.{take_all}
use Rattle.std.proofs.lemmas.List.Elements.{All-cons, All-nil}
use Rattle.utf16_units.proofs.EncodingLemmas.{Encodes-append, Encodes-text_of, IsUtf16-from_Encodes, IsUtf16-from_is_utf16, encode-one, is_utf16-from_IsUtf16, length-text, size-append, size-cons, size-nil}

-- bytes for which `is_utf16` is true encode the text that they decode to
pub Encodes-checked : (big : Bool) (bytes : List ℕ) → is_utf16 big bytes ≡ true → Encodes big (text_of big bytes) bytes
Encodes-checked big bytes checked = Encodes-text_of big bytes (IsUtf16-from_is_utf16 big bytes checked)

-- for bytes that encode a text `is_utf16` is true
pub checked-Encodes : (big : Bool) (text bytes : List ℕ) → Encodes big text bytes → is_utf16 big bytes ≡ true
checked-Encodes big text bytes e = is_utf16-from_IsUtf16 big bytes (IsUtf16-from_Encodes big text bytes e)

pub Encodes-inserted : (big : Bool) (text bytes : List ℕ) (i : ℕ) (other more : List ℕ) → Encodes big text bytes → IsBoundary text i → Encodes big other more
    → Encodes big (insert_at text i other) (splice bytes i i more)
Encodes-inserted big text bytes i other more e b o =
    Encodes-append big (text_to text i) (other ++ text_from text i) (take i bytes) (more ++ drop i bytes)
    (Encodes-to big text bytes i e b)
    (Encodes-append big other (text_from text i) more (drop i bytes) o (Encodes-from big text bytes i e b))

pub Encodes-overwritten : (big : Bool) (text bytes : List ℕ) (i : ℕ) (other more : List ℕ) → Encodes big text bytes → IsBoundary text i
    → IsBoundary text (i + size other) → Encodes big other more → Encodes big (overwrite_at text i other) (splice bytes i (i + size other) more)
Encodes-overwritten big text bytes i other more e b behind o =
    Encodes-append big (text_to text i) (other ++ text_from text (i + size other)) (take i bytes) (more ++ drop (i + size other) bytes)
    (Encodes-to big text bytes i e b)
    (Encodes-append big other (text_from text (i + size other)) more (drop (i + size other) bytes) o (Encodes-from big text bytes (i + size other) e behind))

-- the character at a boundary, which is the first from there on, removed
module _ (text : List ℕ) (i c : ℕ) (rest : List ℕ) (b : IsBoundary text i) (first : text_from text i ≡ c ∷ rest) where
  pub char_at-first : char_at text i ≡ Some c
  char_at-first = ap (λ t. slice_get t 0) first

  split : text_to text i ++ (c ∷ rest) ≡ text
  split = ap (λ t. text_to text i ++ t) (sym first) ∙ text_to-text_from text i

  before : size (text_to text i ++ c ∷ []) ≡ i + char_size c
  before = omega (arith, size-append (text_to text i) (c ∷ []), size-cons c [], size-nil, size-text_to text i b)

  joined : (text_to text i ++ c ∷ []) ++ rest ≡ text
  joined = append_assoc (text_to text i) (c ∷ []) rest ∙ split

  -- its end is a boundary too
  pub behind-first : IsBoundary text (i + char_size c)
  behind-first = record { front = text_to text i ++ c ∷ []; back = rest; split = joined; offset = before }

  pub Encodes-removed : (big : Bool) (bytes : List ℕ) → Encodes big text bytes → Encodes big (remove_at text i) (remove_range bytes i (i + char_size c))
  Encodes-removed big bytes e =
      let left : text_from text (i + char_size c) ≡ drop 1 (text_from text i) =
      ap (λ t. text_from t (i + char_size c)) (sym joined) ∙ text_from-at (text_to text i ++ c ∷ []) rest (i + char_size c) before ∙ ap (drop 1) (sym first) in
      Encodes-append big (text_to text i) (drop 1 (text_from text i)) (take i bytes) (drop (i + char_size c) bytes)
      (Encodes-to big text bytes i e b)
      (subst (λ t. Encodes big t (drop (i + char_size c) bytes)) left (Encodes-from big text bytes (i + char_size c) e behind-first))

pub Encodes-char : (big : Bool) (c : ℕ) → IsScalar c → Encodes big (c ∷ []) (char_bytes big c)
Encodes-char big c scalar = record { scalars = All-cons IsScalar c [] scalar (All-nil IsScalar); spelled = encode-one big c }

pub Encodes-pushed : (big : Bool) (bytes other more : List ℕ) → is_utf16 big bytes ≡ true → Encodes big other more
    → Encodes big (push_text (text_of big bytes) other) (bytes ++ more)
Encodes-pushed big bytes other more checked o = Encodes-append big (text_of big bytes) other bytes more (Encodes-checked big bytes checked) o

-- a boundary is at most the number of bytes
pub boundary-within : (big : Bool) (bytes : List ℕ) (i : ℕ) → is_utf16 big bytes ≡ true → IsBoundary (text_of big bytes) i → i ≤ length bytes
boundary-within big bytes i checked b =
    omega (arith, length-text big bytes (IsUtf16-from_is_utf16 big bytes checked), IsBoundary-within (text_of big bytes) i b)

-- truncation at a boundary below the length, or at or past the end
pub cut-checked : (big : Bool) (bytes : List ℕ) (n : ℕ) → is_utf16 big bytes ≡ true → (n < size (text_of big bytes) → IsBoundary (text_of big bytes) n)
    → is_utf16 big (take n bytes) ≡ true
cut-checked big bytes n checked cut =
    let long = length-text big bytes (IsUtf16-from_is_utf16 big bytes checked) in
    ⊎_elim
    (λ (before : n < size (text_of big bytes)).
    checked-Encodes big (text_to (text_of big bytes) n) (take n bytes) (Encodes-to big (text_of big bytes) bytes n (Encodes-checked big bytes checked) (cut before)))
    (λ (past : size (text_of big bytes) ≤ n). subst (λ b. is_utf16 big b ≡ true) (sym (take_all n bytes (omega arith))) checked)
    (cases_lt n (size (text_of big bytes)))
