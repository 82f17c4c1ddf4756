-- A search for a character says which part of the text lacks it.
use Rattle.std.proofs.Common.{◌≡◌, ◌≢◌, ℕ, ◌+◌, ◌<◌, ◌≤◌, List, [], ◌∷◌, ◌++◌, Some, None, refl, sym, ap, ◌∙◌, subst, append_assoc, append-nil, arith}
use Rattle.std.proofs.lemmas.List.Elements.{All-cons, All-head, All-nil, All-tail}
use Rattle.utf16_units.specs.Boundary.{IsBoundary, OccursIn, text_from, text_to}
use Rattle.utf16_units.specs.Delimited.{Lacks}
use Rattle.utf16_units.specs.Encoding.{char_size, size}
use Rattle.utf16_units.proofs.BoundaryLemmas.{char_size-pos, size-text_to}
use Rattle.utf16_units.proofs.EncodingLemmas.{size-append, size-cons, size-nil}
use Rattle.utf16_bytes.specs.Occurrence.{IsFirst, IsLast}
use Rattle.utf16_bytes.proofs.OccurrenceLemmas.{text_around}
use Rattle.utf16_bytes.proofs.PatternLemmas.{between_parts}

-- a part lacks a character that occurs nowhere from the part's start up to its end
lacks_part : (text before front back : List ℕ) (c : ℕ) → text ≡ (before ++ front) ++ back
    → ((i : ℕ) → size before ≤ i → i < size (before ++ front) → ¬ (OccursIn text i (c ∷ []))) → Lacks c front
lacks_part text before [] back c e none = All-nil (λ d. d ≢ c)
lacks_part text before (d ∷ front) back c e none =
    let longer : (before ++ d ∷ []) ++ front ≡ before ++ d ∷ front = append_assoc before (d ∷ []) front in
    let around : text ≡ (before ++ d ∷ []) ++ (front ++ back) =
    e ∙ ap (λ t. t ++ back) (sym longer) ∙ append_assoc (before ++ d ∷ []) front back in
    let within : size before < size (before ++ d ∷ front) = omega (arith, size-append before (d ∷ front), size-cons d front, char_size-pos d) in
    let later : size before ≤ size (before ++ d ∷ []) = omega (arith, size-append before (d ∷ [])) in
    All-cons (λ x. x ≢ c) d front
    (λ same. none (size before) (omega arith) within (subst (λ x. OccursIn text (size before) (x ∷ [])) same (between_parts text before (d ∷ []) (front ++ back) around)))
    (lacks_part text (before ++ d ∷ []) front back c (e ∙ ap (λ t. t ++ back) (sym longer))
    (λ i from less. none i (omega (arith, from, later)) (subst (λ t. i < size t) longer less)))

-- the text around a character that occurs at an offset
pub record IsAroundChar (text : List ℕ) (i c : ℕ) : Type 0 where
  pub end : IsBoundary text (i + char_size c)
  pub split : text ≡ text_to text i ++ c ∷ text_from text (i + char_size c)
  pub offset : size (text_to text i) ≡ i

pub around_char : (text : List ℕ) (i c : ℕ) → OccursIn text i (c ∷ []) → IsAroundChar text i c
around_char text i c occurs =
    let one : i + size (c ∷ []) ≡ i + char_size c = omega (arith, size-cons c [], size-nil) in
    record {
      end = subst (IsBoundary text) one occurs.end;
      split = text_around text (c ∷ []) i occurs ∙ append_assoc (text_to text i) (c ∷ []) (text_from text (i + size (c ∷ [])))
          ∙ ap (λ n. text_to text i ++ c ∷ text_from text n) one;
      offset = size-text_to text i occurs.start;
    }

-- the text before the first occurrence lacks the character
pub lacks_before : (text : List ℕ) (c i : ℕ) → IsFirst (λ at. OccursIn text at (c ∷ [])) (Some i) → Lacks c (text_to text i)
lacks_before text c i found =
    let around = around_char text i c found.0 in
    lacks_part text [] (text_to text i) (c ∷ text_from text (i + char_size c)) c around.split
    (λ at from less. found.1 at (subst (λ n. at < n) around.offset less))

-- the text after the last occurrence lacks it
pub lacks_after : (text : List ℕ) (c i : ℕ) → IsLast (λ at. OccursIn text at (c ∷ [])) (Some i) → Lacks c (text_from text (i + char_size c))
lacks_after text c i found =
    let around = around_char text i c found.0 in
    let front = text_to text i in
    let back = text_from text (i + char_size c) in
    let whole : text ≡ ((front ++ c ∷ []) ++ back) ++ [] = around.split ∙ sym (append_assoc front (c ∷ []) back) ∙ sym (append-nil ((front ++ c ∷ []) ++ back)) in
    lacks_part text (front ++ c ∷ []) back [] c whole
    (λ at from less. found.1 at (omega (arith, from, around.offset, size-append front (c ∷ []), size-cons c [], char_size-pos c)))

-- a text in which the character occurs nowhere lacks it
pub lacks_all : (text : List ℕ) (c : ℕ) → IsFirst (λ i. OccursIn text i (c ∷ [])) None → Lacks c text
lacks_all text c none = lacks_part text [] text [] c (sym (append-nil text)) (λ i from less. none i)

-- a text in which a character occurs does not lack it
has : (wanted : ℕ) (front back : List ℕ) → Lacks wanted (front ++ wanted ∷ back) → ⊥
has wanted [] back lacks = All-head (λ c. c ≢ wanted) wanted back lacks refl
has wanted (c ∷ front) back lacks = has wanted front back (All-tail (λ c. c ≢ wanted) c (front ++ wanted ∷ back) lacks)

pub lacks-not : (wanted : ℕ) (text front back : List ℕ) → text ≡ front ++ wanted ∷ back → Lacks wanted text → ⊥
lacks-not wanted text front back is lacks = has wanted front back (subst (Lacks wanted) is lacks)
