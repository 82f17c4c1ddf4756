-- Iteration over the characters of a text, and how many bytes those take that were yielded.
use Rattle.std.proofs.Common.{◌≡◌, ℕ, ◌+◌, ◌<◌, ◌≤◌, List, [], ◌∷◌, ◌++◌, length, take, drop, get_or, sym, ap, ap₂, ◌∙◌, arith, take-append-drop}
use Rattle.std.proofs.lemmas.List.{length_push, take_more}
use Rattle.utf16_units.specs.Encoding.{char_size, size}
use Rattle.utf16_units.proofs.EncodingLemmas.{size-append, size-cons, size-nil}

-- what was yielded is a prefix of the list
abbrev pub IsPrefixOf : List ℕ → List ℕ → Type 0
IsPrefixOf given all = given ≡ take (length given) all

-- and with the next item it still is
pub prefix-more : (given all : List ℕ) (x : ℕ) → IsPrefixOf given all → (length given < length all) × (x ≡ get_or all (length given) x)
    → IsPrefixOf (given ++ x ∷ []) all
prefix-more given all x prefix next =
    ap₂ (λ front last. front ++ last ∷ []) prefix next.1
    ∙ sym (take_more all (length given) x next.0)
    ∙ ap (λ n. take n all) (sym (length_push given x))

pub size-prefix : (given all : List ℕ) → IsPrefixOf given all → size given ≤ size all
size-prefix given all prefix =
    let whole = ap size (sym (take-append-drop (length given) all)) ∙ size-append (take (length given) all) (drop (length given) all) in
    let front = ap size prefix in
    omega arith

pub size-push : (text : List ℕ) (c : ℕ) → size (text ++ c ∷ []) ≡ size text + char_size c
size-push text c = omega (arith, size-append text (c ∷ []), size-cons c [], size-nil)
