-- Characters with their offsets, from either end.
use Rattle.std.proofs.Common.{◌≡◌, ℕ, ◌+◌, ◌<◌, All, Bool, true, nat_eq, eqb-true, List, [], ◌∷◌, ◌++◌, length, length-append, map, Some, refl, sym, ap, ◌∙◌, subst, append_assoc, arith}
use Rattle.std.proofs.iter.runs.Sources.{as_is, as_is_back, from_back, from_front}
use Rattle.std.specs.Iterator.{MakesProgress, YieldsFirst, YieldsLast, item_count}
use Rattle.std.specs.Iterator.Runs.{YieldsInOrder, YieldsInReverse}
use Rattle.std.proofs.lemmas.List.{nil_from_length}
use Rattle.std.proofs.lemmas.List.Elements.{All-cons, All-nil}
use Rattle.utf16_units.specs.Boundary.{text_from, text_to}
use Rattle.utf16_units.specs.Encoding.{char_size, size, text_of}
use Rattle.utf16_units.proofs.EncodingLemmas.{size-append, size-cons, size-nil, text_of-nil}
use Rattle.utf16_units.proofs.BoundaryLemmas.{text_from-at, text_to-at, text_to-text_from}
use Rattle.utf16_str.specs.Offsets.{IsCharAt, OffsetsHold, char_offsets}

pub char_offsets-nil : (offset : ℕ) → char_offsets offset [] ≡ []
unfolding char_offsets
char_offsets-nil offset = refl

pub char_offsets-cons : (offset c : ℕ) (text : List ℕ) → char_offsets offset (c ∷ text) ≡ (offset, c) ∷ char_offsets (offset + char_size c) text
unfolding char_offsets
char_offsets-cons offset c text = refl

-- the offset of the last character is the size of all characters before it
pub char_offsets-push : (offset : ℕ) (text : List ℕ) (c : ℕ) → char_offsets offset (text ++ c ∷ []) ≡ char_offsets offset text ++ (offset + size text, c) ∷ []
unfolding char_offsets
char_offsets-push offset [] c =
    let start : offset ≡ offset + size [] = omega (arith, size-nil) in
    ap (λ i. (i, c) ∷ []) start
char_offsets-push offset (d ∷ text) c =
    let start : offset + char_size d + size text ≡ offset + size (d ∷ text) = omega (arith, size-cons d text) in
    ap (λ t. (offset, d) ∷ t)
    (char_offsets-push (offset + char_size d) text c ∙ ap (λ i. char_offsets (offset + char_size d) text ++ (i, c) ∷ []) start)

pub length-char_offsets : (offset : ℕ) (text : List ℕ) → length (char_offsets offset text) ≡ length text
unfolding char_offsets
length-char_offsets offset [] = refl
length-char_offsets offset (c ∷ text) = omega (arith, length-char_offsets (offset + char_size c) text)

pub map-char_offsets : (offset : ℕ) (text : List ℕ) → map (λ (at : ℕ × ℕ). at.1) (char_offsets offset text) ≡ text
unfolding char_offsets
map-char_offsets offset [] = refl
map-char_offsets offset (c ∷ text) = ap (λ t. c ∷ t) (map-char_offsets (offset + char_size c) text)

-- the offset of a character after a prefix of the text is the size of that prefix
pub char_at_size : (front : List ℕ) (c : ℕ) (back : List ℕ) → IsCharAt (front ++ c ∷ back) (size front, c)
char_at_size front c back =
    let text = front ++ c ∷ back in
    let next : size (front ++ c ∷ []) ≡ size front + char_size c = omega (arith, size-append front (c ∷ []), size-cons c [], size-nil) in
    let longer : (front ++ c ∷ []) ++ back ≡ text = append_assoc front (c ∷ []) back in
    let before : text_to text (size front) ≡ front = text_to-at front (c ∷ back) (size front) refl in
    let from : text_from text (size front) ≡ c ∷ back = text_from-at front (c ∷ back) (size front) refl in
    let past : text_from text (size front + char_size c) ≡ back =
    ap (λ t. text_from t (size front + char_size c)) (sym longer) ∙ text_from-at (front ++ c ∷ []) back (size front + char_size c) next in
    let up_to : text_to text (size front + char_size c) ≡ front ++ c ∷ [] =
    ap (λ t. text_to t (size front + char_size c)) (sym longer) ∙ text_to-at (front ++ c ∷ []) back (size front + char_size c) next in
    let here : text_from text (size front) ≡ c ∷ text_from text (size front + char_size c) = from ∙ ap (λ t. c ∷ t) (sym past) in
    record {
      start = record { front = front; back = c ∷ back; split = refl; offset = refl };
      end = record { front = front ++ c ∷ []; back = back; split = longer; offset = next };
      here = here;
      behind = up_to ∙ ap (λ t. t ++ c ∷ []) (sym before);
      split = ap (λ t. text_to text (size front) ++ t) (sym here) ∙ text_to-text_from text (size front);
    }

chars_stand : (front text : List ℕ) → All (IsCharAt (front ++ text)) (char_offsets (size front) text)
unfolding char_offsets
chars_stand front [] = All-nil (IsCharAt (front ++ []))
chars_stand front (c ∷ text) =
    let next : size (front ++ c ∷ []) ≡ size front + char_size c = omega (arith, size-append front (c ∷ []), size-cons c [], size-nil) in
    let rest : All (IsCharAt (front ++ c ∷ text)) (char_offsets (size front + char_size c) text) =
    subst (λ t. All (IsCharAt t) (char_offsets (size front + char_size c) text)) (append_assoc front (c ∷ []) text)
    (subst (λ n. All (IsCharAt ((front ++ c ∷ []) ++ text)) (char_offsets n text)) next (chars_stand (front ++ c ∷ []) text)) in
    All-cons (IsCharAt (front ++ c ∷ text)) (size front, c) (char_offsets (size front + char_size c) text) (char_at_size front c text) rest

pub offsets_stand : OffsetsHold
offsets_stand text = subst (λ n. All (IsCharAt text) (char_offsets n text)) size-nil (chars_stand [] text)

-- if no character is left, the list of those left is empty
pub char_offsets-none : (offset : ℕ) (text rest : List ℕ) (shown : List (ℕ × ℕ)) → char_offsets offset text ≡ shown → (text ≡ []) × (rest ≡ [])
    → (shown ≡ []) × (char_offsets offset rest ≡ [])
char_offsets-none offset text rest shown view none =
    (sym view ∙ ap (char_offsets offset) none.0 ∙ char_offsets-nil offset, ap (char_offsets offset) none.1 ∙ char_offsets-nil offset)

-- if no bytes are left, by the test of their length, no characters are
pub none-left : (big : Bool) (raw bytes shown : List ℕ) (test : Bool) → text_of big bytes ≡ shown → raw ≡ bytes → test ≡ nat_eq (length raw) 0 → test ≡ true
    → (shown ≡ []) × (shown ≡ [])
none-left big raw bytes shown test view same tested empty =
    let nil = nil_from_length raw (eqb-true (length raw) 0 (sym tested ∙ empty)) in
    let none = sym view ∙ ap (text_of big) (sym same ∙ nil) ∙ text_of-nil big in
    (none, none)

-- the first item left is the item of the first character left
module _ (items : List (ℕ × ℕ)) (i c : ℕ) where
  pub next : (front rest : List ℕ) → (i, c) ∷ items ≡ char_offsets (size front) rest
      → (more : List ℕ) × (rest ≡ c ∷ more) × (i ≡ size front) × (items ≡ char_offsets (size front + char_size c) more)
  next front [] is = absurd (cc (is ∙ char_offsets-nil (size front)))
  next front (d ∷ more) is =
      let both = is ∙ char_offsets-cons (size front) d more in
      let items_same : items ≡ char_offsets (size front + char_size d) more = cc in
      let pair : (i, c) ≡ (size front, d) = cc in
      let same : c ≡ d = ap (λ (p : ℕ × ℕ). p.1) pair in
      (more, ap (λ x. x ∷ more) (sym same), ap (λ (p : ℕ × ℕ). p.0) pair, items_same ∙ ap (λ x. char_offsets (size front + char_size x) more) (sym same))

-- a call that returned the first item left, or the last, leaves fewer
module _ {A : Type 0} (can : List A → Type 0) (always : (items : List A) → can items) (before after : List A) (x : A) where
  pub progress-first : before ≡ x ∷ after → MakesProgress can (item_count (λ rest. rest)) before (Some x) after
  progress-first e = record {
    on = λ _. (always after, tt, subst (λ items. length after < length items) (sym e) (omega arith));
    keeps = always after;
    rests = λ _. tt;
  }

  pub progress-last : before ≡ after ++ x ∷ [] → MakesProgress can (item_count (λ rest. rest)) before (Some x) after
  progress-last e = record {
    on = λ _. (always after, tt, subst (λ items. length after < length items) (sym e) (omega (arith, length-append after (x ∷ []))));
    keeps = always after;
    rests = λ _. tt;
  }

-- an iterator whose model is the list of what is left yields that list, forwards and backwards
module _ {A : Type 0} where
  pub in_order : YieldsInOrder (YieldsFirst {A = A} (λ (rest : List A). rest)) (λ rest. rest)
  in_order p s = as_is p p.from (from_front (YieldsFirst {A = A} (λ (rest : List A). rest)) (λ x. x) (λ rest. rest) (λ s t h. ap length h.0) (λ s x t h. h) p s)

  pub in_reverse : YieldsInReverse (YieldsLast {A = A} (λ (rest : List A). rest)) (λ rest. rest)
  in_reverse p s = as_is_back p p.from (from_back (YieldsLast {A = A} (λ (rest : List A). rest)) (λ x. x) (λ rest. rest) (λ s t h. ap length h.0) (λ s x t h. h) p s)
