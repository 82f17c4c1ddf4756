-- The text of a stream by its chunks, and its end.
use Rattle.std.proofs.Common.{◌≡◌, ◌≢◌, ◌↔◌, ℕ, ◌+◌, ◌<◌, Bool, List, [], ◌∷◌, ◌++◌, Option, None, Some, length, take, drop, get_or, encode_utf8_all, append-nil, flat_map, take-add, refl, sym, ap, ◌∙◌}
use Rattle.std.proofs.lemmas.List.{drop_more}
use Rattle.std.proofs.lemmas.List.Concat.{flat_map-append}
use Rattle.std.specs.Char.{encode_utf8}
use Rattle.utf16_units.specs.Split.{Item, whole_lossy_chars, lossy_chars, split_items, split_tail}
use Rattle.utf16_units.proofs.SplitJoin.{split_items-append}
use Rattle.utf16_transcode.proofs.DecodesLemmas.{shown, shown-append}

-- one more chunk: what the tail and the chunk decode to is appended
pub shown-piece : (big : Bool) (front piece : List ℕ) → shown (split_items big (front ++ piece)) ≡ shown (split_items big front) ++ shown (split_items big (split_tail big front ++ piece))
shown-piece big front piece =
    ap shown (split_items-append big front piece) ∙ shown-append (split_items big front) (split_items big (split_tail big front ++ piece))

-- the whole text if there is no tail
pub whole_lossy_chars-none : (items : List Item) (tail : List ℕ) → tail ≡ [] → encode_utf8_all (whole_lossy_chars items tail) ≡ shown items
whole_lossy_chars-none items [] none = refl
whole_lossy_chars-none items (first ∷ after) none = absurd (cc)

-- the whole text if there is a tail
pub whole_lossy_chars-some : (items : List Item) (tail : List ℕ) → tail ≢ [] → encode_utf8_all (whole_lossy_chars items tail) ≡ shown items ++ encode_utf8 0xFFFD
unfolding encode_utf8
whole_lossy_chars-some items [] some = absurd (some refl)
whole_lossy_chars-some items (first ∷ after) some = flat_map-append encode_utf8 (lossy_chars items) (0xFFFD ∷ [])

-- the bytes of one more chunk
pub joined-more : {X : Type 0} (bytes : X → List ℕ) (pieces : List X) (i : ℕ) (piece : X) → i < length pieces → piece ≡ get_or pieces i piece
    → flat_map bytes (take (i + 1) pieces) ≡ flat_map bytes (take i pieces) ++ bytes piece
joined-more bytes pieces i piece within is =
    let here : take 1 (drop i pieces) ≡ piece ∷ [] = ap (take 1) (drop_more pieces i piece within) ∙ ap (λ p. p ∷ []) (sym is) in
    ap (flat_map bytes) (take-add i 1 pieces ∙ ap (λ p. take i pieces ++ p) here)
    ∙ flat_map-append bytes (take i pieces) (piece ∷ []) ∙ ap (λ b. flat_map bytes (take i pieces) ++ b) (append-nil (bytes piece))

-- a character returned at the end says that bytes are pending, and is U+FFFD
pub finished : (answer : Option ℕ) (m : ℕ) (pending : List ℕ) → answer ≡ Some m → ((answer ≡ None) ↔ (pending ≡ [])) → ((answer ≡ Some 0xFFFD) ↔ (pending ≢ []))
    → (pending ≢ []) × (m ≡ 0xFFFD)
finished answer m pending is none replacement =
    let left : ¬ (pending ≡ []) = λ empty. (
    let e = sym is ∙ none.1 empty in
    absurd (cc)
    ) in
    let same = sym is ∙ replacement.1 left in
    (left, cc)
