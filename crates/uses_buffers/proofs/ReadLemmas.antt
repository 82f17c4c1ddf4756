-- A stream that is read chunk by chunk: its text so far, and the pending bytes.
use Rattle.std.proofs.Common.{◌≡◌, ◌≢◌, ℕ, ◌+◌, ◌<◌, ◌≤◌, Bool, List, [], ◌∷◌, ◌++◌, All, get_or, flat_map, length, map, take, take_all, drop, encode_utf8_all, append_assoc, take-append-drop, take_at, refl, sym, ap, ◌∙◌, subst, arith, length-append}
use Rattle.std.proofs.lemmas.List.{get_or-append-add, map-append}
use Rattle.std.proofs.lemmas.List.Concat.{concat_is, flat_map-append}
use Rattle.std.proofs.lemmas.List.Elements.{All-append}
use Rattle.std.proofs.lemmas.List.Folds.{flat_map-map}
use Rattle.std.specs.Char.{encode_utf8}
use Rattle.std.specs.Io.{StartsWith}
use Rattle.std.specs.List.{concat}
use Rattle.utf16_units.specs.Laws.{CutAnywhere, ItemsStay, ResumesIsSplit, SplitExists, SplitUnique}
use Rattle.utf16_tools.specs.Split.{Item, whole_lossy_chars, lossy_char, lossy_chars, split_items, split_tail}
use Rattle.utf16_tools.proofs.StreamLemmas.{whole_lossy_chars-some, whole_lossy_chars-none, joined-more, shown-piece}
use Rattle.utf16_units.proofs.SplitJoin.{split_tail-append}
use Rattle.uses_buffers.specs.OneSplit.{IsTextByResuming, IsTextOfOneSplit, text_at_end}

abbrev pub IsByte : ℕ → Type 0
IsByte b = b < 256

All-behind : (xs ys : List ℕ) → All IsByte (xs ++ ys) → All IsByte ys
All-behind xs ys all k d within =
    let long = length-append xs ys in
    subst IsByte (get_or-append-add xs ys k d) (all (length xs + k) d (omega arith))

-- the text of the bytes so far, and their tail
pub record Told (big : Bool) (bytes text kept : List ℕ) : Type 0 where
  pub shown : text ≡ encode_utf8_all (lossy_chars (split_items big bytes))
  pub tail : kept ≡ split_tail big bytes

pub Told-piece : (big : Bool) (bytes text kept piece next left : List ℕ) → Told big bytes text kept
    → next ≡ text ++ encode_utf8_all (lossy_chars (split_items big (kept ++ piece))) → left ≡ split_tail big (kept ++ piece)
    → Told big (bytes ++ piece) next left
Told-piece big bytes text kept piece next left so_far behind after = record {
  shown =
      behind ∙ ap (λ k. text ++ encode_utf8_all (lossy_chars (split_items big (k ++ piece)))) so_far.tail
      ∙ ap (λ t. t ++ encode_utf8_all (lossy_chars (split_items big (split_tail big bytes ++ piece)))) so_far.shown ∙ sym (shown-piece big bytes piece);
  tail = after ∙ ap (λ k. split_tail big (k ++ piece)) so_far.tail ∙ sym (split_tail-append big bytes piece);
}

-- for a list of chunks: one more, and the last
module _ {X : Type 0} (of : X → List ℕ) (pieces : List X) (i : ℕ) (big : Bool) (text kept : List ℕ) (so_far : Told big (flat_map of (take i pieces)) text kept) where
  pub Told-more : (piece : X) (next left : List ℕ) → i < length pieces → piece ≡ get_or pieces i piece
      → next ≡ text ++ encode_utf8_all (lossy_chars (split_items big (kept ++ of piece))) → left ≡ split_tail big (kept ++ of piece)
      → Told big (flat_map of (take (i + 1) pieces)) next left
  Told-more piece next left within is behind after =
      subst (λ b. Told big b next left) (sym (joined-more of pieces i piece within is)) (Told-piece big _ text kept (of piece) next left so_far behind after)

  pub Told-all : length pieces ≤ i → Told big (flat_map of pieces) text kept
  Told-all past = subst (λ p. Told big (flat_map of p) text kept) (take_all i pieces past) so_far

module _ (big : Bool) (bytes text kept : List ℕ) (all : Told big bytes text kept) where
  pub none_kept : kept ≡ [] → text ≡ encode_utf8_all (whole_lossy_chars (split_items big bytes) (split_tail big bytes))
  none_kept none = all.shown ∙ sym (whole_lossy_chars-none (split_items big bytes) (split_tail big bytes) (sym all.tail ∙ none))

  pub some_kept : (whole : List ℕ) → kept ≢ [] → whole ≡ text ++ encode_utf8 0xFFFD → whole ≡ encode_utf8_all (whole_lossy_chars (split_items big bytes) (split_tail big bytes))
  some_kept whole some replacement =
      replacement ∙ ap (λ t. t ++ encode_utf8 0xFFFD) all.shown ∙ sym (whole_lossy_chars-some (split_items big bytes) (split_tail big bytes) (λ none. some (all.tail ∙ none)))

at_end : (items : List Item) (kept : List ℕ) → whole_lossy_chars items kept ≡ text_at_end (lossy_chars items) kept
at_end items [] = refl
at_end items (first ∷ after) = refl

-- the text of the computed split is the text of the one split
pub of_one : SplitExists → SplitUnique → (big : Bool) (bytes : List ℕ) → All IsByte bytes
    → (whole : List ℕ) → whole ≡ encode_utf8_all (whole_lossy_chars (split_items big bytes) (split_tail big bytes)) → IsTextOfOneSplit big bytes whole
of_one exists unique big bytes are whole same = record {
  items = split_items big bytes;
  tail = split_tail big bytes;
  split = exists big bytes are;
  only = λ others other split. unique big bytes others (split_items big bytes) other (split_tail big bytes) split (exists big bytes are);
  text = same;
}

-- and it is the text that resuming by the error gives over the chunks
pub by_resuming : ResumesIsSplit → {X : Type 0} (of : X → List ℕ) (big : Bool) (pieces : List X) → All IsByte (flat_map of pieces)
    → (whole : List ℕ) → whole ≡ encode_utf8_all (whole_lossy_chars (split_items big (flat_map of pieces)) (split_tail big (flat_map of pieces)))
    → IsTextByResuming big (map of pieces) whole
by_resuming law of big pieces are whole same =
    let joined : concat (map of pieces) ≡ flat_map of pieces = concat_is (map of pieces) ∙ flat_map-map (λ x. x) of pieces in
    let text = lossy_chars (split_items big (flat_map of pieces)) in
    let kept = split_tail big (flat_map of pieces) in
    let bytes = subst (All IsByte) (sym joined) are in
    let back = (law big (map of pieces) text kept bytes).1 in
    record {
      text = text;
      kept = kept;
      resumes = back (ap (λ b. lossy_chars (split_items big b)) (sym joined), ap (split_tail big) (sym joined));
      written = same ∙ ap encode_utf8_all (at_end (split_items big (flat_map of pieces)) kept);
    }

-- the bytes of one more chunk are below 256 if the pending bytes and the chunk are
pub bytes-more : {X : Type 0} (of : X → List ℕ) (pieces : List X) (i : ℕ) (piece : X) (kept : List ℕ) → i < length pieces → piece ≡ get_or pieces i piece
    → All IsByte (flat_map of (take i pieces)) → All IsByte (kept ++ of piece) → All IsByte (flat_map of (take (i + 1) pieces))
bytes-more of pieces i piece kept within is so_far are =
    subst (All IsByte) (sym (joined-more of pieces i piece within is)) (All-append IsByte _ _ so_far (All-behind kept (of piece) are))

-- ---- the text of a decoder

-- the text of only the bytes, if nothing is pending before them
pub fresh : (big : Bool) (pending bytes utf8 : List ℕ) → pending ≡ [] → utf8 ≡ encode_utf8_all (lossy_chars (split_items big (pending ++ bytes)))
    → utf8 ≡ encode_utf8_all (lossy_chars (split_items big bytes))
fresh big pending bytes utf8 none shown = shown ∙ ap (λ p. encode_utf8_all (lossy_chars (split_items big (p ++ bytes)))) none

-- of two chunks, one after the other
pub two_pieces : CutAnywhere → (big : Bool) (pending first second : List ℕ)
    → encode_utf8_all (lossy_chars (split_items big (pending ++ first))) ++ encode_utf8_all (lossy_chars (split_items big (split_tail big (pending ++ first) ++ second)))
    ≡ encode_utf8_all (lossy_chars (split_items big (pending ++ (first ++ second))))
two_pieces cut big pending first second =
    sym (flat_map-append encode_utf8 (lossy_chars (split_items big (pending ++ first))) (lossy_chars (split_items big (split_tail big (pending ++ first) ++ second))))
    ∙ ap encode_utf8_all (sym (cut big (pending ++ first) second)) ∙ ap (λ b. encode_utf8_all (lossy_chars (split_items big b))) (append_assoc pending first second)

-- of a prefix, and then of all
pub shown_early : ItemsStay → (big : Bool) (whole : List ℕ) (at : ℕ)
    → StartsWith (encode_utf8_all (lossy_chars (split_items big whole))) (encode_utf8_all (lossy_chars (split_items big (take at whole))))
shown_early stay big whole at =
    let front = split_items big (take at whole) in
    let all = split_items big whole in
    let first : take (length front) all ≡ front = ap (λ b. take (length front) (split_items big b)) (sym (take-append-drop at whole)) ∙ stay big (take at whole) (drop at whole) in
    let rest = drop (length front) all in
    let split : encode_utf8_all (lossy_chars all) ≡ encode_utf8_all (lossy_chars front) ++ encode_utf8_all (lossy_chars rest) =
    ap (λ i. encode_utf8_all (lossy_chars i)) (sym (take-append-drop (length front) all) ∙ ap (λ f. f ++ rest) first)
    ∙ ap encode_utf8_all (map-append lossy_char front rest) ∙ flat_map-append encode_utf8 (lossy_chars front) (lossy_chars rest) in
    ap (take (length (encode_utf8_all (lossy_chars front)))) split ∙ take_at (encode_utf8_all (lossy_chars front)) (encode_utf8_all (lossy_chars rest)) (length (encode_utf8_all (lossy_chars front))) refl
