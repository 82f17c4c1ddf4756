-- The text of the chunks of a stream of UTF-8, one after another.
use Rattle.std.proofs.Common.{◌≡◌, ◌≢◌, ℕ, ◌+◌, ◌<◌, ◌≤◌, List, [], ◌∷◌, ◌++◌, get_or, length, take, drop, chars, take_all, take-append-drop, refl, sym, ap, ap₂, ◌∙◌, subst}
use Rattle.std.proofs.lemmas.List.Concat.{flat_map-append}
use Rattle.std.specs.List.{flat_map}
use Rattle.std.specs.Str.Lossy.{utf8_lossy}
use Rattle.utf8_bytes.specs.Split.{decided_text, split_items, split_tail, whole_lossy_chars}
use Rattle.utf8_bytes.proofs.LawProofs.{cut_anywhere, split_extends}
use Rattle.utf8_bytes.proofs.LossyLemmas.{lossy_text-is}
use Rattle.utf16_transcode.proofs.StreamLemmas.{joined-more}

front-nil : (front back : List ℕ) → front ++ back ≡ [] → front ≡ []
front-nil [] back none = refl
front-nil (first ∷ after) back none = absurd (cc)

back-nil : (front back : List ℕ) → front ++ back ≡ [] → back ≡ []
back-nil [] back none = none
back-nil (first ∷ after) back none = absurd (cc)

-- the text of these bytes, and what is pending after them
pub record IsTextOf (bytes text pending : List ℕ) : Type 0 where
  pub is_text : text ≡ decided_text bytes
  pub is_tail : pending ≡ split_tail bytes

pub IsTextOf-nil : (text pending : List ℕ) → text ≡ [] → pending ≡ [] → IsTextOf [] text pending
unfolding split_items split_tail
IsTextOf-nil text pending none empty = record { is_text = none; is_tail = empty }

module _ (bytes text pending : List ℕ) (before : IsTextOf bytes text pending) where
  -- one more chunk is decoded
  pub IsTextOf-more : (piece more left : List ℕ) → more ≡ text ++ decided_text (pending ++ piece) → left ≡ split_tail (pending ++ piece) → IsTextOf (bytes ++ piece) more left
  IsTextOf-more piece more left text_is left_is = record {
    is_text = text_is ∙ ap₂ (λ t h. t ++ decided_text (h ++ piece)) before.is_text before.is_tail ∙ sym (cut_anywhere bytes piece).0;
    is_tail = left_is ∙ ap (λ h. split_tail (h ++ piece)) before.is_tail ∙ sym (split_extends bytes piece).1;
  }

  -- the end of the stream, if nothing is pending
  pub whole-none : pending ≡ [] → text ≡ chars (utf8_lossy bytes)
  whole-none none = before.is_text ∙ ap (whole_lossy_chars (split_items bytes)) (sym none ∙ before.is_tail) ∙ lossy_text-is bytes

  -- the end of the stream, if bytes are pending: U+FFFD ends the text
  pub whole-some : (last : List ℕ) → pending ≢ [] → last ≡ text ++ 0xFFFD ∷ [] → last ≡ chars (utf8_lossy bytes)
  whole-some last some is =
      is ∙ ap (λ t. t ++ 0xFFFD ∷ []) before.is_text ∙ by_tail (split_tail bytes) (λ none. some (before.is_tail ∙ none)) ∙ lossy_text-is bytes where
        by_tail : (tail : List ℕ) → tail ≢ [] → decided_text bytes ++ 0xFFFD ∷ [] ≡ whole_lossy_chars (split_items bytes) tail
        by_tail [] left = absurd (left refl)
        by_tail (first ∷ after) left = refl

  -- if no bytes have come, nothing is pending, and chunks without bytes add nothing
  pub nothing-pending : bytes ≡ [] → pending ≡ []
  unfolding split_tail
  nothing-pending none = before.is_tail ∙ ap split_tail none

  pub nothing-more : (piece : List ℕ) → bytes ++ piece ≡ [] → decided_text (pending ++ piece) ≡ []
  unfolding split_items split_tail
  nothing-more piece none =
      ap₂ (λ h p. decided_text (h ++ p)) (before.is_tail ∙ ap split_tail (front-nil bytes piece none)) (back-nil bytes piece none)

-- the bytes of the first `i` chunks
module _ {X : Type 0} (bytes : X → List ℕ) (pieces : List X) (i : ℕ) where
  none_so_far : flat_map bytes pieces ≡ [] → flat_map bytes (take i pieces) ≡ []
  none_so_far none =
      front-nil (flat_map bytes (take i pieces)) (flat_map bytes (drop i pieces))
      (sym (flat_map-append bytes (take i pieces) (drop i pieces)) ∙ ap (flat_map bytes) (take-append-drop i pieces) ∙ none)

module _ {X : Type 0} (bytes : X → List ℕ) (pieces : List X) (i : ℕ) (text pending : List ℕ) (before : IsTextOf (flat_map bytes (take i pieces)) text pending) where
  -- one more chunk is decoded
  module _ (item : X) (within : i < length pieces) (is : item ≡ get_or pieces i item) (piece : List ℕ) (same : piece ≡ bytes item) where
    joined : flat_map bytes (take i pieces) ++ piece ≡ flat_map bytes (take (i + 1) pieces)
    joined = ap (λ p. flat_map bytes (take i pieces) ++ p) same ∙ sym (joined-more bytes pieces i item within is)

    pub pieces-more : (more left : List ℕ) → more ≡ text ++ decided_text (pending ++ piece) → left ≡ split_tail (pending ++ piece)
        → IsTextOf (flat_map bytes (take (i + 1) pieces)) more left
    pieces-more more left text_is left_is =
        subst (λ b. IsTextOf b more left) joined (IsTextOf-more (flat_map bytes (take i pieces)) text pending before piece more left text_is left_is)

    -- if the chunks have no bytes, nothing is decoded
    pub pieces-nothing : flat_map bytes pieces ≡ [] → decided_text (pending ++ piece) ≡ []
    pieces-nothing none = nothing-more (flat_map bytes (take i pieces)) text pending before piece (joined ∙ none_so_far bytes pieces (i + 1) none)

  -- if the chunks have no bytes, nothing is pending
  pub pieces-empty : flat_map bytes pieces ≡ [] → pending ≡ []
  pieces-empty none = nothing-pending (flat_map bytes (take i pieces)) text pending before (none_so_far bytes pieces i none)

  -- all chunks are decoded
  pub pieces-all : length pieces ≤ i → IsTextOf (flat_map bytes pieces) text pending
  pieces-all past = subst (λ p. IsTextOf (flat_map bytes p) text pending) (take_all i pieces past) before
