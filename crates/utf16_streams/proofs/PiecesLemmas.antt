-- The text of a stream, chunk by chunk: one more chunk, and chunks without bytes.
use Rattle.std.proofs.Common.{arith, ◌≡◌, ◌≢◌, ℕ, ◌+◌, ◌<◌, ◌≤◌, Bool, List, [], ◌∷◌, ◌++◌, length, take, drop, get_or, encode_utf8_all, flat_map, take_all, refl, sym, ap, ◌∙◌, take-append-drop}
use Rattle.std.proofs.lemmas.List.Concat.{flat_map-append}
use Rattle.std.specs.Char.{encode_utf8}
use Rattle.utf16_units.specs.Split.{whole_lossy_chars, split_items, split_tail}
use Rattle.utf16_units.proofs.SplitJoin.{split_tail-append}
use Rattle.utf16_transcode.proofs.DecodesLemmas.{shown}
use Rattle.utf16_transcode.proofs.StreamLemmas.{whole_lossy_chars-some, joined-more, shown-piece}
use Rattle.utf16_streams.proofs.StreamRules.{tail_none}

-- a prefix of an empty list is empty
front-nil : (front back : List ℕ) → front ++ back ≡ [] → front ≡ []
front-nil [] back none = refl
front-nil (first ∷ after) back none = absurd (cc)

-- if no bytes have come, nothing is decoded
items-nil : (big : Bool) (front piece : List ℕ) → front ++ piece ≡ [] → split_items big (split_tail big front ++ piece) ≡ []
unfolding split_items split_tail
items-nil big [] [] none = refl
items-nil big front piece none = absurd (cc)

module _ {X : Type 0} (big : Bool) (bytes : X → List ℕ) (pieces : List X) (i : ℕ) where
  -- the bytes of the chunks so far
  abbrev pub so_far : List ℕ
  so_far = flat_map bytes (take i pieces)

  -- if the chunks have no bytes, nothing is pending
  pub pieces_leave_nothing : flat_map bytes pieces ≡ [] → split_tail big so_far ≡ []
  pieces_leave_nothing none =
      ap (split_tail big)
      (front-nil so_far (flat_map bytes (drop i pieces)) (sym (flat_map-append bytes (take i pieces) (drop i pieces)) ∙ ap (flat_map bytes) (take-append-drop i pieces) ∙ none))
      ∙ tail_none big

  -- after the last chunk, U+FFFD for the pending bytes ends the whole text
  pub pieces-end : length pieces ≤ i → split_tail big so_far ≢ []
      → shown (split_items big so_far) ++ encode_utf8 0xFFFD ≡ encode_utf8_all (whole_lossy_chars (split_items big (flat_map bytes pieces)) (split_tail big (flat_map bytes pieces)))
  pieces-end last some = grind (arith, whole_lossy_chars-some, take_all)

  -- after the last chunk, the text is whole if nothing is pending
  pub pieces-whole : length pieces ≤ i → split_tail big so_far ≡ []
      → shown (split_items big so_far) ≡ encode_utf8_all (whole_lossy_chars (split_items big (flat_map bytes pieces)) (split_tail big (flat_map bytes pieces)))
  pieces-whole last none = grind (arith, take_all)

  module _ (piece : X) (within : i < length pieces) (is : piece ≡ get_or pieces i piece) where
    joined : flat_map bytes (take (i + 1) pieces) ≡ so_far ++ bytes piece
    joined = joined-more bytes pieces i piece within is

    -- one more chunk: the text of the pending bytes and the chunk is appended, and their tail is
    -- pending
    pub pieces-shown : shown (split_items big so_far) ++ shown (split_items big (split_tail big so_far ++ bytes piece)) ≡ shown (split_items big (flat_map bytes (take (i + 1) pieces)))
    pieces-shown = sym (shown-piece big so_far (bytes piece)) ∙ ap (λ b. shown (split_items big b)) (sym joined)

    pub pieces-tail : split_tail big (split_tail big so_far ++ bytes piece) ≡ split_tail big (flat_map bytes (take (i + 1) pieces))
    pieces-tail = sym (split_tail-append big so_far (bytes piece)) ∙ ap (split_tail big) (sym joined)

    -- if the chunks have no bytes, nothing is decoded
    pub pieces_decide_nothing : flat_map bytes pieces ≡ [] → split_items big (split_tail big so_far ++ bytes piece) ≡ []
    pieces_decide_nothing none =
        let all = flat_map-append bytes (take (i + 1) pieces) (drop (i + 1) pieces) in
        items-nil big so_far (bytes piece)
        (sym joined ∙ front-nil (flat_map bytes (take (i + 1) pieces)) (flat_map bytes (drop (i + 1) pieces)) (sym all ∙ ap (flat_map bytes) (take-append-drop (i + 1) pieces) ∙ none))
