-- The UTF-8 of a stream of UTF-16, and how it continues when more bytes come.
use Rattle.std.proofs.Common.{◌≡◌, ◌≢◌, ℕ, ◌≤◌, Bool, true, false, List, [], ◌∷◌, ◌++◌, Option, None, Some, Result, length, drop, encode_utf8_all, if◌then◌else◌, sym, ap, ap₂, ◌∙◌, arith, append-nil, append_assoc, length-append, length-drop}
use Rattle.std.proofs.lemmas.List.{length-map, nil_from_length}
use Rattle.std.proofs.lemmas.Str.{length-le-encodes}
use Rattle.std.specs.Char.{encode_utf8}
use Rattle.utf16_units.specs.Split.{Item, lossy_char, lossy_chars, whole_lossy_chars, split_items, split_tail}
use Rattle.utf16_streams.specs.Bom.{has_bom, is_big, items_in, byte_order_after, tail_in}
use Rattle.utf16_streams.specs.Filter.{ContinuesUtf8, FiltersBy, FiltersIn, decided_utf8, whole_utf8}
use Rattle.utf16_streams.specs.declared.filters.FilterFault.{FilterFault}
use Rattle.utf16_transcode.proofs.DecodesLemmas.{four_decide, length-split_tail-le, shown, shown-append, undecided_items}
use Rattle.utf16_transcode.proofs.StreamLemmas.{whole_lossy_chars-some, whole_lossy_chars-none}
use Rattle.utf16_streams.proofs.BomLemmas.{items_in-append, tail_in-append}

-- the UTF-8 of what a tail adds to the whole text: U+FFFD, or nothing
abbrev tail_utf8 : List ℕ → List ℕ
tail_utf8 [] = []
tail_utf8 (first ∷ after) = encode_utf8 0xFFFD

-- the whole text is the certain text, and U+FFFD if bytes are pending
whole-replacement : (order : Option Bool) (bytes : List ℕ) → decided_utf8 order bytes ++ tail_utf8 (tail_in order bytes) ≡ whole_utf8 order bytes
whole-replacement order bytes = grind (arith, append-nil, whole_lossy_chars-none, whole_lossy_chars-some)

-- more bytes are appended
module _ (order : Option Bool) (front back : List ℕ) where
  abbrev later : Option Bool
  later = byte_order_after order front

  abbrev left : List ℕ
  left = tail_in order front ++ back

  decided_utf8-append : decided_utf8 order (front ++ back) ≡ decided_utf8 order front ++ decided_utf8 later left
  decided_utf8-append = ap shown (items_in-append order front back) ∙ shown-append (items_in order front) (items_in later left)

  whole_utf8-append : whole_utf8 order (front ++ back) ≡ decided_utf8 order front ++ whole_utf8 later left
  whole_utf8-append =
      sym (whole-replacement order (front ++ back)) ∙ ap₂ (λ d t. d ++ tail_utf8 t) decided_utf8-append (tail_in-append order front back)
      ∙ append_assoc (decided_utf8 order front) (decided_utf8 later left) (tail_utf8 (tail_in later left))
      ∙ ap (λ w. decided_utf8 order front ++ w) (whole-replacement later left)

-- one more chunk after pending bytes
pub Continues-utf8 : (order now : Option Bool) (pending piece kept : List ℕ) → now ≡ byte_order_after order (pending ++ piece) → kept ≡ tail_in order (pending ++ piece)
    → ContinuesUtf8 order pending now kept piece
Continues-utf8 order now pending piece kept told tail = record {
  certain = λ back. ap (decided_utf8 order) (sym (append_assoc pending piece back)) ∙ decided_utf8-append order (pending ++ piece) back
      ∙ ap₂ (λ o t. decided_utf8 order (pending ++ piece) ++ decided_utf8 o (t ++ back)) (sym told) (sym tail);
  all = λ back. ap (whole_utf8 order) (sym (append_assoc pending piece back)) ∙ whole_utf8-append order (pending ++ piece) back
      ∙ ap₂ (λ o t. decided_utf8 order (pending ++ piece) ++ whole_utf8 o (t ++ back)) (sym told) (sym tail);
}

-- pending bytes with nothing after them have no item
module _ (big : Bool) where
  waits_behind : (bom : Bool) (bytes : List ℕ) → split_tail big (if bom then drop 2 bytes else bytes) ≡ bytes → split_items big (if bom then drop 2 bytes else bytes) ≡ []
  unfolding split_items
  waits_behind false bytes same = undecided_items big bytes same
  waits_behind true bytes same =
      let none = nil_from_length bytes (omega (arith, length-split_tail-le big (drop 2 bytes), length-drop 2 bytes, ap length same)) in
      ap (λ b. split_items big (drop 2 b)) none

  -- six bytes have an item
  decides_behind : (bom : Bool) (bytes : List ℕ) → 6 ≤ length bytes → split_items big (if bom then drop 2 bytes else bytes) ≢ []
  decides_behind false bytes long = four_decide big bytes (omega (arith, long))
  decides_behind true bytes long = four_decide big (drop 2 bytes) (omega (arith, long, length-drop 2 bytes))

pub waits : (order : Option Bool) (pending : List ℕ) → tail_in order pending ≡ pending → items_in order pending ≡ []
waits (Some big) pending same = undecided_items big pending same
waits None pending same = waits_behind (is_big pending) (has_bom pending) pending same

decides : (order : Option Bool) (bytes : List ℕ) → 6 ≤ length bytes → items_in order bytes ≢ []
decides (Some big) bytes long = four_decide big bytes (omega (arith, long))
decides None bytes long = decides_behind (is_big bytes) (has_bom bytes) bytes long

shown_none : (items : List Item) → shown items ≡ [] → items ≡ []
shown_none items none =
    nil_from_length items (omega (arith, length-le-encodes (lossy_chars items), length-map items lossy_char, ap length none))

module _ (order : Option Bool) (pending : List ℕ) where
  pub decided_utf8-none : tail_in order pending ≡ pending → decided_utf8 order (pending ++ []) ≡ []
  decided_utf8-none same = ap (decided_utf8 order) (append-nil pending) ∙ ap shown (waits order pending same)

  pub decided_utf8-some : (bytes : List ℕ) → 8 ≤ length bytes → decided_utf8 order (pending ++ bytes) ≢ []
  decided_utf8-some bytes long none = decides order (pending ++ bytes) (omega (arith, long, length-append pending bytes)) (shown_none (items_in order (pending ++ bytes)) none)

  -- at the end of the stream
  module _ (same : tail_in order pending ≡ pending) where
    at_end : whole_utf8 order (pending ++ []) ≡ encode_utf8_all (whole_lossy_chars [] pending)
    at_end = ap (whole_utf8 order) (append-nil pending) ∙ ap₂ (λ i t. encode_utf8_all (whole_lossy_chars i t)) (waits order pending same) same

    pub whole_utf8-none : pending ≡ [] → whole_utf8 order (pending ++ []) ≡ []
    whole_utf8-none none = at_end ∙ whole_lossy_chars-none [] pending none

    pub whole_utf8-some : pending ≢ [] → whole_utf8 order (pending ++ []) ≡ 0xEF ∷ 0xBF ∷ 0xBD ∷ []
    unfolding encode_utf8
    whole_utf8-some some = at_end ∙ whole_lossy_chars-some [] pending some

-- what a filter did with a decoder at the beginning of its stream
pub from_start : (order now : Option Bool) (pending : List ℕ) (input left old new : Option (List ℕ)) (result : Result (Unit {0}) FilterFault)
    → now ≡ order → pending ≡ [] → FiltersBy (λ b. decided_utf8 now (pending ++ b)) (λ b. whole_utf8 now (pending ++ b)) input left old new result
    → FiltersIn order input left old new result
from_start order now pending input left old new result told none filters = grind (arith)
