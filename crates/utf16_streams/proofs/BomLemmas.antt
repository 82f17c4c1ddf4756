-- A stream whose BOM gives its byte order, and how it continues when more bytes come.
use Rattle.std.proofs.Common.{◌≡◌, ◌≢◌, ℕ, Bool, true, false, List, [], ◌∷◌, ◌++◌, Option, None, Some, append-nil, arith, length, refl, sym, ap, ◌∙◌, if◌then◌else◌}
use Rattle.std.specs.Option.{MatchOption, option_to_list}
use Rattle.utf16_units.specs.Split.{split_items, split_tail}
use Rattle.utf16_units.proofs.SplitJoin.{split_items-append, split_tail-append}
use Rattle.utf16_streams.specs.Bom.{after_bom, begins_with, has_bom, items_in, byte_order_after, tail_in}

-- one byte or none, as a slice
pub first_slice : (first : Option ℕ) (bytes : List ℕ) → MatchOption first (bytes ≡ []) (λ byte. bytes ≡ byte ∷ []) → bytes ≡ option_to_list first
first_slice None bytes is = is
first_slice (Some byte) bytes is = is

-- one byte decodes to nothing
pub first_waits : (big : Bool) (first : Option ℕ) → split_tail big (option_to_list first) ≡ option_to_list first
unfolding split_tail
first_waits big None = refl
first_waits big (Some byte) = refl

pub first_items : (first : Option ℕ) → items_in None (option_to_list first) ≡ []
unfolding split_items
first_items None = refl
first_items (Some byte) = refl

pub first_tail : (first : Option ℕ) → tail_in None (option_to_list first) ≡ option_to_list first
unfolding split_tail
first_tail None = refl
first_tail (Some byte) = refl

-- more bytes after the first two do not change the BOM
behind_more : (lossy_chars : Bool) (bytes piece all : List ℕ) → (if lossy_chars then bytes ++ piece else (all ++ piece)) ≡ (if lossy_chars then bytes else all) ++ piece
behind_more true bytes piece all = refl
behind_more false bytes piece all = refl

text_more : (first second : ℕ) (bytes piece : List ℕ) → after_bom (first ∷ second ∷ bytes ++ piece) ≡ after_bom (first ∷ second ∷ bytes) ++ piece
text_more first second bytes piece = behind_more (has_bom (first ∷ second ∷ bytes)) bytes piece (first ∷ second ∷ bytes)

-- one more chunk appends the items of the tail and the chunk, in the order that is then known
pub items_in-append : (order : Option Bool) (front piece : List ℕ)
    → items_in order (front ++ piece) ≡ items_in order front ++ items_in (byte_order_after order front) (tail_in order front ++ piece)
unfolding split_items split_tail
items_in-append (Some big) front piece = split_items-append big front piece
items_in-append None (first ∷ second ∷ bytes) piece = grind (arith, text_more, split_items-append)
items_in-append None front piece = refl

pub tail_in-append : (order : Option Bool) (front piece : List ℕ)
    → tail_in order (front ++ piece) ≡ tail_in (byte_order_after order front) (tail_in order front ++ piece)
unfolding split_items split_tail
tail_in-append (Some big) front piece = split_tail-append big front piece
tail_in-append None (first ∷ second ∷ bytes) piece = grind (arith, text_more, split_tail-append)
tail_in-append None front piece = refl

pub byte_order_after-append : (order : Option Bool) (front piece : List ℕ)
    → byte_order_after order (front ++ piece) ≡ byte_order_after (byte_order_after order front) (tail_in order front ++ piece)
unfolding split_tail
byte_order_after-append None (first ∷ second ∷ bytes) piece = refl
byte_order_after-append order front piece = refl

-- at most one byte has come, with nothing after it: it is pending
first_order : (first : Option ℕ) → byte_order_after None (option_to_list first) ≡ None
first_order None = refl
first_order (Some byte) = refl

module _ (first : Option ℕ) (bytes : List ℕ) (is : bytes ≡ option_to_list first) where
  pub only_items : items_in None bytes ≡ []
  only_items = ap (items_in None) is ∙ first_items first

  pub only_tail : tail_in None bytes ≡ option_to_list first
  only_tail = ap (tail_in None) is ∙ first_tail first

  pub only_order : byte_order_after None bytes ≡ None
  only_order = ap (byte_order_after None) is ∙ first_order first

-- the same, given as facts about an order and pending bytes
module _ (order : Option Bool) (pending piece : List ℕ) (first : Option ℕ) (undecided : order ≡ None) (only : pending ≡ option_to_list first) (none : piece ≡ []) where
  bytes : pending ++ piece ≡ option_to_list first
  bytes = ap (λ p. pending ++ p) none ∙ append-nil pending ∙ only

  pub still_items : items_in order (pending ++ piece) ≡ []
  still_items = ap (λ o. items_in o (pending ++ piece)) undecided ∙ only_items first (pending ++ piece) bytes

  pub still_tail : pending ≡ tail_in order (pending ++ piece)
  still_tail = only ∙ sym (only_tail first (pending ++ piece) bytes) ∙ ap (λ o. tail_in o (pending ++ piece)) (sym undecided)

-- the stream begins with two bytes that are not a BOM
not_begun : (a b first second : ℕ) (rest : List ℕ) → first ∷ second ∷ [] ≢ a ∷ b ∷ [] → begins_with a b (first ∷ second ∷ rest) ≡ false
not_begun a b first second rest other = grind arith

pub no_bom_text : (two rest bytes : List ℕ) → bytes ≡ two ++ rest → length two ≡ 2 → two ≢ 0xFE ∷ 0xFF ∷ [] → two ≢ 0xFF ∷ 0xFE ∷ []
    → (items_in None bytes ≡ split_items true bytes) × (tail_in None bytes ≡ split_tail true bytes)
no_bom_text (first ∷ second ∷ []) rest bytes is long not_big not_little = grind (arith, not_begun)
no_bom_text two rest bytes is long not_big not_little = absurd (omega arith)

pub no_bom_order : (two rest bytes : List ℕ) → bytes ≡ two ++ rest → length two ≡ 2 → two ≢ 0xFF ∷ 0xFE ∷ [] → byte_order_after None bytes ≡ Some true
no_bom_order (first ∷ second ∷ []) rest bytes is long not_little = rw (is, not_begun 0xFF 0xFE first second rest not_little) refl
no_bom_order two rest bytes is long not_little = absurd (omega arith)
