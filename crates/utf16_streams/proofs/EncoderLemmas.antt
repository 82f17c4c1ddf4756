-- The UTF-16 of a stream of UTF-8, and how it continues when more bytes come, with a BOM first and
-- without one.
use Rattle.std.proofs.Common.{◌≡◌, ◌≢◌, ◌⊎◌, ℕ, ◌+◌, ◌*◌, ◌≤◌, Bool, true, false, List, [], ◌∷◌, ◌++◌, Option, Result, length, refl, sym, ap, ap₂, ◌∙◌, arith, append-nil, append_assoc, length-append}
use Rattle.std.proofs.lemmas.List.{length-map, nil_from_length}
use Rattle.utf16_units.specs.Encoding.{encode, size}
use Rattle.utf16_units.proofs.CharLemmas.{char_size_cases}
use Rattle.utf16_units.proofs.EncodingLemmas.{encode-append, encode-nil, length-encode, size-cons, size-nil}
use Rattle.utf8_bytes.specs.Split.{IsTail, decided_text, items_bytes, lossy_char, lossy_chars, lossy_text, split_items, split_tail, whole_lossy_chars}
use Rattle.utf8_bytes.proofs.LawProofs.{cut_anywhere, shown_after, whole_is_lossy}
use Rattle.utf8_bytes.proofs.ShownLemmas.{length-IsTail, replacement_size}
use Rattle.utf8_bytes.proofs.SplitLemmas.{Split-computed}
use Rattle.utf16_transcode.proofs.DecodesUtf8.{undecided_items}
use Rattle.utf16_streams.specs.Continues.{Continues}
use Rattle.utf16_streams.specs.Filter.{FiltersBy}
use Rattle.utf16_streams.specs.declared.filters.FilterFault.{FilterFault}
use Rattle.utf16_streams.specs.Encoder.{certain, decided_utf16, entire, some_with_bom, whole_utf16, with_bom}

pub nothing_waits : split_tail [] ≡ []
unfolding split_tail
nothing_waits = refl

-- so pending bytes are a tail
pub waits : (pending : List ℕ) → split_tail pending ≡ pending → IsTail pending
waits pending same = rw (← same) (Split-computed pending).ends

-- the end of a stream adds at most one U+FFFD
pub end_short : (pending : List ℕ) → size (whole_lossy_chars [] pending) ≤ 2
end_short [] = omega (arith, size-nil)
end_short (first ∷ after) = omega (arith, size-cons 0xFFFD [], size-nil, replacement_size)

-- the most that a chunk adds after a tail
pub text_short : (pending piece : List ℕ) → split_tail pending ≡ pending → size (decided_text (pending ++ piece)) ≤ 2 * length piece + 2
text_short pending piece same = (shown_after pending piece (waits pending same)).0

module _ (big : Bool) where
  -- more bytes are appended
  module _ (front back : List ℕ) where
    decided-append : decided_utf16 big (front ++ back) ≡ decided_utf16 big front ++ decided_utf16 big (split_tail front ++ back)
    decided-append = grind (arith, cut_anywhere, encode-append)

    whole-append : whole_utf16 big (front ++ back) ≡ decided_utf16 big front ++ whole_utf16 big (split_tail front ++ back)
    whole-append =
        ap (encode big) (sym (whole_is_lossy (front ++ back)) ∙ (cut_anywhere front back).1)
        ∙ encode-append big (decided_text front) (lossy_text (split_tail front ++ back))
        ∙ ap (λ t. decided_utf16 big front ++ encode big t) (whole_is_lossy (split_tail front ++ back))

  -- ---- the BOM

  -- the first two bytes decide whether there is a BOM
  with_bom-append : (bytes more : List ℕ) → 2 ≤ length bytes → with_bom big (bytes ++ more) ≡ with_bom big bytes ++ more
  with_bom-append (first ∷ second ∷ bytes) more long = grind (arith, append_assoc)
  with_bom-append bytes more long = absurd (omega (arith, long))

  pub some_with_bom-some : (bytes : List ℕ) → bytes ≢ [] → some_with_bom big bytes ≡ with_bom big bytes
  some_with_bom-some [] some = absurd (some refl)
  some_with_bom-some (first ∷ bytes) some = refl

  with_bom-longer : (bytes : List ℕ) → length bytes ≤ length (with_bom big bytes)
  with_bom-longer bytes = grind (arith, length-append)

  -- a text that is not empty has at least two bytes
  encoded_long : (text : List ℕ) → encode big text ≢ [] → 2 ≤ length (encode big text)
  encoded_long [] some = absurd (some (encode-nil big))
  encoded_long (c ∷ text) some = omega (arith, length-encode big (c ∷ text), size-cons c text, char_size_cases c)

  -- ---- one more chunk after pending bytes

  module _ (due : Bool) (pending piece kept : List ℕ) (is : kept ≡ split_tail (pending ++ piece)) where
    abbrev added : List ℕ
    added = decided_utf16 big (pending ++ piece)

    adds : (back : List ℕ) → decided_utf16 big (pending ++ (piece ++ back)) ≡ added ++ decided_utf16 big (kept ++ back)
    adds back = grind (arith, append_assoc, decided-append)

    ends : (back : List ℕ) → whole_utf16 big (pending ++ (piece ++ back)) ≡ added ++ whole_utf16 big (kept ++ back)
    ends back = grind (arith, append_assoc, whole-append)

    -- no BOM is due, or the chunk adds nothing
    pub Continues-same : (due ≡ false) ⊎ (added ≡ []) → Continues (λ b. certain due big (pending ++ b)) (λ b. entire due big (pending ++ b))
        (λ b. certain due big (kept ++ b)) (λ b. entire due big (kept ++ b)) piece
    Continues-same = grind (arith, adds, ends)

    pub certain-same : (due ≡ false) ⊎ (added ≡ []) → added ≡ certain due big (pending ++ piece)
    certain-same = grind (arith)

    -- the BOM is due, and comes before what the chunk adds
    module _ (first : due ≡ true) (some : added ≢ []) where
      begun : some_with_bom big added ≡ with_bom big added
      begun = some_with_bom-some added some

      longer : (more : List ℕ) → added ++ more ≢ []
      longer more none = some (nil_from_length added (omega (arith, length-append added more, ap length none)))

      pub certain-begun : with_bom big added ≡ certain due big (pending ++ piece)
      certain-begun = sym begun ∙ ap (λ d. certain d big (pending ++ piece)) (sym first)

      Continues-first : Continues (λ b. certain true big (pending ++ b)) (λ b. entire true big (pending ++ b)) (λ b. certain false big (kept ++ b))
          (λ b. entire false big (kept ++ b)) piece
      Continues-first = grind (arith, encoded_long, adds, some_with_bom-some, longer, with_bom-append, begun, ends)

      pub Continues-begun : (later : Bool) → later ≡ false → Continues (λ b. certain due big (pending ++ b)) (λ b. entire due big (pending ++ b))
          (λ b. certain later big (kept ++ b)) (λ b. entire later big (kept ++ b)) piece
      Continues-begun later over = rw (first, over) Continues-first

  -- ---- pending bytes, with nothing after them and at the end of the stream

  module _ (due : Bool) (pending : List ℕ) (same : split_tail pending ≡ pending) where
    undecided : decided_utf16 big (pending ++ []) ≡ []
    undecided = ap (decided_utf16 big) (append-nil pending) ∙ ap (λ i. encode big (lossy_chars i)) (undecided_items pending same) ∙ encode-nil big

    pub certain-none : certain due big (pending ++ []) ≡ []
    certain-none = grind (arith, undecided)

    pub whole-end : whole_utf16 big (pending ++ []) ≡ encode big (whole_lossy_chars [] pending)
    whole-end =
        ap (whole_utf16 big) (append-nil pending)
        ∙ ap (encode big) (sym (whole_is_lossy pending) ∙ ap₂ (λ i t. whole_lossy_chars i t) (undecided_items pending same) same)

  -- ---- eight bytes

  module _ (due : Bool) (pending bytes : List ℕ) (eight : 8 ≤ length bytes) where
    long : 8 ≤ length (pending ++ bytes)
    long = omega (arith, eight, length-append pending bytes)

    items : split_items (pending ++ bytes) ≢ []
    items none =
        let split = Split-computed (pending ++ bytes) in
        let tail : split_tail (pending ++ bytes) ≡ pending ++ bytes = ap (λ i. items_bytes i ++ split_tail (pending ++ bytes)) (sym none) ∙ split.spelled in
        absurd (omega (arith, long, ap length tail, length-IsTail (split_tail (pending ++ bytes)) split.ends))

    decides : decided_utf16 big (pending ++ bytes) ≢ []
    decides none =
        let empty = nil_text (decided_text (pending ++ bytes)) none in
        items (nil_from_length (split_items (pending ++ bytes)) (omega (arith, ap length empty, length-map (split_items (pending ++ bytes)) lossy_char))) where
          nil_text : (text : List ℕ) → encode big text ≡ [] → text ≡ []
          nil_text [] none = refl
          nil_text (c ∷ text) none = absurd (omega (arith, ap length none, length-encode big (c ∷ text), size-cons c text, char_size_cases c))

    pub certain-some : certain due big (pending ++ bytes) ≢ []
    certain-some = by_due due where
      by_due : (now : Bool) → certain now big (pending ++ bytes) ≢ []
      by_due false none = decides none
      by_due true none =
          let d = decided_utf16 big (pending ++ bytes) in
          decides (nil_from_length d (omega (arith, with_bom-longer d, ap length (sym (some_with_bom-some d decides) ∙ none))))

  -- what a filter did with a transcoder at the beginning of its stream
  pub from_start : (due now : Bool) (pending : List ℕ) (input left old new : Option (List ℕ)) (result : Result (Unit {0}) FilterFault)
      → now ≡ due → pending ≡ [] → FiltersBy (λ b. certain now big (pending ++ b)) (λ b. entire now big (pending ++ b)) input left old new result
      → FiltersBy (certain due big) (entire due big) input left old new result
  from_start due now pending input left old new result told none filters = grind (arith)
