-- UTF-16 in chunks, and the length of a character in UTF-8.
use Rattle.std.proofs.Common.{◌≡◌, ◌≢◌, ℕ, ◌<◌, ◌≤◌, Bool, List, [], ◌∷◌, ◌++◌, length, encode_utf8_all, refl, sym, ap, ap₂, ◌∙◌, arith, append-nil, append_assoc}
use Rattle.std.proofs.lemmas.List.{map-append}
use Rattle.std.proofs.lemmas.Str.{len_utf8_bounds, length-encode}
use Rattle.std.specs.Char.{encode_utf8}
use Rattle.utf16_units.specs.Split.{Item, lossy_char, lossy_chars, lossy_text, split_items, split_tail, whole_lossy_chars}
use Rattle.utf16_units.proofs.SplitJoin.{split_items-append, split_tail-append}
use Rattle.utf16_units.proofs.SplitUnique.{length-split_tail}
use Rattle.utf16_transcode.specs.Decodes.{utf16_split}
use Rattle.utf16_transcode.specs.StreamSplit.{IsSplitInChunks}
use Rattle.utf16_transcode.proofs.DecodesLemmas.{undecided_items}

-- the whole text is the text of the items and then of the tail
pub whole_lossy_chars-is : (items : List Item) (tail : List ℕ) → whole_lossy_chars items tail ≡ lossy_chars items ++ whole_lossy_chars [] tail
whole_lossy_chars-is items [] = sym (append-nil (lossy_chars items))
whole_lossy_chars-is items (first ∷ after) = refl

pub whole_lossy_chars-append : (items more : List Item) (tail : List ℕ) → whole_lossy_chars (items ++ more) tail ≡ lossy_chars items ++ whole_lossy_chars more tail
whole_lossy_chars-append items more tail =
    whole_lossy_chars-is (items ++ more) tail ∙ ap (λ t. t ++ whole_lossy_chars [] tail) (map-append lossy_char items more)
    ∙ append_assoc (lossy_chars items) (lossy_chars more) (whole_lossy_chars [] tail) ∙ ap (λ t. lossy_chars items ++ t) (sym (whole_lossy_chars-is more tail))

-- the text of a tail is U+FFFD, and the text of no tail is empty
pub tail_text : (big : Bool) (rest : List ℕ) → rest ≢ [] → split_tail big rest ≡ rest → lossy_text big rest ≡ 0xFFFD ∷ []
tail_text big rest some same = ap₂ whole_lossy_chars (undecided_items big rest same) same ∙ marks rest some where
  marks : (tail : List ℕ) → tail ≢ [] → whole_lossy_chars [] tail ≡ 0xFFFD ∷ []
  marks [] some = absurd (some refl)
  marks (first ∷ after) some = refl

pub nil_text : (big : Bool) → lossy_text big [] ≡ []
unfolding split_items split_tail
nil_text big = refl

one_at_end : (tail : List ℕ) → length (whole_lossy_chars [] tail) ≤ 1
one_at_end [] = omega arith
one_at_end (first ∷ after) = omega arith

no_tail : (big : Bool) → split_tail big [] ≡ []
unfolding split_tail
no_tail big = refl

pub utf16_chunks : (big : Bool) → IsSplitInChunks (utf16_split big)
utf16_chunks big = record {
  items = split_items-append big;
  tail = split_tail-append big;
  nothing = no_tail big;
  few = length-split_tail big;
  undecided = undecided_items big;
  no_end = refl;
  one = one_at_end;
  whole = λ bytes. whole_lossy_chars-is (split_items big bytes) (split_tail big bytes);
}

pub utf8_short : (c : ℕ) → length (encode_utf8 c) ≤ 4
utf8_short c = omega (arith, length-encode c, len_utf8_bounds c)

-- U+FFFD replaces a tail
pub end_bytes : (tail : List ℕ) → 0 < length tail → 0xEF ∷ 0xBF ∷ 0xBD ∷ [] ≡ encode_utf8_all (whole_lossy_chars [] tail)
unfolding encode_utf8
end_bytes [] some = absurd (omega arith)
end_bytes (first ∷ after) some = refl
