-- A stream of UTF-8 that comes in chunks: what is pending, and how much space suffices.
use Rattle.std.proofs.Common.{◌≡◌, ℕ, ◌+◌, ◌*◌, ◌<◌, ◌≤◌, Bool, List, [], ◌∷◌, ◌++◌, length, drop, refl, sym, ap, ◌∙◌, subst, arith, append-nil, flat_map, length-append, ⊎_elim}
use Rattle.std.proofs.lemmas.List.{append_cancel_right}
use Rattle.utf16_units.specs.Encoding.{char_bytes, size}
use Rattle.utf16_units.proofs.CharLemmas.{char_size_cases, length-char_bytes}
use Rattle.utf16_units.proofs.EncodingLemmas.{length-encode}
use Rattle.utf8_bytes.specs.Split.{IsTail, Item, Split, decided_text, item_bytes, items_bytes, lossy_chars, split_items, split_tail, whole_lossy_chars}
use Rattle.utf8_bytes.proofs.AfterLemmas.{tail_first}
use Rattle.utf8_bytes.proofs.BeginsLemmas.{no_bytes}
use Rattle.utf8_bytes.proofs.LawProofs.{shown_after, shown_within}
use Rattle.utf8_bytes.proofs.LossyLemmas.{lossy_text-is}
use Rattle.utf8_bytes.proofs.SplitLemmas.{Split-computed, Split-nil}
use Rattle.utf8_bytes.proofs.SplitUnique.{Split-unique, split_items-append, split_tail-append}
use Rattle.utf8_bytes.proofs.TableLemmas.{tail_nil}
use Rattle.utf16_transcode.specs.StreamSplit.{IsSplitInChunks}
use Rattle.utf16_transcode.specs.declared.progress.Stop.{Stop}
use Rattle.utf16_transcode.specs.declared.progress.Stop.TheVariants.{Incomplete, Done, IllFormed, NoSpace}
use Rattle.utf16_transcode.specs.Utf8Stream.{FeedsUtf8, utf8_split}
use Rattle.utf16_transcode.proofs.DecodesUtf8.{flat_encode, length-split_tail, taken_bytes, undecided_items}
use Rattle.utf16_transcode.specs.Stream.{StopsFeeding}

-- a stream of UTF-8 may come in chunks
no_tail : split_tail [] ≡ []
no_tail = sym (Split-unique [] [] [] (Split-nil [] tail_nil)).1

one_at_end : (tail : List ℕ) → length (whole_lossy_chars [] tail) ≤ 1
one_at_end [] = omega arith
one_at_end (first ∷ after) = omega arith

-- the whole text is the text of the items and then of the tail
whole_is_both : (items : List Item) (tail : List ℕ) → whole_lossy_chars items tail ≡ lossy_chars items ++ whole_lossy_chars [] tail
whole_is_both items [] = sym (append-nil (lossy_chars items))
whole_is_both items (first ∷ after) = refl

pub utf8_chunks : IsSplitInChunks utf8_split
utf8_chunks = record {
  items = split_items-append;
  tail = split_tail-append;
  nothing = no_tail;
  few = length-split_tail;
  undecided = undecided_items;
  no_end = refl;
  one = one_at_end;
  whole = λ bytes. sym (lossy_text-is bytes) ∙ whole_is_both (split_items bytes) (split_tail bytes);
}

-- a character has two or four bytes in UTF-16
pub utf16_short : (big : Bool) (c : ℕ) → length (char_bytes big c) ≤ 4
utf16_short big c = ⊎_elim
    (λ (two : _). omega (arith, length-char_bytes big c, two))
    (λ (four : _). omega (arith, length-char_bytes big c, four))
    (char_size_cases c)

-- the length of a text in UTF-16
pub flat_size : (big : Bool) (text : List ℕ) → length (flat_map (char_bytes big) text) ≡ size text
flat_size big text = ap length (sym (flat_encode big text)) ∙ length-encode big text

-- U+FFFD replaces a tail
pub end_text : (tail : List ℕ) → 0 < length tail → whole_lossy_chars [] tail ≡ 0xFFFD ∷ []
end_text [] some = absurd (omega arith)
end_text (first ∷ after) some = refl

-- ---- capacities that suffice for all of a chunk

-- what is pending after a call that took all of a chunk is a tail
pub pending_is_tail : (pending bytes : List ℕ) → pending ≡ split_tail bytes → IsTail pending
pending_is_tail pending bytes is = subst IsTail (sym is) (Split-computed bytes).ends

-- after a tail, two bytes for each byte of the chunk, and two more
pub enough_after_tail : (pending piece : List ℕ) (room : ℕ) → IsTail pending → 2 * length piece + 2 ≤ room → size (decided_text (pending ++ piece)) ≤ room
enough_after_tail pending piece room tail fits = omega (arith, (shown_after pending piece tail).0, fits)

-- after any pending bytes, two for each byte of both
pub enough_after_any : (pending piece : List ℕ) (room : ℕ) → 2 * (length pending + length piece) ≤ room → size (decided_text (pending ++ piece)) ≤ room
enough_after_any pending piece room fits = omega (arith, (shown_within (pending ++ piece)).2, length-append pending piece, fits)

-- whatever the reason that a call stopped, what it leaves pending of a tail is a tail: all of the
-- tail is in the first item
pub leaves_tail : (big : Bool) (pending piece left to : List ℕ) (read written room : ℕ) (stop : Stop) → IsTail pending → FeedsUtf8 big pending piece left to read written
    → StopsFeeding utf8_split (char_bytes big) pending piece left read room stop → IsTail left
leaves_tail big pending piece left to read written room Done tail feeds here = pending_is_tail left (pending ++ piece) here.1
leaves_tail big pending piece left to read written room (IllFormed len) tail feeds here = absurd here
leaves_tail big pending piece left to read written room Incomplete tail feeds here = absurd here
leaves_tail big pending piece left to read written room NoSpace tail feeds here = ⊎_elim (λ (zero : read ≡ 0). unread zero) (λ (none : left ≡ []). subst IsTail (sym none) tail_nil) here.0 where
  by_taken : (taken : List Item) → items_bytes taken ++ (left ++ piece) ≡ pending ++ piece → split_items (pending ++ piece) ≡ taken ++ split_items (left ++ piece) → IsTail left
  by_taken [] bytes items = subst IsTail (sym (append_cancel_right left pending piece bytes)) tail
  by_taken (item ∷ taken) bytes items =
      let split = subst (λ i. Split (pending ++ piece) i (split_tail (pending ++ piece))) items (Split-computed (pending ++ piece)) in
      let first = tail_first pending piece item (taken ++ split_items (left ++ piece)) (split_tail (pending ++ piece)) tail split in
      let all = ap length bytes in
      let front = length-append (item_bytes item) (items_bytes taken) in
      let parts = length-append (items_bytes (item ∷ taken)) (left ++ piece) in
      let last = length-append left piece in
      let both = length-append pending piece in
      subst IsTail (sym (no_bytes left (omega arith))) tail_nil

  unread : read ≡ 0 → IsTail left
  unread zero =
      let same : left ++ drop read piece ≡ left ++ piece = ap (λ k. left ++ drop k piece) zero in
      let taken = feeds.decodes.taken in
      by_taken taken
      (ap (λ r. items_bytes taken ++ r) (sym same) ∙ taken_bytes (pending ++ piece) (left ++ drop read piece) taken feeds.decodes.items feeds.decodes.tail)
      (feeds.decodes.items ∙ ap (λ r. taken ++ split_items r) same)
