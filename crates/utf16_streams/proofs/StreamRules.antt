-- Rules for a reader of a stream, chunk by chunk: the characters that the bytes decide, and the
-- text so far with the pending bytes.
use Rattle.std.proofs.Common.{arith, rules, ◌≡◌, ◌≢◌, ◌++◌, ℕ, ◌+◌, ◌<◌, ◌≤◌, Bool, true, false, List, [], ◌∷◌, Option, None, Some, Result, Ok, Err, All, drop, if◌then◌else◌, get_or, flat_map, length, take, take_all, append-nil, length-append, chars, encode_utf8_all, refl, sym, ap, ◌∙◌, subst}
use Rattle.std.proofs.lemmas.Grind.{flat_map-append, take_at_read}
use Rattle.std.proofs.lemmas.List.{map-append}
use Rattle.std.proofs.lemmas.List.Elements.{All-append, All-cons, All-drop, All-nil}
use Rattle.std.proofs.lemmas.List.Sums.{sum_by-append}
use Rattle.std.proofs.lemmas.Result.{IfOk-weaker}
use Rattle.std.specs.Prelude.{IfOk, OnOk, Vec, vec_items}
use Rattle.std.specs.Char.{IsScalar}
use Rattle.utf16_units.specs.declared.byte_order.Utf16Order.{Ghosts}
use Rattle.utf16_units.specs.Split.{Item, lossy_chars, split_items, split_tail, whole_lossy_chars}
use Rattle.utf16_units.proofs.FirstChar.{AreBytes-from_All}
use Rattle.utf16_units.proofs.LawProofs.{utf8_back}
use Rattle.utf16_units.proofs.SplitJoin.{split_items-append, split_tail-append}
use Rattle.utf16_streams.specs.declared.lossy.Lossy.{Lossy}
use Rattle.utf16_streams.specs.Bom.{big_in, has_bom, items_in, text_in}
use Rattle.utf16_streams.specs.Lossy.{lossy_pending}
use Rattle.utf16_transcode.proofs.DecidedLemmas.{decided_scalars}
use Rattle.utf16_transcode.proofs.StreamLemmas.{joined-more}

abbrev pub IsByte : ℕ → Type 0
IsByte b = b < 256

-- the bytes of the chunks of a stream: with one more chunk, and all of them
module _ {X : Type 0} (of : X → List ℕ) (pieces : List X) (i : ℕ) where
  pub bytes-more : (piece : X) → i < length pieces → piece ≡ get_or pieces i piece
      → All IsByte (flat_map of (take i pieces)) → All IsByte (of piece) → All IsByte (flat_map of (take (i + 1) pieces))
  bytes-more piece within is so_far are = subst (All IsByte) (sym (joined-more of pieces i piece within is)) (All-append IsByte _ _ so_far are)

  pub bytes-all : length pieces ≤ i → All IsByte (flat_map of (take i pieces)) → All IsByte (flat_map of pieces)
  bytes-all past so_far = subst (λ p. All IsByte (flat_map of p)) (take_all i pieces past) so_far

-- ---- the characters of the strings that a call returns

-- the characters of items, and all characters of the whole text, are scalar values
full_scalar : (items : List Item) (tail : List ℕ) → All IsScalar (lossy_chars items) → All IsScalar (whole_lossy_chars items tail)
full_scalar items [] scalars = scalars
full_scalar items (first ∷ after) scalars = search (rules, All-append, All-cons, All-nil)

module _ (big : Bool) (bytes : List ℕ) (are : All IsByte bytes) where
  pub scalars_lossy : All IsScalar (lossy_chars (split_items big bytes))
  scalars_lossy = decided_scalars big bytes (AreBytes-from_All bytes are)

  pub scalars_full : All IsScalar (whole_lossy_chars (split_items big bytes) (split_tail big bytes))
  scalars_full = full_scalar (split_items big bytes) (split_tail big bytes) scalars_lossy

  -- so decoding their UTF-8 gives these characters
  pub chars_marked : (utf8 : List ℕ) → utf8 ≡ encode_utf8_all (lossy_chars (split_items big bytes)) → chars utf8 ≡ lossy_chars (split_items big bytes)
  chars_marked utf8 is = ap chars is ∙ utf8_back (lossy_chars (split_items big bytes)) scalars_lossy

  pub chars_full : (utf8 : List ℕ) → utf8 ≡ encode_utf8_all (whole_lossy_chars (split_items big bytes) (split_tail big bytes)) → chars utf8 ≡ whole_lossy_chars (split_items big bytes) (split_tail big bytes)
  chars_full utf8 is = ap chars is ∙ utf8_back (whole_lossy_chars (split_items big bytes) (split_tail big bytes)) scalars_full

-- the same for bytes whose byte order a BOM may give
behind_are : (lossy_chars : Bool) (bytes : List ℕ) → All IsByte bytes → All IsByte (if lossy_chars then drop 2 bytes else bytes)
behind_are true bytes are = All-drop IsByte 2 bytes are
behind_are false bytes are = are

text_are : (order : Option Bool) (bytes : List ℕ) → All IsByte bytes → All IsByte (text_in order bytes)
text_are (Some big) bytes are = are
text_are None bytes are = behind_are (has_bom bytes) bytes are

-- the same for what a call returns
module _ {T X : Type 0} (big : Bool) (bytes : List ℕ) (r : Result T X) (utf8 : T → List ℕ) where
  pub chars_of : All IsByte bytes → IfOk r (λ s. utf8 s ≡ encode_utf8_all (lossy_chars (split_items big bytes)))
      → IfOk r (λ s. chars (utf8 s) ≡ lossy_chars (split_items big bytes))
  chars_of are text = grind (arith, IfOk-weaker, chars_marked)

pub chars_of_any : {T X : Type 0} (order : Option Bool) (bytes : List ℕ) (r : Result T X) (utf8 : T → List ℕ) → All IsByte bytes
    → IfOk r (λ s. utf8 s ≡ encode_utf8_all (lossy_chars (items_in order bytes))) → IfOk r (λ s. chars (utf8 s) ≡ lossy_chars (items_in order bytes))
chars_of_any order bytes r utf8 are text = chars_of (big_in order bytes) (text_in order bytes) r utf8 (text_are order bytes are) text

pub chars_of_whole : {T X : Type 0} (big : Bool) (bytes : List ℕ) (r : Result T X) (utf8 : T → List ℕ) → OnOk r (All IsByte bytes)
    → IfOk r (λ s. utf8 s ≡ encode_utf8_all (whole_lossy_chars (split_items big bytes) (split_tail big bytes)))
    → IfOk r (λ s. chars (utf8 s) ≡ whole_lossy_chars (split_items big bytes) (split_tail big bytes))
chars_of_whole big bytes (Ok s) utf8 are text = chars_full big bytes are (utf8 s) text
chars_of_whole big bytes (Err e) utf8 are text = tt

-- ---- a loop over the chunks of a stream

-- bytes that were read: a fact about the text that they decide, and which of them are pending
pub record Reads (big : Bool) (bytes kept : List ℕ) (Of : List ℕ → Type 0) : Type 0 where
  pub text : Of (lossy_chars (split_items big bytes))
  pub tail : kept ≡ split_tail big bytes

-- before the first byte comes
pub Reads-start : (big : Bool) (kept : List ℕ) (Of : List ℕ → Type 0) → kept ≡ [] → Of [] → Reads big [] kept Of
unfolding split_items split_tail
Reads-start big kept Of none text = record { text = text; tail = none }

module _ (big : Bool) (bytes kept : List ℕ) (Of : List ℕ → Type 0) (so_far : Reads big bytes kept Of) where
  -- one more chunk: the pending bytes and the chunk decide what follows, and leave what is pending
  module _ (Next : List ℕ → Type 0) (piece left : List ℕ) (step : (text : List ℕ) → Of text → Next (text ++ lossy_chars (split_items big (kept ++ piece)))) (after : left ≡ split_tail big (kept ++ piece)) where
    joined : lossy_chars (split_items big (bytes ++ piece)) ≡ lossy_chars (split_items big bytes) ++ lossy_chars (split_items big (kept ++ piece))
    joined = grind (arith, split_items-append, map-append)

    pub Reads-piece : Reads big (bytes ++ piece) left Next
    Reads-piece = grind (arith, joined, split_tail-append)

  -- the end of the stream: if nothing is pending, the text is whole; otherwise one U+FFFD ends it
  pub Reads-none : kept ≡ [] → Of (whole_lossy_chars (split_items big bytes) (split_tail big bytes))
  Reads-none none = subst (λ t. Of (whole_lossy_chars (split_items big bytes) t)) (sym none ∙ so_far.tail) so_far.text

  pub Reads-some : (Next : List ℕ → Type 0) → kept ≢ [] → ((text : List ℕ) → Of text → Next (text ++ 0xFFFD ∷ [])) → Next (whole_lossy_chars (split_items big bytes) (split_tail big bytes))
  Reads-some Next some step = grind (arith)

-- the same for a list of chunks, of which the first `i` were read
module _ {X : Type 0} (of : X → List ℕ) (pieces : List X) (i : ℕ) (big : Bool) (kept : List ℕ) (Of : List ℕ → Type 0) (so_far : Reads big (flat_map of (take i pieces)) kept Of) where
  pub Reads-more : (piece : X) (given left : List ℕ) (Next : List ℕ → Type 0) → i < length pieces → piece ≡ get_or pieces i piece → given ≡ of piece
      → ((text : List ℕ) → Of text → Next (text ++ lossy_chars (split_items big (kept ++ given)))) → left ≡ split_tail big (kept ++ given)
      → Reads big (flat_map of (take (i + 1) pieces)) left Next
  Reads-more piece given left Next within is same step after =
      subst (λ b. Reads big b left Next) (ap (λ p. flat_map of (take i pieces) ++ p) same ∙ sym (joined-more of pieces i piece within is))
      (Reads-piece big (flat_map of (take i pieces)) kept Of so_far Next given left step after)

  pub Reads-all : length pieces ≤ i → Reads big (flat_map of pieces) kept Of
  Reads-all past = subst (λ p. Reads big (flat_map of p) kept Of) (take_all i pieces past) so_far

-- the same for a list of chunks, of which a `Lossy` has taken the first `i`
module _ {E Z : Type 0} {order : Ghosts E} where
  abbrev pub ReadsPieces : List (Vec ℕ Z) → ℕ → Lossy E order → (List ℕ → Type 0) → Type 0
  ReadsPieces pieces i decoder Of = Reads order.BIG (flat_map vec_items (take i pieces)) (lossy_pending decoder) Of

pub items_none : (big : Bool) → split_items big [] ≡ []
unfolding split_items
items_none big = refl

pub tail_none : (big : Bool) → split_tail big [] ≡ []
unfolding split_tail
tail_none big = refl

-- rules for such a loop, if the fact consists of equations about lengths, sums and counts of the
-- text
pub ruleset streams = (items_none, tail_none, split_items-append, split_tail-append, take_all, take_at_read, flat_map-append, append-nil, map-append, length-append, sum_by-append)
