-- The text of a part of a chunk: it is UTF-8, its length is bounded, and it is a step of decoding.
use Rattle.std.proofs.Common.{◌≡◌, ℕ, ◌-◌, ◌*◌, ◌≤◌, Bool, List, [], ◌++◌, length, refl, sym, ap, ◌∙◌, append_assoc, arith, length-append}
use Rattle.std.proofs.lemmas.Grind.{elements}
use Rattle.std.proofs.lemmas.List.{nil_from_length}
use Rattle.std.specs.Str.{IsUtf8}
use Rattle.utf16_units.specs.Split.{Item, lossy_chars, split_items, split_tail}
use Rattle.utf16_units.proofs.EncodingLemmas.{all_scalars-from_All}
use Rattle.utf16_units.proofs.FirstChar.{AreBytes}
use Rattle.utf16_units.proofs.ShownLemmas.{split_within}
use Rattle.utf16_units.proofs.SplitLemmas.{Split-computed}
use Rattle.utf16_units.proofs.SplitJoin.{split_items-append}
use Rattle.utf16_transcode.specs.Decodes.{Decodes}
use Rattle.utf16_transcode.proofs.DecodesLemmas.{Decodes-piece, shown}
use Rattle.utf16_transcode.proofs.DecidedLemmas.{decided_scalars}

pub AreBytes-append : (front back : List ℕ) → AreBytes front → AreBytes back → AreBytes (front ++ back)
AreBytes-append front back before behind k = grind (arith, elements, before k, behind (k - length front))

module _ (big : Bool) (bytes : List ℕ) (are : AreBytes bytes) where
  -- the text has at most three bytes for each two bytes decoded
  pub shown_most : 2 * length (shown (split_items big bytes)) ≤ 3 * length bytes
  shown_most = (split_within big bytes (split_items big bytes) (split_tail big bytes) (Split-computed big bytes are)).1

  pub shown_utf8 : IsUtf8 (shown (split_items big bytes))
  shown_utf8 = (lossy_chars (split_items big bytes), (all_scalars-from_All (lossy_chars (split_items big bytes)) (decided_scalars big bytes are), refl))

-- a part and the rest of a chunk
module _ (big : Bool) (pending piece part rest : List ℕ) (joined : piece ≡ part ++ rest) where
  whole : (pending ++ part) ++ rest ≡ pending ++ piece
  whole = append_assoc pending part rest ∙ ap (λ p. pending ++ p) (sym joined)

  -- decoding the part is one step
  pub Decodes-part : (left old new : List ℕ) → left ≡ split_tail big (pending ++ part) → new ≡ old ++ shown (split_items big (pending ++ part))
      → Decodes big (pending ++ piece) (left ++ rest) old new
  Decodes-part left old new is text = grind (arith, whole, Decodes-piece)

  -- if the chunk decodes to nothing, so does the part
  pub part_none : split_items big (pending ++ piece) ≡ [] → split_items big (pending ++ part) ≡ []
  part_none none =
      let both = sym (split_items-append big (pending ++ part) rest) ∙ ap (split_items big) whole ∙ none in
      nil_from_length (split_items big (pending ++ part)) (omega (arith, ap length both, length-append {A = Item}))
