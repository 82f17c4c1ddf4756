-- The prefix of a text that ends at a boundary of its UTF-8.
use Rattle.std.proofs.Common.{◌≡◌, ⊎_elim, ℕ, ◌+◌, ◌<◌, ◌≤◌, Bool, List, [], ◌∷◌, ◌++◌, length, take, drop, encode_utf8_all, sym, ap, ◌∙◌, subst, All, arith, take_at, length-append, length-drop, take-append-drop}
use Rattle.std.proofs.lemmas.Bool.{cases_lt}
use Rattle.std.proofs.lemmas.Str.{IsCharBoundary-past_char, IsUtf8-drop, IsUtf8-take, chars-append, chars-encodes, encodes-chars, len_utf8_bounds}
use Rattle.std.specs.Char.{IsScalar, len_utf8}
use Rattle.std.specs.Str.{IsCharBoundary, IsUtf8, chars}
use Rattle.utf16_units.specs.Encoding.{IsUtf16, encode, size, text_of}
use Rattle.utf16_units.proofs.EncodingLemmas.{All-before, IsUtf16-encode, all_scalars-from_All, encode-append, encode-text_of, length-encode, scalars-text_of, text_of-encode}
use Rattle.utf16_transcode.specs.Transcoded.{TranscodesToUtf8, Writes}

-- the UTF-8 that was written is well formed
pub utf8_given : (big : Bool) (raw utf8 : List ℕ) → TranscodesToUtf8 big raw utf8 → IsUtf8 utf8
utf8_given big raw utf8 gives = (text_of big raw, (all_scalars-from_All (text_of big raw) (scalars-text_of big raw gives.0), sym gives.1))

module _ (utf8 : List ℕ) (end room : ℕ) (valid : IsUtf8 utf8) (at : IsCharBoundary utf8 end) (before : end ≤ room) (long : room < length utf8)
    (nearest : (i : ℕ) → end < i → i ≤ room → ¬ (IsCharBoundary utf8 i)) where
  near : (cs : List ℕ) → encode_utf8_all cs ≡ drop end utf8 → room < end + 4
  near [] none = absurd (omega (arith, length-drop end utf8, ap length none, before, long))
  near (c ∷ more) spelled =
      let size = len_utf8_bounds c in
      let next = IsCharBoundary-past_char utf8 (encode_utf8_all more) end c at.0 (IsUtf8-drop utf8 end valid at) (sym spelled) in
      ⊎_elim (λ (beyond : room < end + len_utf8 c). omega (arith, beyond, size.1))
      (λ (within : end + len_utf8 c ≤ room). absurd (nearest (end + len_utf8 c) (omega (arith, size.0)) within next))
      (cases_lt room (end + len_utf8 c))

  -- the character after the last boundary before an offset ends after the offset, and takes at
  -- most four bytes
  pub boundary_is_near : room < end + 4
  boundary_is_near = let back = IsUtf8-drop utf8 end valid at in near back.0 back.1.1

-- the UTF-16 of the characters before a boundary of the UTF-8
pub prefix_to_utf8 : (big : Bool) (raw utf8 : List ℕ) (end : ℕ) → TranscodesToUtf8 big raw utf8 → IsCharBoundary utf8 end
    → Writes (TranscodesToUtf8 big) raw utf8 (size (chars (take end utf8))) end
prefix_to_utf8 big raw utf8 end gives at =
    let text = text_of big raw in
    let scalars = scalars-text_of big raw gives.0 in
    let valid = utf8_given big raw utf8 gives in
    let front = chars (take end utf8) in
    let back = chars (drop end utf8) in
    let first = IsUtf8-take utf8 end valid at in
    let split : text ≡ front ++ back =
    sym (ap chars gives.1 ∙ chars-encodes text (all_scalars-from_All text scalars)) ∙ ap chars (sym (take-append-drop end utf8)) ∙ chars-append (take end utf8) (drop end utf8) first in
    let parts : raw ≡ encode big front ++ encode big back = sym (encode-text_of big raw gives.0) ∙ ap (encode big) split ∙ encode-append big front back in
    let before = All-before front back (subst (All IsScalar) split scalars) in
    let same : take (size front) raw ≡ encode big front =
    ap (take (size front)) parts ∙ take_at (encode big front) (encode big back) (size front) (length-encode big front) in
    record {
      within = omega (arith, ap length parts, length-append (encode big front) (encode big back), length-encode big front);
      fits = at.0;
      gives = (
        subst (IsUtf16 big) (sym same) (IsUtf16-encode big front before),
        sym (encodes-chars (take end utf8) first) ∙ ap encode_utf8_all (sym (ap (text_of big) same ∙ text_of-encode big front before)),
      );
    }
