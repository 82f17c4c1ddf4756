-- The text of a file's parts, one after another.
use Rattle.std.proofs.Common.{◌≡◌, ⊎_elim, ℕ, ◌+◌, ◌<◌, ◌≤◌, Bool, false, List, [], ◌∷◌, ◌++◌, All, nat_lt, encode_utf8_all, length, drop, slice_index, sym, ap, ◌∙◌, arith, append-nil, append_assoc}
use Rattle.std.proofs.lemmas.Bool.Decides.{nat_tests}
use Rattle.std.proofs.lemmas.List.{drop_all, drop_more, take_rest}
use Rattle.std.proofs.lemmas.List.Concat.{flat_map-append}
use Rattle.std.specs.Char.{encode_utf8}
use Rattle.std.specs.List.{flat_map, slice_range}
use Rattle.std.specs.List.Sorted.{IsSortedBy}
use Rattle.utf16_streams.specs.Split.{lossy_text}
use Rattle.utf16_bytes.specs.Boundary.{IsBetween, IsCut}
use Rattle.utf16_units.specs.Cuts.{parts, parts_from}

-- a boundary is in the file or at its end
pub IsCut-within : (big : Bool) (file : List ℕ) (at : ℕ) → IsCut big file at → at ≤ length file
IsCut-within big file at cut = ⊎_elim (λ (end : at ≡ length file). omega (arith, end)) (λ (between : IsBetween big file at). omega (arith, between.0)) cut

-- the text of parts in UTF-8
abbrev pub text_of : Bool → List (List ℕ) → List ℕ
text_of big bytes = encode_utf8_all (flat_map (lossy_text big) bytes)

text_of-first : (big : Bool) (part : List ℕ) (bytes : List (List ℕ)) → text_of big (part ∷ bytes) ≡ encode_utf8_all (lossy_text big part) ++ text_of big bytes
text_of-first big part bytes = flat_map-append encode_utf8 (lossy_text big part) (flat_map (lossy_text big) bytes)

-- after k parts, up to an offset: their text, and the next offset is not before it
pub record Joined (big : Bool) (file starts : List ℕ) (k from : ℕ) (text : List ℕ) : Type 0 where
  pub rest : text_of big (parts file starts) ≡ text ++ text_of big (parts_from file from (drop k starts))
  pub within : from ≤ length file
  pub before : k < length starts → from ≤ slice_index starts k

pub Joined-none : (big : Bool) (file starts text : List ℕ) → text ≡ [] → Joined big file starts 0 0 text
Joined-none big file starts text none = record {
  rest = ap (λ t. t ++ text_of big (parts file starts)) (sym none);
  within = omega arith;
  before = λ some. omega arith;
}

module _ (big : Bool) (file starts : List ℕ) (k from : ℕ) (text next : List ℕ) (so_far : Joined big file starts k from text) where
  pub Joined-more : k < length starts → IsSortedBy nat_lt starts → All (IsCut big file) starts
      → next ≡ text ++ encode_utf8_all (lossy_text big (slice_range file from (slice_index starts k)))
      → Joined big file starts (k + 1) (slice_index starts k) next
  Joined-more inside ascend cuts grown =
      let at = slice_index starts k in
      let part = slice_range file from at in
      let after = text_of big (parts_from file at (drop (k + 1) starts)) in record {
        rest =
            so_far.rest
            ∙ ap (λ s. text ++ text_of big (parts_from file from s)) (drop_more starts k 0 inside)
            ∙ ap (λ t. text ++ t) (text_of-first big part (parts_from file at (drop (k + 1) starts)))
            ∙ sym (append_assoc text (encode_utf8_all (lossy_text big part)) after)
            ∙ ap (λ t. t ++ after) (sym grown);
        within = IsCut-within big file at (cuts k 0 inside);
        before = λ more. let step : nat_lt (slice_index starts (k + 1)) at ≡ false = ascend k 0 (omega arith) more in grind (arith, nat_tests);
      }

  pub Joined-all : length starts ≤ k → next ≡ text ++ encode_utf8_all (lossy_text big (slice_range file from (length file))) → next ≡ text_of big (parts file starts)
  Joined-all past grown =
      grown
      ∙ ap (λ t. text ++ encode_utf8_all (lossy_text big t)) (take_rest file from)
      ∙ ap (λ t. text ++ encode_utf8_all t) (sym (append-nil (lossy_text big (drop from file))))
      ∙ ap (λ s. text ++ text_of big (parts_from file from s)) (sym (drop_all k starts past))
      ∙ sym so_far.rest
