-- How many ill-formed sequences UTF-8 has: at an error, for a text, and for bytes with none.
use Rattle.std.proofs.Common.{◌≡◌, ◌↔◌, ℕ, suc, ◌+◌, List, [], ◌∷◌, ◌++◌, None, Some, map, take, drop, refl, sym, ap, ap₂, ◌∙◌, arith, append-nil, length-drop}
use Rattle.std.specs.Str.{IsUtf8, IsValidUpTo, chars}
use Rattle.std.specs.Str.Lossy.{utf8_error_len}
use Rattle.utf16_units.specs.Recipe.{incomplete, resumed, valid}
use Rattle.utf8_bytes.specs.Recipe.{Recipe}
use Rattle.utf8_bytes.specs.Split.{Item, good, ill, split_items}
use Rattle.utf8_bytes.proofs.RecipeLemmas.{utf8_recipe}
use Rattle.utf8_bytes.proofs.SplitIllFormed.{split_items-fault, split_items-incomplete, split_tail-fault, split_tail-incomplete}
use Rattle.utf8_bytes.proofs.TextLemmas.{split_text}
use Rattle.utf16_transcode.specs.Replaced.{cut_off, ill_formed_utf8_count, ill_items}
use Rattle.utf16_transcode.proofs.CountLemmas.{cut_off-some}

-- characters do not count
ill_items-good : (text : List ℕ) (items : List Item) → ill_items (map good text ++ items) ≡ ill_items items
unfolding ill_items
ill_items-good [] items = refl
ill_items-good (c ∷ text) items = ill_items-good text items

ill_items-ill : (part : List ℕ) (items : List Item) → ill_items (ill part ∷ items) ≡ suc (ill_items items)
unfolding ill_items
ill_items-ill part items = refl

text_none : (text : List ℕ) → ill_items (map good text) ≡ 0
unfolding ill_items
text_none text = ap ill_items (sym (append-nil (map good text))) ∙ ill_items-good text []

pub count_text : (bytes : List ℕ) → IsUtf8 bytes → ill_formed_utf8_count bytes ≡ 0
count_text bytes is =
    let split = split_text bytes is in
    ap₂ (λ i t. ill_items i + cut_off t) split.0 split.1 ∙ omega (arith, text_none (chars bytes))

module _ (bytes : List ℕ) (n : ℕ) (at : IsValidUpTo bytes n) where
  pub count_fault : (len : ℕ) → utf8_error_len (drop n bytes) ≡ Some len → ill_formed_utf8_count bytes ≡ suc (ill_formed_utf8_count (drop (n + len) bytes))
  count_fault len error =
      let after = split_items (drop (n + len) bytes) in
      let part = take len (drop n bytes) in
      let split = ap₂ (λ i t. ill_items i + cut_off t) (split_items-fault bytes n at len error) (split_tail-fault bytes n at len error) in
      omega (arith, split, ill_items-good (chars (take n bytes)) (ill part ∷ after), ill_items-ill part after)

  pub count_cut_off : utf8_error_len (drop n bytes) ≡ None → ill_formed_utf8_count bytes ≡ 1
  count_cut_off error =
      let short = at.short in
      let some = cut_off-some (drop n bytes) (omega (arith, length-drop n bytes)) in
      ap₂ (λ i t. ill_items i + cut_off t) (split_items-incomplete bytes n at error) (split_tail-incomplete bytes n at error)
      ∙ omega (arith, text_none (chars (take n bytes)), some)

none_by : {bytes text kept : List ℕ} → Recipe bytes text kept → ill_formed_utf8_count bytes ≡ 0 → IsUtf8 bytes
none_by (valid bytes text e) none = e.0
none_by (resumed bytes front text kept n len at e rest) none = absurd (omega (arith, count_fault bytes n at.0 len at.1, none))
none_by (incomplete bytes front n at e) none = absurd (omega (arith, count_cut_off bytes n at.0 at.1, none))

-- there is none exactly if the bytes are a text
pub count_none : (bytes : List ℕ) → (ill_formed_utf8_count bytes ≡ 0) ↔ IsUtf8 bytes
count_none bytes = (none_by (utf8_recipe bytes), count_text bytes)
