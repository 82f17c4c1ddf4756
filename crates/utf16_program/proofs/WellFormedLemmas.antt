-- Bytes are well formed exactly if their split has no ill-formed sequence.
use Rattle.std.proofs.Common.{◌≡◌, ℕ, ◌+◌, Bool, List, [], ◌∷◌, ◌++◌, map, refl, sym, ap, ◌∙◌, subst, arith, append-nil}
use Rattle.std.proofs.lemmas.List.Elements.{All-nil, All-cons, All-head, All-tail}
use Rattle.std.specs.Prelude.{All, count_by}
use Rattle.std.specs.Char.{IsScalar}
use Rattle.utf16_units.specs.Encoding.{IsUtf16, encode, text_of}
use Rattle.utf16_units.specs.Split.{IsItem, Item, good, items_bytes, lone_lead, lone_trail, lossy_chars, split_items, split_tail}
use Rattle.utf16_units.proofs.EncodingLemmas.{Encodes-text_of, IsUtf16-encode}
use Rattle.utf16_units.proofs.FirstChar.{AreBytes}
use Rattle.utf16_units.proofs.RecipeLemmas.{split_text}
use Rattle.utf16_units.proofs.SplitLemmas.{Split-computed}
use Rattle.utf16_program.specs.Report.{is_ill_formed, tail_ill_formed}
use Rattle.utf16_program.proofs.ItemLemmas.{count-cons, ill_formed-good, items_bytes-good}

-- items without an unpaired surrogate are characters
all_good : (items : List Item) → count_by is_ill_formed items ≡ 0 → items ≡ map good (lossy_chars items)
all_good [] none = refl
all_good (good c ∷ items) none = ap (λ i. good c ∷ i) (all_good items (omega (arith, count-cons is_ill_formed (good c) items)))
all_good (lone_trail unit ∷ items) none = absurd (omega (arith, count-cons is_ill_formed (lone_trail unit) items))
all_good (lone_lead unit ∷ items) none = absurd (omega (arith, count-cons is_ill_formed (lone_lead unit) items))

all_scalar : (text : List ℕ) → All IsItem (map good text) → All IsScalar text
all_scalar [] all = All-nil IsScalar
all_scalar (c ∷ text) all = All-cons IsScalar c text (All-head IsItem (good c) (map good text) all) (all_scalar text (All-tail IsItem (good c) (map good text) all))

no_tail : (tail : List ℕ) → tail_ill_formed tail ≡ 0 → tail ≡ []
no_tail [] none = refl
no_tail (first ∷ after) none = absurd (omega arith)

module _ (big : Bool) (bytes : List ℕ) where
  pub none_ill_formed : AreBytes bytes → count_by is_ill_formed (split_items big bytes) + tail_ill_formed (split_tail big bytes) ≡ 0 → IsUtf16 big bytes
  none_ill_formed are none =
      let s = Split-computed big bytes are in
      let items = split_items big bytes in
      let text = lossy_chars items in
      let is : items ≡ map good text = all_good items (omega arith) in
      let tail : split_tail big bytes ≡ [] = no_tail (split_tail big bytes) (omega arith) in
      let scalars : All IsScalar text = all_scalar text (subst (All IsItem) is s.made) in
      let spelled : encode big text ≡ bytes = sym (items_bytes-good big text) ∙ ap (items_bytes big) (sym is) ∙ sym (append-nil (items_bytes big items))
      ∙ ap (λ t. items_bytes big items ++ t) (sym tail) ∙ s.spelled in
      subst (IsUtf16 big) spelled (IsUtf16-encode big text scalars)

  pub well_formed : IsUtf16 big bytes → count_by is_ill_formed (split_items big bytes) + tail_ill_formed (split_tail big bytes) ≡ 0
  well_formed text =
      let split = split_text big (text_of big bytes) bytes (Encodes-text_of big bytes text) in
      omega (arith, ap (count_by is_ill_formed) split.0, ill_formed-good (text_of big bytes), ap tail_ill_formed split.1)
