-- The text of a chunk of UTF-8 as UTF-16, and of the parts of a chunk.
use Rattle.std.proofs.Common.{◌≡◌, ◌+◌, ◌≤◌, ℕ, Bool, List, [], ◌∷◌, ◌++◌, All, flat_map, length, take, drop, refl, sym, ap, ap₂, ◌∙◌, subst, append_assoc, append-nil, take-append-drop}
use Rattle.std.proofs.lemmas.List.Elements.{All-cons, All-nil}
use Rattle.std.specs.Char.{IsScalar}
use Rattle.utf16_units.specs.Encoding.{Encodes, char_bytes, size}
use Rattle.utf16_units.proofs.EncodingLemmas.{size-append}
use Rattle.utf8_bytes.specs.Split.{AreItems, IsItem, IsTail, Item, decided_text, good, ill, items_bytes, lossy_char, lossy_chars, split_items, split_tail}
use Rattle.utf8_bytes.proofs.LawProofs.{cut_anywhere, split_extends}
use Rattle.utf8_bytes.proofs.RecipeLemmas.{split_of_tail, tail_ends}
use Rattle.utf8_bytes.proofs.ShownLemmas.{length-IsTail}
use Rattle.utf8_bytes.proofs.SplitLemmas.{Split-computed}
use Rattle.utf16_transcode.proofs.DecodesUtf8.{flat_encode}

item_scalar : (item : Item) (rest : List ℕ) → IsItem item rest → IsScalar (lossy_char item)
item_scalar (good c) rest is = is
item_scalar (ill part) rest is = refl

items_scalar : (items : List Item) (tail : List ℕ) → AreItems items tail → All IsScalar (lossy_chars items)
items_scalar [] tail are = All-nil IsScalar
items_scalar (item ∷ items) tail are =
    All-cons IsScalar (lossy_char item) (lossy_chars items) (item_scalar item (items_bytes items ++ tail) are.0) (items_scalar items tail are.1)

-- pending bytes are a tail, and their own tail
pub IsTail-pending : (pending : List ℕ) → split_tail pending ≡ pending → IsTail pending
IsTail-pending pending same = subst IsTail same (tail_ends pending)

pub split_tail-again : (bytes : List ℕ) → split_tail (split_tail bytes) ≡ split_tail bytes
split_tail-again bytes = (split_of_tail (split_tail bytes) (tail_ends bytes)).1

-- pending bytes decide nothing without more bytes
pub decided_text-pending : (pending : List ℕ) → split_tail pending ≡ pending → decided_text pending ≡ []
decided_text-pending pending same = ap lossy_chars (split_of_tail pending (IsTail-pending pending same)).0

-- bytes that decide nothing are at most three
pub few_undecided : (bytes : List ℕ) → decided_text bytes ≡ [] → length bytes ≤ 3
few_undecided bytes none = few (split_items bytes) none (Split-computed bytes).spelled where
  few : (items : List Item) → lossy_chars items ≡ [] → items_bytes items ++ split_tail bytes ≡ bytes → length bytes ≤ 3
  few [] none spelled = subst (λ b. length b ≤ 3) spelled (length-IsTail (split_tail bytes) (tail_ends bytes))
  few (item ∷ items) none spelled = absurd (cc)

-- what is written for the text of bytes is its UTF-16
pub fed_encodes : (big : Bool) (bytes written : List ℕ) → written ≡ flat_map (char_bytes big) (decided_text bytes) → Encodes big (decided_text bytes) written
fed_encodes big bytes written is = record {
  scalars = items_scalar (split_items bytes) (split_tail bytes) (Split-computed bytes).made;
  spelled = flat_encode big (decided_text bytes) ∙ sym is;
}

-- everything before `rest` is decoded, and its text is appended
pub record Leaves (bytes rest old new : List ℕ) : Type 0 where
  pub text : old ++ decided_text bytes ≡ new ++ decided_text rest
  pub tail : split_tail bytes ≡ split_tail rest

-- the two parts of a list
pub two_parts : (n : ℕ) (bytes front back : List ℕ) → front ≡ take n bytes → back ≡ drop n bytes → bytes ≡ front ++ back
two_parts n bytes front back first last = sym (take-append-drop n bytes) ∙ ap₂ (λ f b. f ++ b) (sym first) (sym last)

-- one more part of the rest of a chunk is decoded
module _ (pending rest part behind left : List ℕ) (joined : rest ≡ part ++ behind) (is : left ≡ split_tail (pending ++ part)) where
  front : pending ++ rest ≡ (pending ++ part) ++ behind
  front = ap (λ r. pending ++ r) joined ∙ sym (append_assoc pending part behind)

  cut : decided_text (pending ++ rest) ≡ decided_text (pending ++ part) ++ decided_text (left ++ behind)
  cut =
      ap decided_text front ∙ (cut_anywhere (pending ++ part) behind).0
      ∙ ap (λ l. decided_text (pending ++ part) ++ decided_text (l ++ behind)) (sym is)

  pub size-part : size (decided_text (pending ++ rest)) ≡ size (decided_text (pending ++ part)) + size (decided_text (left ++ behind))
  size-part = ap size cut ∙ size-append (decided_text (pending ++ part)) (decided_text (left ++ behind))

  pub Leaves-part : (bytes old mid new : List ℕ) → Leaves bytes (pending ++ rest) old mid → new ≡ mid ++ decided_text (pending ++ part)
      → Leaves bytes (left ++ behind) old new
  Leaves-part bytes old mid new before text = record {
    text =
        before.text ∙ ap (λ t. mid ++ t) cut ∙ sym (append_assoc mid (decided_text (pending ++ part)) (decided_text (left ++ behind)))
        ∙ ap (λ t. t ++ decided_text (left ++ behind)) (sym text);
    tail = before.tail ∙ ap split_tail front ∙ (split_extends (pending ++ part) behind).1 ∙ ap (λ l. split_tail (l ++ behind)) (sym is);
  }

-- the last part has been decoded
module _ (pending rest : List ℕ) (same : split_tail pending ≡ pending) (none : rest ≡ []) where
  all : pending ++ rest ≡ pending
  all = ap (λ r. pending ++ r) none ∙ append-nil pending

  pub decided_text-end : decided_text (pending ++ rest) ≡ []
  decided_text-end = ap decided_text all ∙ decided_text-pending pending same

  pub Leaves-end : (bytes old new : List ℕ) → Leaves bytes (pending ++ rest) old new → (new ≡ old ++ decided_text bytes) × (pending ≡ split_tail bytes)
  Leaves-end bytes old new before = (
    sym (before.text ∙ ap (λ t. new ++ t) decided_text-end ∙ append-nil new),
    sym (before.tail ∙ ap split_tail all ∙ same),
  )
