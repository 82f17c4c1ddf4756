-- Bytes have one split, and the split of two chunks is the split of the first, followed by the
-- split of its tail and the second.
use Rattle.std.proofs.Common.{◌≡◌, ℕ, List, [], ◌∷◌, ◌++◌, None, Some, length, take, drop, refl, sym, ap, ap₂, ◌∙◌, subst, append_assoc, take_at, drop_at}
use Rattle.std.proofs.lemmas.Str.{encode_same}
use Rattle.std.specs.Str.Lossy.{utf8_error_len}
use Rattle.utf8_bytes.specs.Split.{IsItem, IsTail, Item, Split, good, ill, item_bytes, items_bytes, split_items, split_tail}
use Rattle.utf8_bytes.proofs.PartLemmas.{subpart_more, tail_undecided}
use Rattle.utf8_bytes.proofs.SplitLemmas.{Split-computed, Split-cons, Split-tail}

-- ---- one split

-- bytes that are a tail have no item
none_of_tail : (item : Item) (rest tail : List ℕ) → IsItem item rest → IsTail tail → ¬ (item_bytes item ++ rest ≡ tail)
none_of_tail (good c) rest tail is ends e = (tail_undecided tail ends).0 c rest is (sym e)
none_of_tail (ill part) rest tail is ends e =
    let same : None ≡ Some (length part) = sym (tail_undecided tail ends).1 ∙ ap utf8_error_len (sym e) ∙ is.len in
    absurd (cc)

-- bytes have one first item
one_item : (item other : Item) (rest more : List ℕ) → IsItem item rest → IsItem other more → item_bytes item ++ rest ≡ item_bytes other ++ more
    → (item ≡ other) × (rest ≡ more)
one_item (good c) (good d) rest more is also e =
    let same = encode_same c d rest more e in
    (ap good same.0, same.1)
one_item (good c) (ill part) rest more is also e = absurd (also.no_char c rest is (sym e))
one_item (ill part) (good d) rest more is also e = absurd (is.no_char d more also e)
one_item (ill part) (ill other) rest more is also e =
    let lens : Some (length part) ≡ Some (length other) = sym is.len ∙ ap utf8_error_len e ∙ also.len in
    let long : length other ≡ length part = cc in (
      ap ill (sym (take_at part rest (length part) refl) ∙ ap (take (length part)) e ∙ take_at other more (length part) long),
      sym (drop_at part rest (length part) refl) ∙ ap (drop (length part)) e ∙ drop_at other more (length part) long,
    )

-- what the first item and the bytes after it are
pub first_bytes : (bytes : List ℕ) (item : Item) (items : List Item) (tail : List ℕ) → Split bytes (item ∷ items) tail
    → item_bytes item ++ (items_bytes items ++ tail) ≡ bytes
first_bytes bytes item items tail s = sym (append_assoc (item_bytes item) (items_bytes items) tail) ∙ s.spelled

pub Split-same : (bytes : List ℕ) (items others : List Item) (tail other : List ℕ) → Split bytes items tail → Split bytes others other
    → (items ≡ others) × (tail ≡ other)
Split-same bytes [] [] tail other s t = (refl, s.spelled ∙ sym t.spelled)
Split-same bytes [] (item ∷ items) tail other s t =
    absurd (none_of_tail item (items_bytes items ++ other) tail t.made.0 s.ends (first_bytes bytes item items other t ∙ sym s.spelled))
Split-same bytes (item ∷ items) [] tail other s t =
    absurd (none_of_tail item (items_bytes items ++ tail) other s.made.0 t.ends (first_bytes bytes item items tail s ∙ sym t.spelled))
Split-same bytes (item ∷ items) (another ∷ others) tail other s t =
    let first = one_item item another (items_bytes items ++ tail) (items_bytes others ++ other) s.made.0 t.made.0
    (first_bytes bytes item items tail s ∙ sym (first_bytes bytes another others other t)) in
    let rest = Split-same (items_bytes items ++ tail) items others tail other (Split-tail bytes item items tail s)
    (subst (λ b. Split b others other) (sym first.1) (Split-tail bytes another others other t)) in
    (ap₂ (λ i l. i ∷ l) first.0 rest.0, rest.1)

-- any split is the computed one
pub Split-unique : (bytes : List ℕ) (items : List Item) (tail : List ℕ) → Split bytes items tail → (items ≡ split_items bytes) × (tail ≡ split_tail bytes)
Split-unique bytes items tail s = Split-same bytes items (split_items bytes) tail (split_tail bytes) s (Split-computed bytes)

-- ---- one chunk and then the next

-- an item stays one with more bytes after it
item_more : (item : Item) (rest more : List ℕ) → IsItem item rest → IsItem item (rest ++ more)
item_more (good c) rest more is = is
item_more (ill part) rest more is = subpart_more part rest is more

pub Split-append : (front back : List ℕ) (items more : List Item) (tail last : List ℕ) → Split front items tail → Split (tail ++ back) more last
    → Split (front ++ back) (items ++ more) last
Split-append front back [] more tail last s t = subst (λ b. Split (b ++ back) more last) s.spelled t
Split-append front back (item ∷ items) more tail last s t =
    let rest = items_bytes items ++ tail in
    let behind = Split-append rest back items more tail last (Split-tail front item items tail s) t in
    subst (λ b. Split b (item ∷ (items ++ more)) last)
    (sym (append_assoc (item_bytes item) rest back) ∙ ap (λ b. b ++ back) (first_bytes front item items tail s))
    (Split-cons item (rest ++ back) (items ++ more) last (item_more item rest back s.made.0) behind)

module _ (front back : List ℕ) where
  both_same : (split_items front ++ split_items (split_tail front ++ back) ≡ split_items (front ++ back))
      × (split_tail (split_tail front ++ back) ≡ split_tail (front ++ back))
  both_same =
      let next = split_tail front ++ back in
      Split-unique (front ++ back) (split_items front ++ split_items next) (split_tail next)
      (Split-append front back (split_items front) (split_items next) (split_tail front) (split_tail next) (Split-computed front) (Split-computed next))

  pub split_items-append : split_items (front ++ back) ≡ split_items front ++ split_items (split_tail front ++ back)
  split_items-append = sym both_same.0

  pub split_tail-append : split_tail (front ++ back) ≡ split_tail (split_tail front ++ back)
  split_tail-append = sym both_same.1
