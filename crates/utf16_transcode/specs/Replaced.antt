-- How many ill-formed sequences bytes have: for each of them a lossy conversion writes a U+FFFD. A
-- U+FFFD that is itself a character of the bytes does not count.
use Rattle.std.specs.Prelude.{◌==◌, ℕ, suc, ◌+◌, Bool, List, [], ◌∷◌, filter, length}
use Rattle.utf16_units.specs.Split.{Item as Utf16Item, good as utf16_good, lone_lead, lone_trail, split_items, split_tail}
use Rattle.utf8_bytes.specs.Split.{Item, good, ill, split_items as utf8_split_items, split_tail as utf8_split_tail}
use Rattle.utf16_transcode.specs.Unpaired.{lone_items}

-- 1 if a truncated character is left at the end, else 0
abbrev pub cut_off : List ℕ → ℕ
cut_off [] = 0
cut_off (first ∷ after) = 1

-- the number of ill-formed sequences in UTF-16: each unpaired surrogate, and a truncated character
-- at the end
abbrev pub ill_formed_count : Bool → List ℕ → ℕ
ill_formed_count big bytes = lone_items (split_items big bytes) + cut_off (split_tail big bytes)

-- the number of ill-formed subparts among items of UTF-8 (Unicode, section 3.9: U+FFFD substitution
-- of maximal subparts)
unfoldable pub ill_items : List Item → ℕ
ill_items [] = 0
ill_items (good c ∷ items) = ill_items items
ill_items (ill part ∷ items) = suc (ill_items items)

-- the number of ill-formed sequences in UTF-8: each ill-formed subpart, and a truncated character
-- at the end
abbrev pub ill_formed_utf8_count : List ℕ → ℕ
ill_formed_utf8_count bytes = ill_items (utf8_split_items bytes) + cut_off (utf8_split_tail bytes)

-- ---- what a text shows of them

-- how many U+FFFD a text has
abbrev pub marks : List ℕ → ℕ
marks text = length (filter (λ c. c == 0xFFFD) text)

-- the characters among items, without what is ill-formed
unfoldable pub good_chars : List Utf16Item → List ℕ
good_chars [] = []
good_chars (utf16_good c ∷ items) = c ∷ good_chars items
good_chars (lone_trail unit ∷ items) = good_chars items
good_chars (lone_lead unit ∷ items) = good_chars items

unfoldable pub utf8_good_chars : List Item → List ℕ
utf8_good_chars [] = []
utf8_good_chars (good c ∷ items) = c ∷ utf8_good_chars items
utf8_good_chars (ill part ∷ items) = utf8_good_chars items

-- how many U+FFFD bytes have themselves, as characters
abbrev pub own_marks : Bool → List ℕ → ℕ
own_marks big bytes = marks (good_chars (split_items big bytes))

abbrev pub utf8_own_marks : List ℕ → ℕ
utf8_own_marks bytes = marks (utf8_good_chars (utf8_split_items bytes))
