-- The first character of well-formed bytes, by their first units.
use Rattle.std.proofs.Common.{◌≡◌, ℕ, ◌+◌, ◌-◌, ◌/◌, ◌%◌, ◌<◌, ◌≤◌, Bool, true, false, List, [], ◌∷◌, ◌++◌, length, drop, All, refl, sym, ap, ◌∙◌, subst, ⊎_elim, arith, append_assoc, append-nil, length-append, drop_at, flat_map}
use Rattle.std.proofs.lemmas.Bool.{cases_lt}
use Rattle.std.proofs.lemmas.List.Elements.{All-head, All-tail}
use Rattle.std.proofs.str.Utf16.{one_unit, two_units}
use Rattle.std.specs.Char.{IsScalar}
use Rattle.std.specs.Char.Utf16.{surrogate_pair_char}
use Rattle.utf16_units.specs.Unit.{IsLeading, IsTrailing, unit_bytes}
use Rattle.utf16_units.specs.Encoding.{char_bytes, char_size, encode, Encodes, IsUtf16, text_of}
use Rattle.utf16_units.proofs.CharLemmas.{char_size_four, char_size_two, length-char_bytes, no_surrogate}
use Rattle.utf16_units.proofs.EncodingLemmas.{encode-cons, encode-nil, text_of-char}
use Rattle.utf16_units.proofs.FirstChar.{first_unit, second_unit}

-- the bytes are the bytes of a character and then of a text
pub record HasFirst (big : Bool) (bytes : List ℕ) : Type 0 where
  pub char : ℕ
  pub text : List ℕ
  pub scalar : IsScalar char
  pub scalars : All IsScalar text
  pub spelled : bytes ≡ char_bytes big char ++ encode big text

-- well-formed bytes that are not empty have a first character
pub first_of : (big : Bool) (bytes : List ℕ) → IsUtf16 big bytes → 0 < length bytes → HasFirst big bytes
first_of big bytes t some = of_text t.text t.encodes where
  of_text : (text : List ℕ) → Encodes big text bytes → HasFirst big bytes
  of_text [] e =
      let none : length bytes ≡ 0 = ap length (sym e.spelled ∙ encode-nil big) in
      absurd (omega arith)
  of_text (c ∷ text) e = record {
    char = c;
    text = text;
    scalar = All-head IsScalar c text e.scalars;
    scalars = All-tail IsScalar c text e.scalars;
    spelled = sym e.spelled ∙ encode-cons big c text;
  }

-- the bytes after the first character are well formed, and the characters are that one and theirs
pub record SplitsAt (big : Bool) (bytes : List ℕ) (c n : ℕ) : Type 0 where
  pub scalar : IsScalar c
  pub within : n ≤ length bytes
  pub rest : IsUtf16 big (drop n bytes)
  pub text : text_of big bytes ≡ c ∷ text_of big (drop n bytes)

splits_first : (big : Bool) (bytes : List ℕ) (f : HasFirst big bytes) → SplitsAt big bytes f.char (char_size f.char)
splits_first big bytes f =
    let rest = encode big f.text in
    let long = length-append (char_bytes big f.char) rest in
    let char_long = length-char_bytes big f.char in
    let whole_long : length bytes ≡ length (char_bytes big f.char ++ rest) = ap length f.spelled in
    let cut : drop (char_size f.char) bytes ≡ rest =
    ap (drop (char_size f.char)) f.spelled ∙ drop_at (char_bytes big f.char) rest (char_size f.char) char_long in
    record {
      scalar = f.scalar;
      within = omega arith;
      rest = subst (IsUtf16 big) (sym cut) (record { text = f.text; encodes = record { scalars = f.scalars; spelled = refl } });
      text = ap (text_of big) f.spelled ∙ text_of-char big f.char rest f.scalar ∙ ap (λ t. f.char ∷ text_of big t) (sym cut);
    }

pub first_unit-bytes : (big : Bool) (unit : ℕ) (bytes : List ℕ) → first_unit big (unit_bytes big unit ++ bytes) ≡ unit
first_unit-bytes true unit bytes = omega arith
first_unit-bytes false unit bytes = omega arith

second_unit-bytes : (big : Bool) (unit next : ℕ) (bytes : List ℕ) → second_unit big (unit_bytes big unit ++ (unit_bytes big next ++ bytes)) ≡ next
second_unit-bytes true unit next bytes = omega arith
second_unit-bytes false unit next bytes = omega arith

module _ (big : Bool) (bytes : List ℕ) (f : HasFirst big bytes) (one : f.char < 0x1_0000) where
  pub one_spelled : bytes ≡ unit_bytes big f.char ++ encode big f.text
  one_spelled =
      f.spelled ∙ ap (λ us. flat_map (unit_bytes big) us ++ encode big f.text) (one_unit f.char one)
      ∙ ap (λ t. t ++ encode big f.text) (append-nil (unit_bytes big f.char))

  one_is : first_unit big bytes ≡ f.char
  one_is = ap (first_unit big) one_spelled ∙ first_unit-bytes big f.char (encode big f.text)

  pub one_not_leading : ¬ (IsLeading (first_unit big bytes))
  one_not_leading leading =
      let same = one_is in
      ⊎_elim (λ (low : f.char < 0xD800). omega arith) (λ (high : (0xE000 ≤ f.char) × (f.char < 0x11_0000)). omega arith) (no_surrogate f.char f.scalar)

  one_splits : SplitsAt big bytes (first_unit big bytes) 2
  one_splits =
      subst (λ c. SplitsAt big bytes c 2) (sym one_is)
      (subst (SplitsAt big bytes f.char) (char_size_two f.char one) (splits_first big bytes f))

module _ (big : Bool) (bytes : List ℕ) (f : HasFirst big bytes) (two : 0x1_0000 ≤ f.char) where
  abbrev pub lead : ℕ
  lead = 0xD800 + (f.char - 0x1_0000) / 0x400

  abbrev pub trail : ℕ
  trail = 0xDC00 + (f.char - 0x1_0000) % 0x400

  pub two_spelled : bytes ≡ unit_bytes big lead ++ (unit_bytes big trail ++ encode big f.text)
  two_spelled =
      f.spelled ∙ ap (λ us. flat_map (unit_bytes big) us ++ encode big f.text) (two_units f.char two)
      ∙ append_assoc (unit_bytes big lead) (unit_bytes big trail ++ []) (encode big f.text)
      ∙ ap (λ t. unit_bytes big lead ++ (t ++ encode big f.text)) (append-nil (unit_bytes big trail))

  lead_is : first_unit big bytes ≡ lead
  lead_is = ap (first_unit big) two_spelled ∙ first_unit-bytes big lead (unit_bytes big trail ++ encode big f.text)

  trail_is : second_unit big bytes ≡ trail
  trail_is = ap (second_unit big) two_spelled ∙ second_unit-bytes big lead trail (encode big f.text)

  pub two_below : f.char < 0x11_0000
  two_below = ⊎_elim (λ (low : f.char < 0xD800). omega arith) (λ (high : (0xE000 ≤ f.char) × (f.char < 0x11_0000)). high.1) (no_surrogate f.char f.scalar)

  pub two_leading : IsLeading (first_unit big bytes)
  two_leading =
      let same = lead_is in
      let below = two_below in
      (omega arith, omega arith)

  pub two_trailing : IsTrailing (second_unit big bytes)
  two_trailing =
      let same = trail_is in
      (omega arith, omega arith)

  pair_is : surrogate_pair_char (first_unit big bytes) (second_unit big bytes) ≡ f.char
  pair_is =
      let first = lead_is in
      let second = trail_is in
      omega arith

  two_splits : SplitsAt big bytes (surrogate_pair_char (first_unit big bytes) (second_unit big bytes)) 4
  two_splits =
      subst (λ c. SplitsAt big bytes c 4) (sym pair_is)
      (subst (SplitsAt big bytes f.char) (char_size_four f.char two) (splits_first big bytes f))

module _ (big : Bool) (bytes : List ℕ) (t : IsUtf16 big bytes) (some : 0 < length bytes) where
  -- a unit that is not a leading surrogate is the first character
  pub splits_one : ¬ (IsLeading (first_unit big bytes)) → SplitsAt big bytes (first_unit big bytes) 2
  splits_one leading =
      let f = first_of big bytes t some in
      ⊎_elim (λ one. one_splits big bytes f one) (λ two. absurd (leading (two_leading big bytes f two))) (cases_lt f.char 0x1_0000)

  -- a leading surrogate and the next unit are the units of the first character
  pub splits_two : IsLeading (first_unit big bytes)
      → IsTrailing (second_unit big bytes) × SplitsAt big bytes (surrogate_pair_char (first_unit big bytes) (second_unit big bytes)) 4
  splits_two leading =
      let f = first_of big bytes t some in
      ⊎_elim
      (λ one. absurd (one_not_leading big bytes f one leading))
      (λ two. (two_trailing big bytes f two, two_splits big bytes f two))
      (cases_lt f.char 0x1_0000)

  -- well-formed bytes that are not empty are at least two
  pub two_bytes : 2 ≤ length bytes
  two_bytes =
      let f = first_of big bytes t some in
      let le = (splits_first big bytes f).within in
      ⊎_elim
      (λ one. let two = char_size_two f.char one in omega arith)
      (λ two. let four = char_size_four f.char two in omega arith)
      (cases_lt f.char 0x1_0000)

-- no character begins with a trailing surrogate
pub first_unit-char : (big : Bool) (c : ℕ) (bytes : List ℕ) → IsScalar c → ¬ (IsTrailing (first_unit big (char_bytes big c ++ bytes)))
first_unit-char big c bytes scalar trailing =
    let cases = no_surrogate c scalar in
    ⊎_elim
    (λ (one : c < 0x1_0000).
    let unit : first_unit big (char_bytes big c ++ bytes) ≡ c =
    ap (λ us. first_unit big (flat_map (unit_bytes big) us ++ bytes)) (one_unit c one)
    ∙ ap (λ t. first_unit big (t ++ bytes)) (append-nil (unit_bytes big c)) ∙ first_unit-bytes big c bytes in
    ⊎_elim (λ (low : c < 0xD800). omega arith) (λ (high : (0xE000 ≤ c) × (c < 0x11_0000)). omega arith) cases)
    (λ (two : 0x1_0000 ≤ c).
    let unit : first_unit big (char_bytes big c ++ bytes) ≡ 0xD800 + (c - 0x1_0000) / 0x400 =
    ap (λ us. first_unit big (flat_map (unit_bytes big) us ++ bytes)) (two_units c two)
    ∙ ap (first_unit big) (append_assoc (unit_bytes big (0xD800 + (c - 0x1_0000) / 0x400)) (unit_bytes big (0xDC00 + (c - 0x1_0000) % 0x400) ++ []) bytes)
    ∙ first_unit-bytes big (0xD800 + (c - 0x1_0000) / 0x400) ((unit_bytes big (0xDC00 + (c - 0x1_0000) % 0x400) ++ []) ++ bytes) in
    ⊎_elim (λ (low : c < 0xD800). omega arith) (λ (high : (0xE000 ≤ c) × (c < 0x11_0000)). omega arith) cases)
    (cases_lt c 0x1_0000)
