-- From UTF-8 to UTF-16: texts one after another, characters, and the place of an error.
use Rattle.std.proofs.Common.{◌≡◌, ℕ, ◌+◌, ◌-◌, ◌*◌, ◌<◌, ◌≤◌, Bool, true, List, [], ◌∷◌, ◌++◌, Option, drop_at, length, take, drop, encode_utf8_all, refl, sym, ap, ap₂, ◌∙◌, subst, arith, append-nil, append_assoc, length-append, length-drop, length-take, length-take-le, ⊎_elim, take_at, take-add, take-append-drop, take-take, slice_index}
use Rattle.std.proofs.lemmas.Bool.{cases_lt}
use Rattle.std.proofs.lemmas.List.{take_more, take_rest}
use Rattle.std.proofs.lemmas.List.Elements.{All-cons, All-head, All-nil}
use Rattle.std.proofs.lemmas.Str.{IsCharBoundary-from_take, IsUtf8-append, IsUtf8-drop, IsUtf8-encode, IsUtf8-nil, chars-append, chars-nil, chars-encodes, len_utf8_bounds, length-encode}
use Rattle.std.specs.Char.{IsScalar, encode_utf8}
use Rattle.std.specs.Str.{IsUtf8, IsValidUpTo, StartsWithNoChar, all_scalars, chars}
use Rattle.utf16_units.specs.Encoding.{char_bytes, encode}
use Rattle.utf16_units.proofs.EncodingLemmas.{All-from_all_scalars, all_scalars-from_All, encode-append, encode-nil, encode-one}
use Rattle.utf16_units.proofs.IllFormedLemmas.{rest_from}
use lib.Utf8.{low_scalar}
use Rattle.utf16_units.proofs.Utf8Lemmas.{one_byte}
use Rattle.utf16_from_utf8.specs.Written.{IsWritten}
use Rattle.utf16_transcode.specs.FromUtf8.{TranscodesToUtf16, IsIllFormedUtf8, IsIllFormedUtf8At}
use Rattle.utf16_transcode.specs.Transcoded.{SameText, Joins, Writes}

pub room_grows : (m n : ℕ) → m ≤ n → 2 * m + 16 ≤ 2 * n + 16
room_grows m n le = omega arith

pub utf16_joins : (big : Bool) → Joins (TranscodesToUtf16 big)
utf16_joins big front back into more first second = (
  IsUtf8-append front back first.0 second.0,
  ap₂ (λ x y. x ++ y) first.1 second.1 ∙ sym (encode-append big (chars front) (chars back)) ∙ ap (encode big) (sym (chars-append front back first.0)),
)

pub utf16_empty : (big : Bool) → TranscodesToUtf16 big [] []
utf16_empty big = (IsUtf8-nil, sym (ap (encode big) chars-nil ∙ encode-nil big))

-- the UTF-8 of a character spells it
pub chars-char : (c : ℕ) → IsScalar c → chars (encode_utf8 c) ≡ c ∷ []
chars-char c scalar =
    ap chars (sym (append-nil (encode_utf8 c)))
    ∙ chars-encodes (c ∷ []) (all_scalars-from_All (c ∷ []) (All-cons IsScalar c [] scalar (All-nil IsScalar)))

pub char_gives : (big : Bool) (c : ℕ) → IsScalar c → SameText IsUtf8 (λ text. encode big (chars text)) (encode_utf8 c) (char_bytes big c)
char_gives big c scalar = (IsUtf8-encode c scalar, sym (ap (encode big) (chars-char c scalar) ∙ encode-one big c))

-- one more byte, which is ASCII
pub ascii-more : (big : Bool) (bytes old new : List ℕ) (read written to : ℕ) → Writes (TranscodesToUtf16 big) bytes old read written → read < length bytes → slice_index bytes read < 0x80
    → to ≤ length new → take to new ≡ take written old ++ char_bytes big (slice_index bytes read) → Writes (TranscodesToUtf16 big) bytes new (read + 1) to
ascii-more big bytes old new read written to done more low fits wrote =
    let byte = slice_index bytes read in
    let one : encode_utf8 byte ≡ byte ∷ [] = one_byte byte low in
    let scalar : IsScalar byte = low_scalar byte (omega (arith, low)) in
    let next = subst (λ b. TranscodesToUtf16 big b (char_bytes big byte)) one (char_gives big byte scalar) in
    record {
      within = omega (arith, more);
      fits = fits;
      gives =
          subst (λ b. TranscodesToUtf16 big b (take to new)) (sym (take_more bytes read 0 more))
          (subst (TranscodesToUtf16 big (take read bytes ++ byte ∷ [])) (sym wrote) (utf16_joins big (take read bytes) (byte ∷ []) (take written old) (char_bytes big byte) done.gives next));
    }

-- if UTF-8 begins with UTF-8, the rest is UTF-8 too
pub IsUtf8-behind : (front back : List ℕ) → IsUtf8 front → IsUtf8 (front ++ back) → IsUtf8 back
IsUtf8-behind front back first all =
    let n = length front in
    let size = length-append front back in
    let cut = IsCharBoundary-from_take (front ++ back) n all (omega arith) (subst IsUtf8 (sym (take_at front back n refl)) first) in
    subst IsUtf8 (drop_at front back n refl) (IsUtf8-drop (front ++ back) n all cut)

-- a text that is not empty begins with a character
text_begins : (bytes : List ℕ) → IsUtf8 bytes → 0 < length bytes → (c : ℕ) × (more : List ℕ) × IsScalar c × (bytes ≡ encode_utf8 c ++ more)
text_begins bytes u some = of u.0 u.1.0 u.1.1 where
  of : (cs : List ℕ) → all_scalars cs ≡ true → encode_utf8_all cs ≡ bytes → (c : ℕ) × (more : List ℕ) × IsScalar c × (bytes ≡ encode_utf8 c ++ more)
  of [] scalars e = absurd (omega (arith, ap length e))
  of (c ∷ cs) scalars e = (c, encode_utf8_all cs, All-head IsScalar c cs (All-from_all_scalars (c ∷ cs) scalars), sym e)

-- if a prefix is UTF-8, and so is a longer one, the bytes between their ends are UTF-8
text_behind : (bytes : List ℕ) (read m : ℕ) → read ≤ m → read ≤ length bytes → IsUtf8 (take read bytes) → IsUtf8 (take m bytes)
    → IsUtf8 (take (m - read) (drop read bytes))
text_behind bytes read m le within front all =
    let same : read + (m - read) ≡ m = omega arith in
    let split : take m bytes ≡ take read bytes ++ take (m - read) (drop read bytes) = ap (λ k. take k bytes) (sym same) ∙ take-add read (m - read) bytes in
    IsUtf8-behind (take read bytes) (take (m - read) (drop read bytes)) front (subst IsUtf8 split all)

-- an ill-formed sequence after a text begins where the longest valid prefix ends
pub valid_to : (bytes : List ℕ) (read : ℕ) → read < length bytes → IsUtf8 (take read bytes) → StartsWithNoChar (drop read bytes) → IsValidUpTo bytes read
valid_to bytes read within front none = record {
  short = within;
  front = front;
  longest = λ m past all.
      let k = m - read in
      let back = take k (drop read bytes) in
      let behind = text_behind bytes read m (omega arith) (omega arith) front all in
      let left = length-drop read bytes in
      let size = length-take k (drop read bytes) in
      let some : 0 < length back = omega arith in
      let begins = text_begins back behind some in
      none begins.0 (begins.1 ++ drop k (drop read bytes)) begins.2
      (sym (take-append-drop k (drop read bytes)) ∙ ap (λ t. t ++ drop k (drop read bytes)) begins.3
      ∙ append_assoc (encode_utf8 begins.0) begins.1 (drop k (drop read bytes)));
}

pub faults_there : (text : List ℕ) (read : ℕ) (len : Option ℕ) → read < length text → IsUtf8 (take read text) → IsIllFormedUtf8At (drop read text) len
    → IsIllFormedUtf8 text read len
faults_there text read len within front here = (valid_to text read within front here.0, here.1)

-- a valid part, and a valid prefix of what follows it
pub valid_more : (text : List ℕ) (valid n : ℕ) → IsUtf8 (take valid text) → IsUtf8 (take n (rest_from text valid)) → IsUtf8 (take (valid + n) text)
valid_more text valid n first second =
    subst IsUtf8 (sym (take-add valid n text)) (IsUtf8-append (take valid text) (take n (drop valid text)) first (subst (λ r. IsUtf8 (take n r)) (take_rest text valid) second))

-- what a writer of blocks wrote
pub wrote_blocks : {big : Bool} {utf8 to : List ℕ} {n w : ℕ} → IsWritten big utf8 to n w → Writes (TranscodesToUtf16 big) utf8 to n w
wrote_blocks wrote = record { within = wrote.within; fits = wrote.fits; gives = (wrote.well_formed, wrote.wrote) }

-- the length of the first character of a text
record FirstLen (bytes : List ℕ) : Type 0 where
  n : ℕ
  some : 0 < n
  few : n ≤ 4
  within : n ≤ length bytes
  text : IsUtf8 (take n bytes)

first_len : (bytes : List ℕ) → IsUtf8 bytes → 0 < length bytes → FirstLen bytes
first_len bytes text some =
    let begins = text_begins bytes text some in
    let front = encode_utf8 begins.0 in
    let bounds = len_utf8_bounds begins.0 in
    let size = length-encode begins.0 in
    record {
      n = length front;
      some = omega arith;
      few = omega arith;
      within = omega (arith, ap length begins.3, length-append front begins.1);
      text = subst IsUtf8 (sym (ap (take (length front)) begins.3 ∙ take_at front begins.1 (length front) refl)) (IsUtf8-encode begins.0 begins.2);
    }

module _ (bytes : List ℕ) (len n : ℕ) (front : IsUtf8 (take len bytes)) (most : n ≤ length bytes) (text : IsUtf8 (take n bytes)) where
  behind : len ≤ n → IsUtf8 (take (n - len) (drop len bytes))
  behind past = text_behind bytes len n past (omega arith) front text

  -- the longest valid prefix of a part that ends four bytes later at least is the longest of all bytes
  pub longest_by_part : (part : ℕ) → ((m : ℕ) → m ≤ length (take part bytes) → IsUtf8 (take m (take part bytes)) → m ≤ len) → len + 4 ≤ part → part ≤ length bytes → n ≤ len
  longest_by_part part longest near within = ⊎_elim
      (λ (past : len < n).
      let rest = take (n - len) (drop len bytes) in
      let size : length rest ≡ n - len = length-take-le (n - len) (drop len bytes) (omega (arith, length-drop len bytes)) in
      let first = first_len rest (behind (omega arith)) (omega arith) in
      let few = first.few in
      let some = first.some in
      let inside = first.within in
      let char = subst IsUtf8 (take-take first.n (n - len) (drop len bytes) (omega arith)) first.text in
      let more = subst IsUtf8 (sym (take-add len first.n bytes)) (IsUtf8-append (take len bytes) (take first.n (drop len bytes)) front char) in
      let same = take-take (len + first.n) part bytes (omega arith) in
      absurd (omega (arith, longest (len + first.n) (omega (arith, length-take-le part bytes within)) (subst IsUtf8 (sym same) more))))
      (λ (up : n ≤ len). up)
      (cases_lt len n)

  -- the longest valid prefix after a valid one
  pub longest_more : (m : ℕ) → ((k : ℕ) → k ≤ length (rest_from bytes len) → IsUtf8 (take k (rest_from bytes len)) → k ≤ m) → n ≤ len + m
  longest_more m longest = ⊎_elim
      (λ (past : len < n).
      let same = take_rest bytes len in
      omega (arith, longest (n - len) (omega (arith, ap length same, length-drop len bytes)) (subst (λ r. IsUtf8 (take (n - len) r)) (sym same) (behind (omega arith)))))
      (λ (up : n ≤ len). omega arith)
      (cases_lt len n)
