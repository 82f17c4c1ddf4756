-- More UTF-8 that is well formed, written after what was written.
use Rattle.std.proofs.Common.{◌≡◌, ℕ, ◌+◌, ◌-◌, ◌*◌, ◌≤◌, Bool, List, ◌++◌, length, length-append, length-drop, length-take, length-take-le, take, drop, subst, sym, ap, ◌∙◌, arith}
use borrow.Rule.Slice.PartMut.{put_mid}
use Rattle.std.proofs.Math.Seq.{take-add, take-append-add, take-length}
use Rattle.std.proofs.lemmas.List.{take-append-le, take-take, take_rest}
use Rattle.std.proofs.lemmas.Str.{IsUtf8-append, IsUtf8-from_ascii, IsUtf8-nil, chars-append, chars-nil}
use Rattle.std.specs.Str.{IsAscii, IsUtf8, chars}
use Rattle.utf16_units.specs.Encoding.{encode}
use Rattle.utf16_units.proofs.EncodingLemmas.{encode-append, encode-nil}
use Rattle.utf16_units.proofs.IllFormedLemmas.{rest_from}
use Rattle.utf16_from_utf8.specs.Written.{IsWritten}

pub more-written : (big : Bool) (bytes old new : List ℕ) (read written k to : ℕ) → IsWritten big bytes old read written → read + k ≤ length bytes
    → IsUtf8 (take k (drop read bytes)) → take to new ≡ take written old ++ encode big (chars (take k (drop read bytes))) → to ≤ written + 2 * k → to ≤ length new
    → IsWritten big bytes new (read + k) to
more-written big bytes old new read written k to done more utf8 wrote short fits =
    let front = take read bytes in
    let back = take k (drop read bytes) in
    let parts : take (read + k) bytes ≡ front ++ back = take-add read k bytes in
    record {
      within = more;
      well_formed = subst IsUtf8 (sym parts) (IsUtf8-append front back done.well_formed utf8);
      wrote =
          wrote ∙ ap (λ t. t ++ encode big (chars back)) done.wrote ∙ sym (encode-append big (chars front) (chars back))
          ∙ ap (encode big) (sym (chars-append front back done.well_formed) ∙ ap chars (sym parts));
      short = omega (arith, done.short, short);
      fits = fits;
    }

-- ASCII at the start of the first `most` bytes
module _ (big : Bool) (bytes new : List ℕ) (most len : ℕ) (within : len ≤ length (take most bytes)) (ascii : IsAscii (take len (take most bytes)))
    (wrote : take (2 * len) new ≡ encode big (chars (take len (take most bytes)))) where
  len-within : len ≤ length bytes
  len-within = omega (arith, within, length-take most bytes)

  front : take len (take most bytes) ≡ take len bytes
  front = take-take len most bytes (omega (arith, within, length-take most bytes))

  front-utf8 : IsUtf8 (take len bytes)
  front-utf8 = subst IsUtf8 front (IsUtf8-from_ascii _ ascii)

  front-wrote : take (2 * len) new ≡ encode big (chars (take len bytes))
  front-wrote = wrote ∙ ap (λ t. encode big (chars t)) front

  pub ascii-first : 2 * len ≤ length new → IsWritten big bytes new len (2 * len)
  ascii-first fits = record { within = len-within; well_formed = front-utf8; wrote = front-wrote; short = omega arith; fits = fits }

-- more ASCII, written to the rest of the buffer
pub ascii-written : (big : Bool) (bytes old part : List ℕ) (read written most len : ℕ) → IsWritten big bytes old read written → length part ≡ length old - written → 2 * len ≤ length part
    → len ≤ length (take most (rest_from bytes read)) → IsAscii (take len (take most (rest_from bytes read))) → take (2 * len) part ≡ encode big (chars (take len (take most (rest_from bytes read))))
    → IsWritten big bytes (put_mid written (length old - written) old part) (read + len) (written + 2 * len)
ascii-written big bytes old part read written most len done long fits within ascii wrote =
    let rest : rest_from bytes read ≡ drop read bytes = take_rest bytes read in
    let start = length-take-le written old done.fits in
    let after = drop (length old - written) (drop written old) in
    let more = len-within big (rest_from bytes read) part most len within ascii wrote in
    more-written big bytes old (put_mid written (length old - written) old part) read written len (written + 2 * len) done
    (omega (arith, more, ap length rest ∙ length-drop read bytes, done.within))
    (subst (λ t. IsUtf8 (take len t)) rest (front-utf8 big (rest_from bytes read) part most len within ascii wrote))
    (ap (λ k. take (k + 2 * len) (take written old ++ (part ++ after))) (sym start) ∙ take-append-add (take written old) (part ++ after) (2 * len)
    ∙ ap (λ t. take written old ++ t)
    (take-append-le (2 * len) part after fits ∙ front-wrote big (rest_from bytes read) part most len within ascii wrote ∙ ap (λ t. encode big (chars (take len t))) rest))
    (omega arith) (omega (arith, fits, start, length-append (take written old) (part ++ after), length-append part after))

-- nothing
pub none-written : (big : Bool) (bytes out : List ℕ) → IsWritten big bytes out 0 0
none-written big bytes out = record {
  within = omega arith;
  well_formed = IsUtf8-nil;
  wrote = sym (ap (encode big) chars-nil ∙ encode-nil big);
  short = omega arith;
  fits = omega arith;
}

-- a whole text
pub all-written : (big : Bool) (bytes out : List ℕ) (n : ℕ) → IsUtf8 bytes → take n out ≡ encode big (chars bytes) → n ≤ 2 * length bytes → n ≤ length out → IsWritten big bytes out (length bytes) n
all-written big bytes out n utf8 wrote short fits = record {
  within = omega arith;
  well_formed = subst IsUtf8 (sym (take-length bytes)) utf8;
  wrote = wrote ∙ ap (λ t. encode big (chars t)) (sym (take-length bytes));
  short = short;
  fits = fits;
}
