-- ASCII at the start of bytes, written in UTF-16 block by block.
use Rattle.std.proofs.Common.{◌-◌, drop-drop, zero, suc, ◌≡◌, ℕ, ◌+◌, ◌*◌, ◌<◌, ◌≤◌, Bool, List, [], ◌∷◌, ◌++◌, length, length-take-le, take, drop, slice_index, subst, refl, sym, ap, ap₂, ◌∙◌, ⊎_elim, arith}
use Rattle.std.proofs.Math.Seq.{take-add}
use Rattle.std.proofs.lemmas.Bool.{cases_lt}
use Rattle.std.proofs.lemmas.List.{get_or-take, get_or_past, take-take, take_all, take_at}
use Rattle.std.proofs.lemmas.Simd.{get_or-chunk, length-chunk}
use Rattle.std.proofs.lemmas.Str.{chars-IsAscii}
use Rattle.std.proofs.lemmas.Str.Ascii.{IsAscii-nil}
use Rattle.std.specs.List.{flat_map}
use Rattle.std.specs.Simd.Lanes.{chunk, put_chunk}
use Rattle.std.specs.Str.{IsAscii, chars}
use Rattle.utf16_units.specs.Encoding.{encode, size}
use Rattle.utf16_units.specs.Unit.{unit_bytes}
use Rattle.utf16_units.proofs.CharLemmas.{char_size_two, one_unit_bytes}
use Rattle.utf16_units.proofs.EncodingLemmas.{encode-append, encode-cons, encode-nil, length-encode, size-cons, size-nil}
use Rattle.utf16_from_utf8.specs.Ascii.{IsAsciiWritten}
use Rattle.utf16_from_utf8.proofs.BlockLemmas.{both_stored, halves}

-- what is after a vector that was stored stays
after_chunk : {X : Type 0} (at : ℕ) (out v : List X) (m : ℕ) → at + length v ≤ m → drop m (put_chunk at out v) ≡ drop m out
after_chunk at [] v m over = refl
after_chunk zero (x ∷ out) [] m over = refl
after_chunk zero (x ∷ out) (y ∷ v) zero over = absurd (omega (arith, over))
after_chunk zero (x ∷ out) (y ∷ v) (suc m) over = after_chunk zero out v m (omega (arith, over))
after_chunk (suc at) (x ∷ out) v zero over = absurd (omega (arith, over))
after_chunk (suc at) (x ∷ out) v (suc m) over = after_chunk at out v m (omega (arith, over))

pub after_both : (at : ℕ) (bytes out : List ℕ) → length bytes ≡ 32
    → drop (at + 32) (put_chunk (at + 16) (put_chunk at out (chunk 0 16 bytes)) (chunk 16 16 bytes)) ≡ drop (at + 32) out
after_both at bytes out long =
    after_chunk (at + 16) (put_chunk at out (chunk 0 16 bytes)) (chunk 16 16 bytes) (at + 32) (omega (arith, length-chunk 16 16 bytes (omega (arith, long))))
    ∙ after_chunk at out (chunk 0 16 bytes) (at + 32) (omega (arith, length-chunk 0 16 bytes (omega (arith, long))))

-- both halves of a vector were stored
pub halves_stored : (at : ℕ) (bytes out : List ℕ) → length bytes ≡ 32 → at + 32 ≤ length out
    → take (at + 32) (put_chunk (at + 16) (put_chunk at out (chunk 0 16 bytes)) (chunk 16 16 bytes)) ≡ take at out ++ bytes
halves_stored at bytes out long room =
    both_stored at (chunk 0 16 bytes) (chunk 16 16 bytes) out (length-chunk 0 16 bytes (omega (arith, long))) (length-chunk 16 16 bytes (omega (arith, long))) room
    ∙ ap (λ t. take at out ++ t) (sym (halves bytes long))

-- ---- the next block

-- ASCII up to a place and in the next block
ascii-more : (bytes : List ℕ) (at : ℕ) → at + 16 ≤ length bytes → IsAscii (take at bytes) → ((i : ℕ) → i < 16 → slice_index bytes (at + i) < 0x80) → IsAscii (take (at + 16) bytes)
ascii-more bytes at more before next i = ⊎_elim
    (λ (a : i < at). omega (arith, before i, get_or-take at bytes i 0 a, get_or-take (at + 16) bytes i 0 (omega (arith, a))))
    (λ (a : at ≤ i). ⊎_elim
    (λ (b : i < at + 16). omega (arith, next (i - at) (omega (arith, a, b)), ap (slice_index bytes) (here a), get_or-take (at + 16) bytes i 0 b))
    (λ (b : at + 16 ≤ i). omega (arith, get_or_past (take (at + 16) bytes) i 0 (omega (arith, b, length-take-le (at + 16) bytes more))))
    (cases_lt i (at + 16)))
    (cases_lt i at)
  where
    here : at ≤ i → at + (i - at) ≡ i
    here a = omega (arith, a)

pub next-ascii : (bytes : List ℕ) (at : ℕ) → IsAscii (take (at + 16) bytes) → (i : ℕ) → i < 16 → slice_index (chunk at 16 bytes) i < 0x80
next-ascii bytes at ascii i below =
    omega (arith, ascii (at + i), get_or-take (at + 16) bytes (at + i) 0 (omega (arith, below)), get_or-chunk at 16 bytes i 0 below)

-- sixteen bytes of ASCII are a text, and add its encoding
pub block-ascii : (block : List ℕ) → length block ≡ 16 → ((i : ℕ) → i < 16 → slice_index block i < 0x80) → IsAscii block
block-ascii block long low i = ⊎_elim
    (λ (a : i < 16). low i a)
    (λ (a : 16 ≤ i). omega (arith, get_or_past block i 0 (omega (arith, a, long))))
    (cases_lt i 16)

-- the units of ASCII are its bytes
encode-ascii : (big : Bool) (text : List ℕ) → IsAscii text → flat_map (unit_bytes big) text ≡ encode big text
encode-ascii big [] ascii = sym (encode-nil big)
encode-ascii big (c ∷ text) ascii =
    ap₂ (λ x y. x ++ y) (sym (one_unit_bytes big c (omega (arith, ascii 0)))) (encode-ascii big text (λ i. ascii (suc i))) ∙ sym (encode-cons big c text)

pub ascii-text : (big : Bool) (block : List ℕ) → length block ≡ 16 → ((i : ℕ) → i < 16 → slice_index block i < 0x80) → flat_map (unit_bytes big) block ≡ encode big (chars block)
ascii-text big block long low =
    let ascii = block-ascii block long low in
    encode-ascii big block ascii ∙ ap (encode big) (sym (chars-IsAscii block ascii))

-- the next block was written after the others
pub block-written : (big : Bool) (bytes before old new : List ℕ) (at to : ℕ) → to ≡ at + 16 → at + 16 ≤ length bytes
    → ((i : ℕ) → i < 16 → slice_index bytes (at + i) < 0x80)
    → take (2 * at + 32) new ≡ take (2 * at) old ++ encode big (chars (chunk at 16 bytes))
    → drop (2 * at + 32) new ≡ drop (2 * at + 32) old
    → IsAsciiWritten big bytes before old at → IsAsciiWritten big bytes before new to
block-written big bytes before old new at to is more next wrote rest done = record {
  within = omega (arith, is, more);
  ascii = subst (λ n. IsAscii (take n bytes)) (sym is) all;
  wrote =
      ap (λ n. take n new) end ∙ wrote
      ∙ ap₂ (λ x y. x ++ y) (done.wrote ∙ ap (encode big) (chars-IsAscii (take at bytes) done.ascii))
      (ap (encode big) (chars-IsAscii block there))
      ∙ sym (encode-append big (take at bytes) block)
      ∙ ap (encode big) (sym (take-add at 16 bytes) ∙ sym (chars-IsAscii (take (at + 16) bytes) all))
      ∙ ap (λ n. encode big (chars (take n bytes))) (sym is);
  rest =
      ap (λ n. drop n new) end ∙ rest ∙ sym (drop-drop 32 (2 * at) old)
      ∙ ap (drop 32) done.rest ∙ drop-drop 32 (2 * at) before ∙ ap (λ n. drop n before) (sym end);
}
  where
    block : List ℕ
    block = chunk at 16 bytes

    all : IsAscii (take (at + 16) bytes)
    all = ascii-more bytes at more done.ascii next

    there : IsAscii block
    there = block-ascii block (length-chunk at 16 bytes more) (next-ascii bytes at all)

    end : 2 * to ≡ 2 * at + 32
    end = omega (arith, is)

pub none-written : (big : Bool) (bytes out : List ℕ) → IsAsciiWritten big bytes out out 0
none-written big bytes out = record {
  within = omega arith;
  ascii = IsAscii-nil;
  wrote = sym (ap (encode big) (chars-IsAscii [] IsAscii-nil) ∙ encode-nil big);
  rest = refl;
}

-- ---- the last block, some of which was written before

size-ascii : (text : List ℕ) → IsAscii text → size text ≡ 2 * length text
size-ascii [] ascii = size-nil
size-ascii (c ∷ text) ascii =
    let low : c < 0x80 = ascii 0 in
    let two = char_size_two c (omega (arith, low)) in
    size-cons c text ∙ omega (arith, two, size-ascii text (λ i. ascii (suc i)))

-- ASCII up to an earlier place
ascii-less : (bytes : List ℕ) (m n : ℕ) → m ≤ n → n ≤ length bytes → IsAscii (take n bytes) → IsAscii (take m bytes)
ascii-less bytes m n less within ascii i = ⊎_elim
    (λ (a : i < m). omega (arith, ascii i, get_or-take m bytes i 0 a, get_or-take n bytes i 0 (omega (arith, a, less))))
    (λ (a : m ≤ i). omega (arith, get_or_past (take m bytes) i 0 (omega (arith, a, length-take-le m bytes (omega (arith, less, within))))))
    (cases_lt i m)

-- what was written is there up to an earlier place
less-written : (big : Bool) (bytes before new : List ℕ) (at m : ℕ) → m ≤ at → IsAsciiWritten big bytes before new at → IsAsciiWritten big bytes new new m
less-written big bytes before new at m less done = record {
  within = omega (arith, less, done.within);
  ascii = front-ascii;
  wrote =
      sym (take-take (2 * m) (2 * at) new (omega (arith, less)))
      ∙ ap (take (2 * m)) (done.wrote ∙ ap (encode big) (chars-IsAscii (take at bytes) done.ascii ∙ split) ∙ encode-append big front next)
      ∙ take_at (encode big front) (encode big next) (2 * m) long
      ∙ ap (encode big) (sym (chars-IsAscii front front-ascii));
  rest = refl;
}
  where
    front : List ℕ
    front = take m bytes

    next : List ℕ
    next = take (at - m) (drop m bytes)

    front-ascii : IsAscii front
    front-ascii = ascii-less bytes m at less done.within done.ascii

    on : at ≡ m + (at - m)
    on = omega (arith, less)

    split : take at bytes ≡ front ++ next
    split = ap (λ k. take k bytes) on ∙ take-add m (at - m) bytes

    long : length (encode big front) ≡ 2 * m
    long = length-encode big front ∙ size-ascii front front-ascii ∙ ap (λ n. 2 * n) (length-take-le m bytes (omega (arith, less, done.within)))

-- the first of sixteen characters that were written
pub front-written : (big : Bool) (block new : List ℕ) (n : ℕ) → length block ≡ 16 → ((i : ℕ) → i < 16 → slice_index block i < 0x80) → n ≤ 16
    → take 32 new ≡ encode big (chars block) → take (2 * n) new ≡ encode big (chars (take n block))
front-written big block new n long low few wrote =
    let all : take 16 block ≡ block = take_all 16 block (omega (arith, long)) in
    (less-written big block new new 16 n few record {
      within = omega (arith, long);
      ascii = subst (λ b. IsAscii b) (sym all) (block-ascii block long low);
      wrote = wrote ∙ ap (λ b. encode big (chars b)) (sym all);
      rest = refl;
    }).wrote

-- what stays after a place stays after a later one
drop-further : (m n : ℕ) (xs ys : List ℕ) → m ≤ n → drop m xs ≡ drop m ys → drop n xs ≡ drop n ys
drop-further m n xs ys later same =
    let on : n ≡ m + (n - m) = omega (arith, later) in
    ap (λ k. drop k xs) on ∙ sym (drop-drop (n - m) m xs) ∙ ap (drop (n - m)) same ∙ drop-drop (n - m) m ys ∙ ap (λ k. drop k ys) (sym on)

pub last-written : (big : Bool) (bytes before old new : List ℕ) (at last to : ℕ) → last ≤ at → at ≤ to
    → (IsAsciiWritten big bytes old old last → IsAsciiWritten big bytes old new to) → IsAsciiWritten big bytes before old at → IsAsciiWritten big bytes before new to
last-written big bytes before old new at last to less later write done =
    let wrote = write (less-written big bytes before old at last less done) in
    record {
      within = wrote.within;
      ascii = wrote.ascii;
      wrote = wrote.wrote;
      rest = wrote.rest ∙ drop-further (2 * at) (2 * to) old before (omega (arith, later)) done.rest;
    }

-- ASCII in a block of ASCII
pub chunk-ascii : (bytes : List ℕ) (at : ℕ) → IsAscii bytes → (i : ℕ) → i < 16 → slice_index (chunk at 16 bytes) i < 0x80
chunk-ascii bytes at ascii i below = omega (arith, ascii (at + i), get_or-chunk at 16 bytes i 0 below)
