-- Bytes of Latin-1 written in UTF-16.
use Rattle.std.proofs.Common.{◌≡◌, ℕ, ◌+◌, ◌-◌, ◌*◌, ◌≤◌, Bool, List, ◌++◌, length, take, drop, slice_index, Fits, w8, refl, sym, ap, ◌∙◌, arith, drop-drop, length-take-le}
use Rattle.std.proofs.Math.Seq.{take-add}
use Rattle.std.proofs.lemmas.List.{take-take, take_at}
use Rattle.std.proofs.lemmas.Simd.{chunk-fits}
use Rattle.utf16_units.specs.Unit.{unit_bytes}
use Rattle.utf16_units.specs.Encoding.{encode}
use Rattle.utf16_units.proofs.EncodingLemmas.{encode-append, encode-nil}
use Rattle.utf16_units.proofs.UnitLemmas.{length-units_bytes}
use Rattle.utf16_fixed.specs.Written.{IsWidened}
use Rattle.utf16_fixed.proofs.CharLemmas.{encode-bytes, one-byte}

pub IsWidened-none : (big : Bool) (latin1 old : List ℕ) → IsWidened big latin1 old old 0
IsWidened-none big latin1 old = record { within = omega arith; fits = omega arith; wrote = sym (encode-nil big); rest = refl }

-- n more bytes
pub IsWidened-next : (big : Bool) (latin1 before old new : List ℕ) (at n : ℕ) → IsWidened big latin1 before old at
    → at + n ≤ length latin1 → 2 * at + 2 * n ≤ length new
    → take (2 * at + 2 * n) new ≡ take (2 * at) old ++ encode big (take n (drop at latin1)) → drop (2 * at + 2 * n) new ≡ drop (2 * at + 2 * n) old
    → IsWidened big latin1 before new (at + n)
IsWidened-next big latin1 before old new at n done within fits wrote rest = record {
  within = within;
  fits = omega (arith, fits);
  wrote = grind (arith, encode-append, take-add);
  rest =
      ap (λ m. drop m new) on ∙ rest ∙ sym (drop-drop (2 * n) (2 * at) old)
      ∙ ap (drop (2 * n)) done.rest ∙ drop-drop (2 * n) (2 * at) before ∙ ap (λ m. drop m before) (sym on);
}
  where
    on : 2 * (at + n) ≡ 2 * at + 2 * n
    on = omega arith

-- one more byte, whose unit was written
pub IsWidened-unit : (big : Bool) (latin1 before old new unit : List ℕ) (at : ℕ) → IsWidened big latin1 before old at → ((k : ℕ) → Fits w8 (slice_index latin1 k))
    → at + 1 ≤ length latin1 → 2 * at + 2 ≤ length new → unit ≡ unit_bytes big (slice_index latin1 at)
    → take (2 * at + 2) new ≡ take (2 * at) old ++ unit → drop (2 * at + 2) new ≡ drop (2 * at + 2) old
    → IsWidened big latin1 before new (at + 1)
IsWidened-unit big latin1 before old new unit at done bytes within fits is wrote rest =
    IsWidened-next big latin1 before old new at 1 done within fits
    (wrote ∙ ap (λ u. take (2 * at) old ++ u) (is ∙ one-byte big latin1 at (omega (arith, within)) bytes)) rest

-- ---- a block that begins before the last byte that was written

-- the first bytes are there
widened_front : (big : Bool) (latin1 before old : List ℕ) (at m : ℕ) → IsWidened big latin1 before old at → ((k : ℕ) → Fits w8 (slice_index latin1 k)) → m ≤ at
    → IsWidened big latin1 old old m
widened_front big latin1 before old at m done fits less = record {
  within = omega (arith, done.within, less);
  fits = omega (arith, done.fits, less);
  wrote =
      sym (take-take (2 * m) (2 * at) old (omega (arith, less)))
      ∙ ap (take (2 * m)) (done.wrote ∙ ap (encode big) split ∙ encode-append big front next)
      ∙ take_at (encode big front) (encode big next) (2 * m) long;
  rest = refl;
}
  where
    front : List ℕ
    front = take m latin1

    next : List ℕ
    next = take (at - m) (drop m latin1)

    split : take at latin1 ≡ front ++ next
    split =
        let on : at ≡ m + (at - m) = omega (arith, less) in
        ap (λ k. take k latin1) on ∙ take-add m (at - m) latin1

    long : length (encode big front) ≡ 2 * m
    long =
        sym (ap length (encode-bytes big front (chunk-fits w8 0 m latin1 fits))) ∙ length-units_bytes big front
        ∙ ap (λ n. 2 * n) (length-take-le m latin1 (omega (arith, done.within, less)))

-- what stays after a place stays after a later one
drop-further : (m n : ℕ) (xs ys : List ℕ) → m ≤ n → drop m xs ≡ drop m ys → drop n xs ≡ drop n ys
drop-further m n xs ys later same = grind (arith, drop-drop (n - m) m xs, drop-drop (n - m) m ys)

pub IsWidened-again : (big : Bool) (latin1 before old new : List ℕ) (at m n : ℕ) → IsWidened big latin1 before old at → ((k : ℕ) → Fits w8 (slice_index latin1 k))
    → m ≤ at → at ≤ m + n → m + n ≤ length latin1 → 2 * m + 2 * n ≤ length new
    → take (2 * m + 2 * n) new ≡ take (2 * m) old ++ encode big (take n (drop m latin1)) → drop (2 * m + 2 * n) new ≡ drop (2 * m + 2 * n) old
    → IsWidened big latin1 before new (m + n)
IsWidened-again big latin1 before old new at m n done bytes less later within fits wrote rest = grind (arith, IsWidened-next, widened_front, drop-further)
