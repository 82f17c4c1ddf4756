-- How many ill-formed sequences UTF-8 has after its first chunk, and after the last one.
use Rattle.std.proofs.Common.{◌≡◌, ℕ, suc, ◌+◌, ◌<◌, List, ◌++◌, Option, None, Some, length, drop, refl, sym, ap, ◌∙◌, arith, append_assoc, drop_at, length-append, length-drop}
use Rattle.std.specs.Option.{unwrap_or}
use Rattle.std.specs.Str.{IsValidUpTo}
use Rattle.std.specs.Str.Lossy.{utf8_error_len, utf8_invalid_len, utf8_valid_len}
use Rattle.utf8_bytes.proofs.ValidLemmas.{IsValidUpTo-computed, all_valid}
use Rattle.utf16_transcode.specs.Replaced.{ill_formed_utf8_count}
use Rattle.utf16_transcode.proofs.CountUtf8Lemmas.{count_cut_off, count_fault, count_text}

-- no bytes have none
pub count_nothing : (bytes : List ℕ) → length bytes ≡ 0 → ill_formed_utf8_count bytes ≡ 0
count_nothing bytes none = count_text bytes (all_valid bytes (omega (arith, none)))

module _ (bytes valid invalid rest : List ℕ) (split : bytes ≡ valid ++ (invalid ++ rest)) (front : length valid ≡ utf8_valid_len bytes) where
  long : length bytes ≡ length valid + (length invalid + length rest)
  long = ap length split ∙ length-append valid (invalid ++ rest) ∙ ap (λ n. length valid + n) (length-append invalid rest)

  after : (len : ℕ) → length invalid ≡ len → drop (utf8_valid_len bytes + len) bytes ≡ rest
  after len same =
      ap (drop (utf8_valid_len bytes + len)) (split ∙ sym (append_assoc valid invalid rest))
      ∙ drop_at (valid ++ invalid) rest (utf8_valid_len bytes + len) (omega (arith, length-append valid invalid, front, same))

  by_error : (error : Option ℕ) → IsValidUpTo bytes (utf8_valid_len bytes) → utf8_error_len (drop (utf8_valid_len bytes) bytes) ≡ error
      → length invalid ≡ unwrap_or error (length (drop (utf8_valid_len bytes) bytes)) → ill_formed_utf8_count bytes ≡ suc (ill_formed_utf8_count rest)
  by_error None at none same =
      let left = count_nothing rest (omega (arith, long, front, same, length-drop (utf8_valid_len bytes) bytes)) in
      omega (arith, left, count_cut_off bytes (utf8_valid_len bytes) at none)
  by_error (Some len) at some same = count_fault bytes (utf8_valid_len bytes) at len some ∙ ap (λ b. suc (ill_formed_utf8_count b)) (after len same)

  -- the ill-formed sequence of the chunk counts as one
  pub count_chunk : length invalid ≡ utf8_invalid_len (drop (utf8_valid_len bytes) bytes) → 0 < length invalid
      → ill_formed_utf8_count bytes ≡ suc (ill_formed_utf8_count rest)
  count_chunk fault some = by_error _ (IsValidUpTo-computed bytes (omega (arith, long, front, some))) refl fault

  -- the last chunk has none
  pub count_last : length invalid ≡ 0 → length rest ≡ 0 → ill_formed_utf8_count bytes ≡ 0
  count_last none left = count_text bytes (all_valid bytes (omega (arith, long, front, none, left)))
