-- A text that overwrites the same number of bytes of another.
use Rattle.std.proofs.Common.{◌≡◌, ℕ, Bool, true, List, ◌+◌, ◌≤◌, arith, length, sym, ap, subst, ◌∙◌}
use Rattle.std.specs.List.{splice}
use Rattle.utf16_units.specs.Boundary.{IsBoundary}
use Rattle.utf16_units.specs.Edit.{overwrite_at}
use Rattle.utf16_units.specs.Encoding.{Encodes, is_utf16, size, text_of}
use Rattle.utf16_units.proofs.EditLemmas.{Encodes-checked, Encodes-overwritten, boundary-within}
use Rattle.utf16_units.proofs.EncodingLemmas.{IsUtf16-from_Encodes, length-text, text_of-Encodes}

module _ (big : Bool) (bytes more other : List ℕ) (i : ℕ) (checked : is_utf16 big bytes ≡ true) (e : Encodes big other more)
    (end : IsBoundary (text_of big bytes) (i + size other)) where
  long : length more ≡ size other
  long = length-text big more (IsUtf16-from_Encodes big other more e) ∙ ap size (text_of-Encodes big other more e)

  pub over-within : i + length more ≤ length bytes
  over-within = omega (arith, long, boundary-within big bytes (i + size other) checked end)

  pub Encodes-over : (new : List ℕ) → IsBoundary (text_of big bytes) i → new ≡ splice bytes i (i + length more) more → Encodes big (overwrite_at (text_of big bytes) i other) new
  Encodes-over new start spelled =
      subst (Encodes big (overwrite_at (text_of big bytes) i other))
      (sym (spelled ∙ ap (λ n. splice bytes i (i + n) more) long))
      (Encodes-overwritten big (text_of big bytes) bytes i other more (Encodes-checked big bytes checked) start end e)
