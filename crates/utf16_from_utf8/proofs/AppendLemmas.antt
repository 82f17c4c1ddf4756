-- A text appended to bytes, piece by piece.
use Rattle.std.proofs.Common.{Err, Ok, Result, ◌≡◌, ℕ, ◌+◌, ◌<◌, ◌≤◌, Bool, List, [], ◌∷◌, ◌++◌, append_assoc, encode_utf8_all, length, length-append, sym, ap, ◌∙◌, ⊎_elim, arith}
use Rattle.std.proofs.lemmas.Bool.{cases_lt, false≢true}
use Rattle.std.proofs.lemmas.Str.{IsCharBoundary-past_char, chars-append, len_utf8_bounds}
use Rattle.std.specs.Char.{len_utf8}
use Rattle.std.specs.Result.{IsOk, OnOk}
use Rattle.std.specs.Str.{IsCharBoundary, IsUtf8, chars}
use Rattle.utf16_units.specs.Encoding.{encode, size}
use Rattle.utf16_units.proofs.EncodingLemmas.{encode-append, length-encode}

-- what holds of a value, if there is one
pub when-ok : {T E P : Type 0} (r : Result T E) → IsOk r → OnOk r P → P
when-ok (Ok x) is holds = holds
when-ok (Err e) is holds = absurd (false≢true is)

-- the last boundary up to a place is not the start, since the first character ends before it
pub piece-some : (bytes : List ℕ) (n most : ℕ) → IsUtf8 bytes → 4 ≤ most → 0 < length bytes → ((i : ℕ) → n < i → i ≤ most → ¬ (IsCharBoundary bytes i)) → 0 < n
piece-some bytes n most ([], (scalars, is)) room some nearest = absurd (omega (arith, some, ap length is))
piece-some bytes n most (c ∷ cs, (scalars, is)) room some nearest = ⊎_elim
    (λ (none : n < 1).
    let bounds = len_utf8_bounds c in
    absurd (nearest (0 + len_utf8 c) (omega (arith, none, bounds.0)) (omega (arith, room, bounds.1))
    (IsCharBoundary-past_char bytes (encode_utf8_all cs) 0 c (omega arith) (c ∷ cs, (scalars, is)) (sym is))))
    (λ (any : 1 ≤ n). any)
    (cases_lt n 1)

-- if the whole text fits, the rest of it does
pub rest-fits : (big : Bool) (old items text rest : List ℕ) (room : ℕ) → items ++ encode big (chars rest) ≡ old ++ encode big (chars text) → length old + size (chars text) ≤ room → length items + size (chars rest) ≤ room
rest-fits big old items text rest room whole fits =
    omega (arith, fits, ap length whole, length-append old (encode big (chars text)), length-encode big (chars text), length-append items (encode big (chars rest)), length-encode big (chars rest))

-- a text is a piece of it, followed by the next pieces
module _ (big : Bool) (items all text piece next : List ℕ) (utf8 : IsUtf8 piece) (split : text ≡ piece ++ next) (done : items ++ encode big (chars text) ≡ all) where
  pub pieces-done : (items ++ encode big (chars piece)) ++ encode big (chars next) ≡ all
  pieces-done =
      append_assoc items (encode big (chars piece)) (encode big (chars next))
      ∙ ap (λ t. items ++ t) (sym (encode-append big (chars piece) (chars next)) ∙ ap (encode big) (sym (chars-append piece next utf8) ∙ ap chars (sym split)))
      ∙ done

  pub pieces-room : (room : ℕ) → length all ≤ room → length items + size (chars piece) ≤ room
  pieces-room room fits =
      omega (arith, fits, ap length pieces-done, length-append (items ++ encode big (chars piece)) (encode big (chars next)), length-append items (encode big (chars piece)), length-encode big (chars piece))
