-- What a clause sees of a `WStrMut`.
use Rattle.std.specs.Prelude.{◌≡◌, ℕ, List, Result}
use Rattle.utf16_units.specs.declared.byte_order.Utf16Order.{Ghosts}
use Rattle.utf16_units.specs.Encoding.{text_of}
use Rattle.utf16_units.specs.declared.error.Utf16Error.{Utf16Error}
use Rattle.utf16_str.specs.declared.wstr_mut.WStrMut.{WStrMut}
use Rattle.std.specs.Borrow.{Array, Fml, MutBor, RestsIfErr, u8}

module _ {E : Type 0} {order : Ghosts E} where
  -- the mutable borrow of the caller's bytes
  abbrev pub wstr_mut_lent : WStrMut E order → MutBor (List ℕ)
  wstr_mut_lent s = s.raw

  -- the bytes, as they are now
  abbrev pub wstr_mut_bytes : WStrMut E order → List ℕ
  wstr_mut_bytes s = (wstr_mut_lent s).now

  -- the characters of the string
  abbrev pub wstr_mut_text : WStrMut E order → List ℕ
  wstr_mut_text s = text_of order.BIG (wstr_mut_bytes s)

  -- bytes that are lent for a view: after an error they end unchanged, and otherwise as the view
  -- leaves them
  abbrev pub UnchangedOnErr : MutBor (List ℕ) → Result (WStrMut E order) Utf16Error → Fml
  UnchangedOnErr lent answer = RestsIfErr (Array u8 0) lent (λ s. (wstr_mut_lent s).ghost_name) answer (λ bytes. bytes ≡ lent.now)
