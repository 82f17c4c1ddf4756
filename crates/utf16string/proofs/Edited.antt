-- Bytes after a call that edits them, or returns an error and leaves them unchanged.
use Rattle.std.proofs.Common.{◌≡◌, ℕ, ◌+◌, ◌++◌, length-append, Bool, true, List, Result, Ok, Err, OnOk, OnErr, drop, length, sym, ap, subst, take_at, ◌∙◌}
use Rattle.std.specs.List.{refill}
use Rattle.utf16_units.specs.Encoding.{Encodes, is_utf16, text_of}
use Rattle.utf16_units.proofs.EditLemmas.{checked-Encodes}
use Rattle.utf16_units.proofs.EncodingLemmas.{text_of-Encodes}

-- the bytes spell the edited text if the call succeeded, and are unchanged if not
module _ {X Y : Type 0} (big : Bool) (old new edited more : List ℕ) (checked : is_utf16 big old ≡ true) (e : Encodes big edited more) where
  pub edited_text : (r : Result X Y) → OnOk r (new ≡ more) → OnOk r (text_of big new ≡ edited)
  edited_text (Ok x) ok = ap (text_of big) ok ∙ text_of-Encodes big edited more e
  edited_text (Err y) ok = tt

  pub still_text : {P : Type 0} → (P → new ≡ old) → (r : Result X Y) → OnOk r (new ≡ more) → OnErr r P → is_utf16 big new ≡ true
  still_text left (Ok x) ok err = checked-Encodes big edited new (subst (Encodes big edited) (sym ok) e)
  still_text left (Err y) ok err = subst (λ bytes. is_utf16 big bytes ≡ true) (sym (left err)) checked

-- a vector whose elements were all written through a borrow holds what was written
pub written_back : (bytes new : List ℕ) (n : ℕ) → n ≡ length bytes → length new ≡ length bytes → refill n bytes new ≡ new
written_back bytes new n len same = take_at new (drop (length new) bytes) n (same ∙ sym len)

-- the length if the call succeeded
pub edited_len : {X Y : Type 0} (old new more : List ℕ) (n : ℕ) → length more ≡ n → (r : Result X Y) → OnOk r (new ≡ old ++ more) → OnOk r (length new ≡ length old + n)
edited_len old new more n long (Ok x) ok = ap length ok ∙ length-append old more ∙ ap (λ k. length old + k) long
edited_len old new more n long (Err y) ok = tt
