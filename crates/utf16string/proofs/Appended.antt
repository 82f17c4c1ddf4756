-- What is said of texts appended: which are empty, and when one did not fit.
use Rattle.std.proofs.Common.{◌≡◌, ◌<◌, ◌≤◌, ◌∙◌, ⊎_elim, ℕ, true, false, List, [], ◌∷◌, ap, arith, length, sym}
use Rattle.std.proofs.Math.Utf8.{encodes}
use Rattle.std.proofs.lemmas.Bool.{cases_lt, false≢true}
use Rattle.std.proofs.lemmas.Str.{chars-nil, encodes-chars}
use Rattle.std.specs.Str.{IsUtf8, chars}
use Rattle.utf16_units.specs.Encoding.{size}
use Rattle.utf16_str.proofs.CutFront.{no_part}

-- a call that succeeds if there is room had none
pub refused : (need room : ℕ) → (need ≤ room → false ≡ true) → room < need
refused need room fits = ⊎_elim (λ (none : room < need). none) (λ (some : need ≤ room). absurd (false≢true (fits some))) (cases_lt room need)

-- a string whose characters take no bytes is empty
pub no_chars : (bytes : List ℕ) → IsUtf8 bytes → size (chars bytes) ≡ 0 → length bytes ≡ 0
unfolding chars
no_chars bytes utf8 none = ap length (sym (encodes-chars bytes utf8) ∙ ap encodes (no_part (chars bytes) none))

pub no_text : (bytes : List ℕ) → length bytes ≡ 0 → chars bytes ≡ []
no_text [] none = chars-nil
no_text (b ∷ bytes) none = absurd (omega (arith, none))
