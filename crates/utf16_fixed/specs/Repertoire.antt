-- The repertoires of characters, and which of them a text needs.
use Rattle.std.specs.Prelude.{ℕ, ◌<◌, ◌≤◌, List, All}
use Rattle.utf16_fixed.specs.declared.repertoire.Repertoire.{Repertoire}
use Rattle.utf16_fixed.specs.declared.repertoire.Repertoire.TheVariants.{Ascii, Latin1, Bmp, Unicode}

-- the characters of a repertoire are those below its limit: ASCII (Unicode, block C0 Controls and
-- Basic Latin), Latin-1 (and block C1 Controls and Latin-1 Supplement), the Basic Multilingual
-- Plane (Unicode, section 2.8), and all
abbrev pub limit : Repertoire → ℕ
limit Ascii = 0x80
limit Latin1 = 0x100
limit Bmp = 0x1_0000
limit Unicode = 0x11_0000

-- the repertoire has each character of the text
abbrev pub HasAll : Repertoire → List ℕ → Type 0
HasAll repertoire text = All (λ c. c < limit repertoire) text

-- the repertoire has each character of the text, and no smaller one does
pub record IsLeast (text : List ℕ) (repertoire : Repertoire) : Type 0 where
  pub has_all : HasAll repertoire text
  pub least : (other : Repertoire) → HasAll other text → limit repertoire ≤ limit other
