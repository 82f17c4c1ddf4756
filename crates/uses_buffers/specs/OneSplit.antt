-- The text of the one split of a stream, and the text that resuming by the error gives.
use Rattle.std.specs.Prelude.{◌≡◌, ℕ, Bool, List, [], ◌∷◌, ◌++◌, encode_utf8_all}
use Rattle.utf16_units.specs.Recipe.{Resumes}
use Rattle.utf16_tools.specs.Split.{Item, Split, whole_lossy_chars}

-- the bytes have a split, they have no other, and the UTF-8 is the encoding of its text
pub record IsTextOfOneSplit (big : Bool) (bytes utf8 : List ℕ) : Type 0 where
  pub items : List Item
  pub tail : List ℕ
  pub split : Split big bytes items tail
  pub only : (others : List Item) (other : List ℕ) → Split big bytes others other → (others ≡ items) × (other ≡ tail)
  pub text : utf8 ≡ encode_utf8_all (whole_lossy_chars items tail)

-- the text at the end of a stream: one more U+FFFD if bytes are pending
abbrev pub text_at_end : List ℕ → List ℕ → List ℕ
text_at_end text [] = text
text_at_end text (first ∷ after) = text ++ 0xFFFD ∷ []

-- a reader who resumes by the error over the chunks gets a text, and the UTF-8 is the encoding of
-- this text at the end of the stream
pub record IsTextByResuming (big : Bool) (pieces : List (List ℕ)) (utf8 : List ℕ) : Type 0 where
  pub text : List ℕ
  pub kept : List ℕ
  pub resumes : Resumes big [] pieces text kept
  pub written : utf8 ≡ encode_utf8_all (text_at_end text kept)
