-- What a predicate says of the characters of a text: which one a search finds, what a trim takes
-- off, and where a split cuts. `says c b`: the predicate may answer b for the character c.
use Rattle.std.specs.Prelude.{◌≡◌, ℕ, ◌+◌, ◌-◌, Bool, true, false, All, List, [], ◌∷◌, ◌++◌, Option, None, Some, MatchOption, length}
use Rattle.utf16_units.specs.Encoding.{size}
use Rattle.utf16_str.specs.Window.{bytes_between}

-- each answer is the one that a function gives
abbrev pub AnswersBy : (ℕ → Bool → Type 0) → (ℕ → Bool) → Type 0
AnswersBy says k = (c : ℕ) (b : Bool) → says c b → b ≡ k c

-- the predicate answered b for each character of a text
abbrev pub SaysOfEach : (ℕ → Bool → Type 0) → Bool → List ℕ → Type 0
SaysOfEach says b text = All (λ c. says c b) text

-- ---- searches

-- the first character for which the predicate answered true begins at an offset, in bytes
pub record IsFirstAt (says : ℕ → Bool → Type 0) (text : List ℕ) (at : ℕ) : Type 0 where
  pub front : List ℕ
  pub found : ℕ
  pub back : List ℕ
  pub split : text ≡ front ++ found ∷ back
  pub offset : at ≡ size front
  pub before : SaysOfEach says false front
  pub here : says found true

-- the last one does
pub record IsLastAt (says : ℕ → Bool → Type 0) (text : List ℕ) (at : ℕ) : Type 0 where
  pub front : List ℕ
  pub found : ℕ
  pub back : List ℕ
  pub split : text ≡ front ++ found ∷ back
  pub offset : at ≡ size front
  pub here : says found true
  pub after : SaysOfEach says false back

-- what a search from the start found: nothing, if each answer was false
pub record IsFirstWith (says : ℕ → Bool → Type 0) (text : List ℕ) (result : Option ℕ) : Type 0 where
  pub found : MatchOption result (SaysOfEach says false text) (IsFirstAt says text)

-- what a search from the end found
pub record IsLastWith (says : ℕ → Bool → Type 0) (text : List ℕ) (result : Option ℕ) : Type 0 where
  pub found : MatchOption result (SaysOfEach says false text) (IsLastAt says text)

-- ---- trims

-- the characters before the rest had the answer true, and the first one of the rest, if there is
-- one, the answer false
pub record IsTrimmedStartWith (says : ℕ → Bool → Type 0) (text rest : List ℕ) : Type 0 where
  pub front : List ℕ
  pub split : text ≡ front ++ rest
  pub trimmed : SaysOfEach says true front
  pub stops : (c : ℕ) (more : List ℕ) → rest ≡ c ∷ more → says c false

-- the same at the end
pub record IsTrimmedEndWith (says : ℕ → Bool → Type 0) (text rest : List ℕ) : Type 0 where
  pub back : List ℕ
  pub split : text ≡ rest ++ back
  pub trimmed : SaysOfEach says true back
  pub stops : (front : List ℕ) (c : ℕ) → rest ≡ front ++ c ∷ [] → says c false

-- the start was trimmed, and then the end
pub record IsTrimmedWith (says : ℕ → Bool → Type 0) (text rest : List ℕ) : Type 0 where
  pub middle : List ℕ
  pub start : IsTrimmedStartWith says text middle
  pub end : IsTrimmedEndWith says middle rest

-- a part of the bytes of a text begins where the trimmed start ends
pub record LiesAfterTrim (says : ℕ → Bool → Type 0) (text bytes part : List ℕ) : Type 0 where
  pub rest : List ℕ
  pub start : IsTrimmedStartWith says text rest
  pub is : part ≡ bytes_between bytes (size text - size rest) (size text - size rest + length part)

-- ---- splits

-- the text is cut at the first character for which the predicate answered true: what is before it,
-- and what is after it
pub record IsCutWith (says : ℕ → Bool → Type 0) (text part after : List ℕ) : Type 0 where
  pub delimiter : ℕ
  pub split : text ≡ part ++ delimiter ∷ after
  pub before : SaysOfEach says false part
  pub here : says delimiter true

-- the text is cut at the last character for which the predicate answered true
pub record IsLastCutWith (says : ℕ → Bool → Type 0) (text before part : List ℕ) : Type 0 where
  pub delimiter : ℕ
  pub split : text ≡ before ++ delimiter ∷ part
  pub here : says delimiter true
  pub after : SaysOfEach says false part

-- a call of `next` gave a part of what was left of a text, and left the rest. The part ends at the
-- first character for which the predicate answered true; if there is none, it is the last part
abbrev pub GivesPart : (ℕ → Bool → Type 0) → Option (List ℕ) → Option (List ℕ) → Option (List ℕ) → Type 0
GivesPart says None part left = (part ≡ None) × (left ≡ None)
GivesPart says (Some text) None left = ⊥
GivesPart says (Some text) (Some part) None = (part ≡ text) × SaysOfEach says false text
GivesPart says (Some text) (Some part) (Some after) = IsCutWith says text part after

-- the same for `next_back`: the part begins after the last character for which the predicate
-- answered true
abbrev pub GivesLastPart : (ℕ → Bool → Type 0) → Option (List ℕ) → Option (List ℕ) → Option (List ℕ) → Type 0
GivesLastPart says None part left = (part ≡ None) × (left ≡ None)
GivesLastPart says (Some text) None left = ⊥
GivesLastPart says (Some text) (Some part) None = (part ≡ text) × SaysOfEach says false text
GivesLastPart says (Some text) (Some part) (Some before) = IsLastCutWith says text before part
