-- How a lossy direction decomposes any bytes.
use Rattle.std.specs.Prelude.{◌≡◌, ℕ, ◌≤◌, List, [], ◌++◌, length, map}

-- the bytes are items, one after another, and a tail that more bytes could change; each item is
-- written as one code point: a character as itself, an ill-formed sequence as its replacement
pub record StreamSplit : Type 1 where
  pub Item : Type 0
  pub items : List ℕ → List Item
  pub tail : List ℕ → List ℕ
  pub shown : Item → ℕ
  -- what is written for a tail if no more bytes come
  pub at_end : List ℕ → List ℕ
  -- what is written for all bytes if no more come
  pub whole : List ℕ → List ℕ

-- the code points that are certain, whatever bytes follow
abbrev pub decided : StreamSplit → List ℕ → List ℕ
decided parts bytes = map parts.shown (parts.items bytes)

-- bytes may come in chunks: the items of the first chunks stay, and what follows depends only on
-- their tail; a tail has at most three bytes and no item
pub record IsSplitInChunks (parts : StreamSplit) : Type 0 where
  pub items : (front back : List ℕ)
      → parts.items (front ++ back) ≡ parts.items front ++ parts.items (parts.tail front ++ back)
  pub tail : (front back : List ℕ) → parts.tail (front ++ back) ≡ parts.tail (parts.tail front ++ back)
  pub nothing : parts.tail [] ≡ []
  pub few : (bytes : List ℕ) → length (parts.tail bytes) ≤ 3
  pub undecided : (bytes : List ℕ) → parts.tail bytes ≡ bytes → parts.items bytes ≡ []
  pub no_end : parts.at_end [] ≡ []
  pub one : (tail : List ℕ) → length (parts.at_end tail) ≤ 1
  pub whole : (bytes : List ℕ) → parts.whole bytes ≡ decided parts bytes ++ parts.at_end (parts.tail bytes)
