-- What a string feeds a hasher.
use Rattle.std.specs.Prelude.{ℕ, List, [], ◌∷◌, ◌++◌, length}
use Rattle.std.specs.Hash.{HashWrites, usize}

-- the length of the bytes, and then all of them in one write, like std's hash of a slice of bytes
abbrev pub hash_writes : List ℕ → HashWrites
hash_writes bytes = usize (length bytes) ++ bytes ∷ []
