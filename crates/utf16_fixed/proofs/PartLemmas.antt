-- What a call wrote of the rest of an input to the rest of a buffer follows what was written
-- before.
use Rattle.std.proofs.Common.{rules, ◌≡◌, ℕ, ◌+◌, ◌-◌, List, length, length-drop, ap, ◌∙◌}
use Rattle.std.proofs.lemmas.List.{take_rest}
use borrow.Rule.Slice.PartMut.{put_mid}
use Rattle.utf16_units.proofs.IllFormedLemmas.{rest_from}
use Rattle.utf16_transcode.specs.Transcoded.{Joins, Writes}
use Rattle.utf16_transcode.proofs.TranscodedLemmas.{WritesAt-put, Writes-then}

pub Writes-rest : {SameText : List ℕ → List ℕ → Type 0} → Joins SameText → (input old part : List ℕ) (read at n w : ℕ) → Writes SameText input old read at
    → Writes SameText (rest_from input read) part n w → length part ≡ length old - at → Writes SameText input (put_mid at (length old - at) old part) (read + n) (at + w)
Writes-rest joins input old part read at n w before rest long = search (rules, Writes-then, WritesAt-put)

-- how much is left
pub length-rest : (input : List ℕ) (read : ℕ) → length (rest_from input read) ≡ length input - read
length-rest input read = ap length (take_rest input read) ∙ length-drop read input
