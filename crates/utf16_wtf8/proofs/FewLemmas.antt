-- How many bytes a chunk of WTF-8 leaves.
use Rattle.std.proofs.Common.{◌≡◌, ℕ, ◌+◌, ◌≤◌, Bool, false, List, None, ⊎_elim, length, take, subst, arith, length-drop}
use Rattle.utf16_transcode.specs.declared.progress.Stop.{Stop}
use Rattle.utf16_transcode.specs.declared.progress.Stop.TheVariants.{Incomplete}
use Rattle.utf16_wtf8.specs.FromWtf8.{EndsLeading, IsIllFormedWtf8, LeavesLeading, StopsFromWtf8Partial}
use Rattle.utf16_wtf8.proofs.LongerLemmas.{truncated_few}

ill_formed_few : (bytes : List ℕ) (read : ℕ) → IsIllFormedWtf8 bytes read None → length bytes ≤ read + 3
ill_formed_few bytes read is = grind (arith, truncated_few, length-drop)

-- a truncated code point, or a leading surrogate, or both
pub few_left : (big : Bool) (bytes : List ℕ) (read left : ℕ) (stop : Stop) → stop ≡ Incomplete → StopsFromWtf8Partial big bytes read left stop → length bytes ≤ read + 6
few_left big bytes read left stop is here = ⊎_elim
    (λ (cut : IsIllFormedWtf8 bytes read None × EndsLeading (take read bytes) false). let few = ill_formed_few bytes read cut.0 in omega arith)
    (λ (leaves : LeavesLeading bytes read). ⊎_elim
    (λ (end : read + 3 ≡ length bytes). omega arith)
    (λ (cut : IsIllFormedWtf8 bytes (read + 3) None). let few = ill_formed_few bytes (read + 3) cut in omega arith)
    leaves.after)
    (subst (StopsFromWtf8Partial big bytes read left) is here)
