-- The most bytes that any bytes have in WTF-8, and that WTF-8 has in UTF-16, and that a call with
-- this capacity does not stop for lack of space.
use Rattle.std.proofs.Common.{◌≡◌, ◌≢◌, ℕ, ◌+◌, ◌*◌, ◌/◌, ◌-◌, ◌<◌, ◌≤◌, Bool, List, ◌++◌, length, take, drop, subst, arith, length-append, length-take-le}
use Rattle.std.specs.List.{flat_map}
use Rattle.utf16_units.proofs.FirstChar.{AreBytes}
use Rattle.utf16_units.proofs.SplitIllFormed.{AreBytes-take}
use Rattle.utf16_transcode.specs.StreamSplit.{decided}
use Rattle.utf16_transcode.specs.WholeText.{WritesWhole}
use Rattle.utf16_transcode.specs.Transcoded.{Writes}
use Rattle.utf16_transcode.specs.declared.progress.Stop.{Stop}
use Rattle.utf16_transcode.specs.declared.progress.Stop.TheVariants.{NoSpace}
use Rattle.utf16_wtf8.specs.FromWtf8.{StopsFromWtf8, StopsFromWtf8Partial, TranscodesFromWtf8}
use Rattle.utf16_wtf8.specs.ToWtf8.{StopsToWtf8, points_of, wtf8_split}
use Rattle.utf16_wtf8.specs.Wtf8.{generalized_utf8}
use Rattle.utf16_wtf8.proofs.LenLemmas.{decided_len, points_len}
use Rattle.utf16_wtf8.proofs.TailLemmas.{next_filled, next_fits}
use Rattle.dethrux.proofs.Bounds.{are_bytes, decided_within, lossy_within, whole_is_longer}

-- ---- to WTF-8

-- all code units of any bytes
pub points_within : (big : Bool) (raw : List ℕ) → AreBytes raw → length (flat_map generalized_utf8 (points_of big raw)) ≤ length raw / 2 * 3
points_within big raw are =
    let n = length raw / 2 * 2 in
    let long = length-take-le n raw (omega arith) in
    omega (arith, points_len big raw are, lossy_within big (take n raw) (AreBytes-take n raw are))

-- what is certain of them
pub decided_wtf8_within : (big : Bool) (raw : List ℕ) → AreBytes raw → length (flat_map generalized_utf8 (decided (wtf8_split big) raw)) ≤ length raw / 2 * 3
decided_wtf8_within big raw are = omega (arith, decided_len big raw are, decided_within big raw are)

-- the same for a chunk and at most three pending bytes before it
pub fed_wtf8_within : (big : Bool) (pending chunk : List ℕ) → length pending ≤ 3 → AreBytes pending → AreBytes chunk
    → length (flat_map generalized_utf8 (decided (wtf8_split big) (pending ++ chunk))) ≤ (length chunk + 3) / 2 * 3
fed_wtf8_within big pending chunk few first second =
    let all = length-append pending chunk in
    let within = decided_wtf8_within big (pending ++ chunk) (are_bytes pending chunk first second) in
    omega arith

pub to_wtf8_fits : (big : Bool) (raw to : List ℕ) (read written : ℕ) (stop : Stop) → AreBytes raw → WritesWhole (points_of big) generalized_utf8 raw to read written
    → StopsToWtf8 big (drop read raw) (length to - written) stop → length raw / 2 * 3 ≤ length to → stop ≢ NoSpace
to_wtf8_fits big raw to read written stop are shows here enough full =
    let next = subst (StopsToWtf8 big (drop read raw) (length to - written)) full here in
    omega (arith, enough, points_within big raw are, whole_is_longer (points_of big) generalized_utf8 raw to read written shows next)

-- ---- from WTF-8

module _ (big : Bool) (wtf8 to : List ℕ) (read written : ℕ) (wrote : Writes (TranscodesFromWtf8 big) wtf8 to read written) where
  pub from_wtf8_fits : (stop : Stop) → StopsFromWtf8 big wtf8 read (length to - written) stop → 2 * length wtf8 ≤ length to → stop ≢ NoSpace
  from_wtf8_fits stop here enough full = omega (arith, enough, next_fits big wtf8 to read written wrote (subst (StopsFromWtf8 big wtf8 read (length to - written)) full here))

  pub from_partial_fits : (stop : Stop) → StopsFromWtf8Partial big wtf8 read (length to - written) stop → 2 * length wtf8 ≤ length to → stop ≢ NoSpace
  from_partial_fits stop here enough full = omega (arith, enough, next_fits big wtf8 to read written wrote (subst (StopsFromWtf8Partial big wtf8 read (length to - written)) full here))

  pub from_partial_filled : (stop : Stop) → StopsFromWtf8Partial big wtf8 read (length to - written) stop → stop ≡ NoSpace → length to < written + 4
  from_partial_filled stop here full = next_filled big wtf8 to read written wrote (subst (StopsFromWtf8Partial big wtf8 read (length to - written)) full here)
