-- Calls of the conversions from and to WTF-8, one after another.
use Rattle.std.proofs.Common.{◌≡◌, ◌≢◌, ◌⊎◌, inl, inr, ℕ, ◌+◌, ◌<◌, ◌≤◌, Bool, false, List, [], ◌++◌, None, Some, length, take, drop, refl, sym, ap, ◌∙◌, subst, ⊎_elim, arith, append-nil}
use Rattle.std.proofs.lemmas.List.{drop-drop}
use Rattle.std.specs.List.{flat_map}
use Rattle.utf16_units.specs.Encoding.{char_bytes}
use Rattle.utf16_transcode.specs.declared.progress.Stop.{Stop}
use Rattle.utf16_transcode.specs.declared.progress.Stop.TheVariants.{Incomplete, Done, IllFormed, NoSpace}
use Rattle.utf16_transcode.proofs.ToUtf8Parts.{utf8_short}
use Rattle.utf16_wtf8.specs.FromWtf8.{EndsLeading, IsIllFormedWtf8, LeavesLeading, StopsFromWtf8, StopsFromWtf8Partial, TranscodesFromWtf8}
use Rattle.utf16_wtf8.specs.ToWtf8.{StopsToWtf8, points_of}
use Rattle.utf16_wtf8.specs.Wtf8.{code_points, generalized_utf8}
use Rattle.utf16_wtf8.proofs.CodeLemmas.{spelled-nil}
use Rattle.utf16_wtf8.proofs.PointLemmas.{points-nil, units-none}
use Rattle.uses_buffers.specs.FormCalls.{IsCall, Joined}
use Rattle.uses_buffers.specs.Forms.{from_wtf8, from_wtf8_partial, to_wtf8}
use Rattle.uses_buffers.proofs.LoopLemmas.{both_done, both_shown, both_within, none_shown}
use Rattle.uses_buffers.proofs.SeamLemmas.{Apart, Begins, apart_after, begins_some, begins_valid, both_units, ends_or_stays, goes_on, is_wtf8, leading_later, next_later, wtf8_later}

-- ---- to WTF-8

pub to_wtf8_joined : (big : Bool) → Joined (to_wtf8 big)
to_wtf8_joined big input out more at read left room stop first second = record {
  within = both_within input at read first.within second.within;
  writes = both_shown (points_of big) generalized_utf8 input out more at read first.writes second.writes;
  stops = subst (λ r. StopsToWtf8 big r room stop) (drop-drop read at input) second.stops;
}

pub to_wtf8_short : (big : Bool) (input : List ℕ) (n left : ℕ) → StopsToWtf8 big (drop n input) left NoSpace → left < 4
to_wtf8_short big input n left here = omega (arith, here.too_long, utf8_short here.char)

pub to_wtf8_nothing : (big : Bool) (input out : List ℕ) → flat_map generalized_utf8 (points_of big input) ≡ out ++ flat_map generalized_utf8 (points_of big (drop 0 input)) → out ≡ []
to_wtf8_nothing big input out same = none_shown (points_of big) generalized_utf8 input out same

-- at most an odd byte is left if a call did not stop for lack of space
few_left : (big : Bool) (rest : List ℕ) (left : ℕ) (stop : Stop) → stop ≢ NoSpace → StopsToWtf8 big rest left stop → length rest ≤ 1
few_left big rest left Done other here = omega (arith, ap length here)
few_left big rest left (IllFormed len) other here = absurd here
few_left big rest left Incomplete other here = omega (arith, here)
few_left big rest left NoSpace other here = absurd (other refl)

pub to_wtf8_end : (big : Bool) (input out : List ℕ) (n left : ℕ) (stop : Stop) → stop ≢ NoSpace → IsCall (to_wtf8 big) input out n left stop
    → out ≡ flat_map generalized_utf8 (points_of big input)
to_wtf8_end big input out n left stop other call =
    let none = ap code_points (units-none big (drop n input) (few_left big (drop n input) left stop other call.stops)) ∙ points-nil in
    sym (call.writes ∙ ap (λ points. out ++ flat_map generalized_utf8 points) none ∙ append-nil out)

-- ---- from WTF-8

pub from_wtf8_nothing : (big : Bool) (input out : List ℕ) → TranscodesFromWtf8 big (take 0 input) out → out ≡ []
from_wtf8_nothing big input out given = given.units ∙ ap (flat_map (char_bytes big)) (spelled-nil given.points given.spells.spelled)

-- a call that is given the rest, if what was read may come before it
pub from_wtf8_after : (big : Bool) (input out more : List ℕ) (at read room : ℕ) (stop : Stop) → at ≤ length input → TranscodesFromWtf8 big (take at input) out → Apart input at
    → IsCall (from_wtf8 big) (drop at input) more read room stop → IsCall (from_wtf8 big) input (out ++ more) (at + read) room stop
from_wtf8_after big input out more at read room stop within given clear second = record {
  within = both_within input at read within second.within;
  writes = both_units big input out at within given clear more read second.within second.writes;
  stops = why stop second.stops;
} where
  why : (stop : Stop) → StopsFromWtf8 big (drop at input) read room stop → StopsFromWtf8 big input (at + read) room stop
  why Done here = both_done input at read within here
  why (IllFormed len) here = wtf8_later big input out at within given clear read (Some len) here
  why Incomplete here = wtf8_later big input out at within given clear read None here
  why NoSpace here = next_later big input out at within given clear read room here

pub from_wtf8_joined : (big : Bool) → Joined (from_wtf8 big)
from_wtf8_joined big input out more at read left room stop first second =
    from_wtf8_after big input out more at read room stop first.within first.writes (apart_after big input at left (is_wtf8 first.writes) first.stops) second

-- ---- a chunk of WTF-8

-- a call that is given the rest: a code point begins it, or no leading surrogate is before it
pub from_wtf8_partial_after : (big : Bool) (input out more : List ℕ) (at read room : ℕ) (stop : Stop) → at ≤ length input → TranscodesFromWtf8 big (take at input) out → Apart input at
    → Begins (drop at input) ⊎ EndsLeading (take at input) false
    → IsCall (from_wtf8_partial big) (drop at input) more read room stop → IsCall (from_wtf8_partial big) input (out ++ more) (at + read) room stop
from_wtf8_partial_after big input out more at read room stop within given clear either second = record {
  within = both_within input at read within second.within;
  writes = both_units big input out at within given clear more read second.within second.writes;
  stops = why stop second.stops;
} where
  ends : (Begins (drop at input) → 0 < read) → EndsLeading (take read (drop at input)) false → EndsLeading (take (at + read) input) false
  ends some = ends_or_stays big input out at within given clear more read second.within second.writes
      (⊎_elim (λ (begins : Begins (drop at input)). inl (some begins)) (λ (stays : EndsLeading (take at input) false). inr stays) either)

  why : (stop : Stop) → StopsFromWtf8Partial big (drop at input) read room stop → StopsFromWtf8Partial big input (at + read) room stop
  why Done here = (both_done input at read within here.0, ends (λ begins. omega (arith, here.0, begins_some (drop at input) begins)) here.1)
  why (IllFormed len) here = wtf8_later big input out at within given clear read (Some len) here
  why Incomplete here = ⊎_elim
      (λ (cut : IsIllFormedWtf8 (drop at input) read None × EndsLeading (take read (drop at input)) false).
      inl (
        wtf8_later big input out at within given clear read None cut.0,
        ends (λ begins. begins_valid (drop at input) begins read None cut.0) cut.1,
      ))
      (λ (leaves : LeavesLeading (drop at input) read). inr (leading_later big input out at within given clear read leaves))
      here
  why NoSpace here = next_later big input out at within given clear read room here

pub from_wtf8_partial_joined : (big : Bool) → Joined (from_wtf8_partial big)
from_wtf8_partial_joined big input out more at read left room stop first second =
    let front = is_wtf8 first.writes in
    from_wtf8_partial_after big input out more at read room stop first.within first.writes (apart_after big input at left front first.stops) (inl (goes_on big input at left front first.stops)) second
