-- Calls of the conversions from and to UTF-32, one after another.
use Rattle.std.proofs.Common.{◌≡◌, ℕ, ◌+◌, ◌<◌, ◌≤◌, Bool, List, [], Option, None, Some, length, take, drop, sym, ap, ◌∙◌, subst, arith, length-drop, take_all}
use Rattle.std.proofs.lemmas.List.{drop-drop, get_or-drop}
use Rattle.std.specs.Char.{IsScalar}
use Rattle.utf16_units.specs.Encoding.{IsUtf16, char_bytes, encode}
use Rattle.utf16_units.specs.IllFormed.{IsIllFormedAt}
use Rattle.utf16_units.specs.Split.{lossy_text}
use Rattle.utf16_units.proofs.EncodingLemmas.{Encodes-unique, IsUtf16-from_Encodes, encode-nil}
use Rattle.utf16_transcode.specs.Stops.{IsIllFormedUtf16, StopsLossy}
use Rattle.utf16_transcode.specs.declared.progress.Stop.{Stop}
use Rattle.utf16_transcode.proofs.ToUtf8Lemmas.{faults_there}
use Rattle.utf16_transcode.proofs.ToUtf8Parts.{nil_text}
use Rattle.utf16_fixed.specs.Stops32.{IsIllFormedUtf32}
use Rattle.utf16_fixed.specs.Utf32.{IsUtf32, ShowsInUtf16, TranscodesFromUtf32, TranscodesToUtf32, lossy_utf32, utf32_units}
use Rattle.utf16_fixed.proofs.LossyLemmas.{units_of_text}
use Rattle.utf16_fixed.proofs.ShowsLemmas.{shown_joins}
use Rattle.utf16_fixed.proofs.TextLemmas.{utf16_joins, utf32_empty, utf32_joins}
use Rattle.uses_buffers.specs.FormCalls.{Completes, Joined}
use Rattle.uses_buffers.specs.Forms.{from_utf32, from_utf32_lossy, to_utf32, to_utf32_lossy}
use Rattle.uses_buffers.proofs.FormLemmas.{lossy_end, nothing_left, strict_joined}
use Rattle.uses_buffers.proofs.LoopLemmas.{both_given, both_within}

-- ---- ill-formed sequences

-- an ill-formed sequence of UTF-16 is there without the prefix before it
abbrev pub FoundThere : Bool → Type 0
FoundThere big = (input : List ℕ) (n : ℕ) (len : Option ℕ) → IsIllFormedUtf16 big input n len → (n < length input) × IsIllFormedAt big (drop n input) len

-- what follows the longest prefix of the rest follows that of the whole input
pub ill_formed_later : (big : Bool) → FoundThere big → (input : List ℕ) (at read : ℕ) (len : Option ℕ) → at ≤ length input → IsUtf16 big (take (at + read) input)
    → IsIllFormedUtf16 big (drop at input) read len → IsIllFormedUtf16 big input (at + read) len
ill_formed_later big there input at read len within text found =
    let here = there (drop at input) read len found in
    faults_there big input (at + read) len (omega (arith, here.0, length-drop at input)) text (subst (λ b. IsIllFormedAt big b len) (drop-drop read at input) here.1)

-- the same for UTF-32
utf32_later : (units : List ℕ) (at read : ℕ) (len : Option ℕ) → IsUtf32 (take (at + read) units) → IsIllFormedUtf32 (drop at units) read len → IsIllFormedUtf32 units (at + read) len
utf32_later units at read None valid here = here
utf32_later units at read (Some len) valid here = (
  here.0,
  record {
    within = omega (arith, here.1.within, length-drop at units);
    valid = valid;
    ill_formed = λ scalar. here.1.ill_formed (subst IsScalar (sym (get_or-drop at units read 0)) scalar);
  },
)

-- ---- to UTF-32

pub to_utf32_joined : (big : Bool) → FoundThere big → Joined (to_utf32 big)
to_utf32_joined big there =
    strict_joined (TranscodesToUtf32 big) (char_bytes big) utf32_units (IsIllFormedUtf16 big) (utf32_joins big)
    (λ input out at read len within given. ill_formed_later big there input at read len within (IsUtf16-from_Encodes big out (take (at + read) input) given))

pub to_utf32_nothing : (big : Bool) (input out : List ℕ) → TranscodesToUtf32 big (take 0 input) out → out ≡ []
to_utf32_nothing big input out given = Encodes-unique big out [] [] given (utf32_empty big)

-- ---- to UTF-32, lossy

pub to_utf32_lossy_end : (big : Bool) (input out : List ℕ) (n : ℕ) (stop : Stop) → Completes (to_utf32_lossy big) input out n stop → out ≡ lossy_text big input
to_utf32_lossy_end big input out n stop done = lossy_end (lossy_text big) utf32_units (nil_text big) input out n stop done ∙ units_of_text (lossy_text big input)

-- ---- from UTF-32

pub from_utf32_joined : (big : Bool) → Joined (from_utf32 big)
from_utf32_joined big =
    strict_joined (TranscodesFromUtf32 big) utf32_units (char_bytes big) IsIllFormedUtf32 (utf16_joins big)
    (λ input out at read len within given. utf32_later input at read len given.scalars)

pub from_utf32_nothing : (big : Bool) (input out : List ℕ) → TranscodesFromUtf32 big (take 0 input) out → out ≡ []
from_utf32_nothing big input out given = sym given.spelled ∙ encode-nil big

-- ---- from UTF-32, lossy

pub from_utf32_lossy_joined : (big : Bool) → Joined (from_utf32_lossy big)
from_utf32_lossy_joined big input out more at read left room stop first second = record {
  within = both_within input at read first.within second.within;
  writes = both_given (ShowsInUtf16 big) (shown_joins big) input out more at read first.writes second.writes;
  stops = subst (λ r. StopsLossy lossy_utf32 (char_bytes big) r room stop) (drop-drop read at input) second.stops;
}

pub from_utf32_lossy_nothing : (big : Bool) (input out : List ℕ) → ShowsInUtf16 big (take 0 input) out → out ≡ []
from_utf32_lossy_nothing big input out same = same ∙ encode-nil big

pub from_utf32_lossy_end : (big : Bool) (input out : List ℕ) (n : ℕ) (stop : Stop) → Completes (from_utf32_lossy big) input out n stop → out ≡ encode big (lossy_utf32 input)
from_utf32_lossy_end big input out n stop done =
    let none = nothing_left lossy_utf32 (char_bytes big) (drop n input) done.left stop done.ends done.call.stops in
    done.call.writes ∙ ap (λ b. encode big (lossy_utf32 b)) (take_all n input (omega (arith, ap length none, length-drop n input)))
