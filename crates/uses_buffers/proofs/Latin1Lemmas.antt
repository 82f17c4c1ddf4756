-- Calls of the conversions from and to Latin-1, one after another.
use Rattle.std.proofs.Common.{◌≡◌, ℕ, ◌+◌, Bool, List, [], ◌++◌, None, Some, take, drop, sym, ◌∙◌, subst, arith, length-drop}
use Rattle.std.proofs.lemmas.List.{drop-drop}
use Rattle.utf16_units.specs.Encoding.{Encodes, IsUtf16}
use Rattle.utf16_units.proofs.EncodingLemmas.{Encodes-append, Encodes-unique, IsUtf16-from_Encodes, encode-nil}
use Rattle.utf16_transcode.specs.declared.progress.Stop.{Stop}
use Rattle.utf16_transcode.specs.declared.progress.Stop.TheVariants as stop
use Rattle.utf16_fixed.specs.StopsLatin1.{BeginsWithA, StopsLatin1}
use Rattle.utf16_fixed.specs.declared.latin1_stop.Latin1Stop.{Latin1Stop}
use Rattle.utf16_fixed.specs.declared.latin1_stop.Latin1Stop.TheVariants.{Done, IllFormed, Incomplete, NoSpace, NotLatin1}
use Rattle.utf16_fixed.proofs.TextLemmas.{utf32_empty}
use Rattle.uses_buffers.specs.FormCalls.{Joined}
use Rattle.uses_buffers.specs.Forms.{StopsFromLatin1, from_latin1, to_latin1}
use Rattle.uses_buffers.proofs.LoopLemmas.{both_done, both_given, both_within}
use Rattle.uses_buffers.proofs.Utf32Lemmas.{FoundThere, ill_formed_later}

-- ---- to Latin-1

pub to_latin1_joined : (big : Bool) → FoundThere big → Joined (to_latin1 big)
to_latin1_joined big there input out more at read left room stop first second = record {
  within = both_within input at read first.within second.within;
  writes = given;
  stops = why stop second.stops;
} where
  given : Encodes big (out ++ more) (take (at + read) input)
  given = both_given (λ raw latin1. Encodes big latin1 raw) (λ front back into more. Encodes-append big into more front back) input out more at read first.writes second.writes

  text : IsUtf16 big (take (at + read) input)
  text = IsUtf16-from_Encodes big (out ++ more) (take (at + read) input) given

  later : (Kind : ℕ → Type 0) → BeginsWithA Kind big (drop read (drop at input)) → BeginsWithA Kind big (drop (at + read) input)
  later Kind = subst (BeginsWithA Kind big) (drop-drop read at input)

  why : (stop : Latin1Stop) → StopsLatin1 big (drop at input) read room stop → StopsLatin1 big input (at + read) room stop
  why Done here = both_done input at read first.within here
  why (IllFormed len) here = ill_formed_later big there input at read (Some len) first.within text here
  why Incomplete here = ill_formed_later big there input at read None first.within text here
  why NoSpace here = (here.0, later _ here.1)
  why NotLatin1 here = later _ here

pub to_latin1_nothing : (big : Bool) (input out : List ℕ) → Encodes big out (take 0 input) → out ≡ []
to_latin1_nothing big input out given = Encodes-unique big out [] [] given (utf32_empty big)

-- ---- from Latin-1

pub from_latin1_joined : (big : Bool) → Joined (from_latin1 big)
from_latin1_joined big input out more at read left room why first second = record {
  within = both_within input at read first.within second.within;
  writes = both_given (Encodes big) (λ front back into more. Encodes-append big front back into more) input out more at read first.writes second.writes;
  stops = later why second.stops;
} where
  later : (why : Stop) → StopsFromLatin1 (drop at input) read room why → StopsFromLatin1 input (at + read) room why
  later stop.Done here = both_done input at read first.within here
  later (stop.IllFormed len) here = here
  later stop.Incomplete here = here
  later stop.NoSpace here = (omega (arith, here.0, length-drop at input), here.1)

pub from_latin1_nothing : (big : Bool) (input out : List ℕ) → Encodes big (take 0 input) out → out ≡ []
from_latin1_nothing big input out given = sym given.spelled ∙ encode-nil big
