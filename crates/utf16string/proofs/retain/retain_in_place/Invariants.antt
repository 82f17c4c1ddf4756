use Rattle.std.proofs.Common.{◌≡◌, ◌-◌, length}
use Rattle.utf16_units.specs.Encoding.{text_of}
use Rattle.utf16string.proofs.Retained.{Retaining}
use Rattle.utf16string.proofs.retain.retain_in_place.Given as goal

abbrev pub invariant-loop-read : goal.invariant-loop-read
invariant-loop-read g l =
    Retaining g.F.FnMut g.E.Utf16Order.BIG l.initial.keep (text_of g.E.Utf16Order.BIG l.initial.bytes) l.keep l.bytes l.kept l.read
    × (length l.bytes ≡ length l.initial.bytes)

abbrev pub decreases-loop-read : goal.decreases-loop-read
decreases-loop-read g l = length l.initial.bytes - l.read
