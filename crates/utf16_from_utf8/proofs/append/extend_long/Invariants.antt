use Rattle.std.proofs.Common.{◌≡◌, ◌≤◌, ◌++◌, length}
use Rattle.std.specs.Str.{chars}
use Rattle.std.specs.Vec.{vec_capacity}
use Rattle.utf16_units.specs.Encoding.{encode}
use Rattle.utf16_from_utf8.proofs.append.extend_long.Given as goal
use denote.Shadow.{shadow}
use denote.Text.{Utf8}

-- the rest is UTF-8
abbrev pub invariant-loop-rest : goal.invariant-loop-rest
invariant-loop-rest g l = record {
  text : shadow (Utf8 l.rest);
  grows : vec_capacity l.fn.raw ≤ vec_capacity l.raw;
  whole : l.raw.items ++ encode g.E.Utf16Order.BIG (chars l.rest) ≡ l.fn.raw.items ++ encode g.E.Utf16Order.BIG (chars l.fn.s);
}

abbrev pub decreases-loop-rest : goal.decreases-loop-rest
decreases-loop-rest g l = length l.rest
