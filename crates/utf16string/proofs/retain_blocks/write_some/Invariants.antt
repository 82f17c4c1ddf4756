use Rattle.std.proofs.Common.{◌≡◌, ◌+◌, ◌*◌, ◌≤◌, ◌++◌, drop, take}
use Rattle.std.specs.List.{items_where_true}
use Rattle.utf16_units.specs.Encoding.{encode}
use Rattle.utf16string.proofs.retain_blocks.write_some.Given as goal

abbrev pub invariant-loop-i : goal.invariant-loop-i
invariant-loop-i g l = record {
  order : l.end ≤ l.start + 2 * l.i;
  written : take l.end l.bytes ≡ take l.to l.initial.bytes ++ encode g.E.Utf16Order.BIG (items_where_true (take l.i l.answers) (take l.i l.units));
  behind : drop (l.start + 32) l.bytes ≡ drop (l.start + 32) l.initial.bytes;
}
