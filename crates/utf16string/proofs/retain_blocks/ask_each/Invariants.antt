use Rattle.std.proofs.Common.{◌≡◌, ◌≤◌, drop, length, take}
use Rattle.std.specs.List.{items_where_true}
use Rattle.std.specs.List.Retain.{ReturnsInTurn}
use Rattle.utf16string.specs.Retain.{Answers, MayBeAsked}
use Rattle.utf16string.proofs.retain_blocks.ask_each.Given as goal

abbrev pub invariant-loop-i : goal.invariant-loop-i
invariant-loop-i g l = record {
  long : length l.answers ≡ 16;
  asked : ReturnsInTurn (Answers g.F.FnMut) l.initial.keep (take l.i l.answers) (take l.i l.units) l.keep;
  may : MayBeAsked g.F.FnMut l.keep (drop l.i l.units);
  counted : l.many ≡ length (items_where_true (take l.i l.answers) (take l.i l.units));
  below : l.many ≤ l.i;
}
