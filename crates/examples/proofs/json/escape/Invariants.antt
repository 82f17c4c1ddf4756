use Rattle.std.proofs.Common.{◌≡◌}
use Rattle.std.specs.List.{flat_map}
use Rattle.utf16string.specs.WString.{wstring_text}
use Rattle.examples.specs.Json.{json_char}
use Rattle.examples.proofs.json.escape.Given as goal

-- what was pushed is the escaped form of the characters so far
abbrev pub invariant-loop-c : goal.invariant-loop-c
invariant-loop-c g l = wstring_text l.escaped ≡ flat_map json_char l.yielded
