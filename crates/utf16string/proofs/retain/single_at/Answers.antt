use Rattle.std.proofs.Common.{arith, rules}
use Rattle.utf16string.proofs.NextChar.{unit-char, unit-splits, unit-within}
use Rattle.utf16string.proofs.retain.single_at.Goals as goal

pub bounds-bytes-at-2 : goal.bounds-bytes-at-2
bounds-bytes-at-2 g c = omega (arith, unit-within _ c.args.bytes.now c.args.at c.requires.well_formed c.requires.within)

pub from_u32_unchecked-requires : goal.from_u32_unchecked-requires
from_u32_unchecked-requires g c =
    (unit-splits _ _ _ c.requires.well_formed c.requires.within _ c.read_unit-unit.ensures (search rules)).scalar

pub returns-else-is_leading_surrogate-clause-char : goal.returns-else-is_leading_surrogate-clause-char
returns-else-is_leading_surrogate-clause-char g c =
    rw c.from_u32_unchecked.ensures
    (unit-char _ _ _ c.requires.well_formed c.requires.within _ c.read_unit-unit.ensures (search rules) (search rules))

pub returns-then-is_leading_surrogate-clause-within : goal.returns-then-is_leading_surrogate-clause-within
returns-then-is_leading_surrogate-clause-within g c = unit-within _ _ _ c.requires.well_formed c.requires.within

pub returns-else-is_leading_surrogate-clause-within : goal.returns-else-is_leading_surrogate-clause-within
returns-else-is_leading_surrogate-clause-within g c = unit-within _ _ _ c.requires.well_formed c.requires.within
