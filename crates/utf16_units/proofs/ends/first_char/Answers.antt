use Rattle.std.proofs.Common.{arith, rules}
use Rattle.std.specs.Char.Utf16.{surrogate_pair_char}
use Rattle.utf16_units.specs.Unit.{IsTrailing}
use Rattle.utf16_units.proofs.FirstChar.{second_unit}
use Rattle.utf16_units.proofs.FrontChar.{SplitsAt, splits_one, splits_two, two_bytes}
use Rattle.utf16_units.proofs.ends.first_char.Given.{Over}
use Rattle.utf16_units.proofs.ends.first_char.Goals as goal
use Rattle.utf16_units.proofs.ends.first_char.Goals.{Then-not-is_leading_surrogate, Else-not-is_leading_surrogate}

pub bounds-raw-1 : goal.bounds-raw-1
bounds-raw-1 g c = omega (arith, two_bytes g.E.Utf16Order.BIG c.args.raw.now c.requires.well_formed c.requires.not_empty)

one : (g : Over) (c : Then-not-is_leading_surrogate g) → SplitsAt g.E.Utf16Order.BIG c.args.raw.now c.read_unit-unit.result 2
one g c = rw c.read_unit-unit.ensures (splits_one g.E.Utf16Order.BIG c.args.raw.now c.requires.well_formed c.requires.not_empty (search rules))

pub from_u32_unchecked-requires : goal.from_u32_unchecked-requires
from_u32_unchecked-requires g c = (one g c).scalar

pub returns-then-not-is_leading_surrogate-clause-within :
    goal.returns-then-not-is_leading_surrogate-clause-within
returns-then-not-is_leading_surrogate-clause-within g c =
    (one g (goal.at.returns-then-not-is_leading_surrogate-clause-within g c).Then-not-is_leading_surrogate).within

pub returns-then-not-is_leading_surrogate-clause-joined :
    goal.returns-then-not-is_leading_surrogate-clause-joined
returns-then-not-is_leading_surrogate-clause-joined g c =
    rw c.from_u32_unchecked.ensures (one g (goal.at.returns-then-not-is_leading_surrogate-clause-joined g c).Then-not-is_leading_surrogate).text

pub returns-then-not-is_leading_surrogate-clause-well_formed :
    goal.returns-then-not-is_leading_surrogate-clause-well_formed
returns-then-not-is_leading_surrogate-clause-well_formed g c =
    (one g (goal.at.returns-then-not-is_leading_surrogate-clause-well_formed g c).Then-not-is_leading_surrogate).rest

two : (g : Over) (c : Else-not-is_leading_surrogate g)
    → IsTrailing (second_unit g.E.Utf16Order.BIG c.args.raw.now)
    × SplitsAt g.E.Utf16Order.BIG c.args.raw.now (surrogate_pair_char c.read_unit-unit.result (second_unit g.E.Utf16Order.BIG c.args.raw.now)) 4
two g c = rw c.read_unit-unit.ensures (splits_two g.E.Utf16Order.BIG c.args.raw.now c.requires.well_formed c.requires.not_empty (search rules))

pub bounds-raw-2 : goal.bounds-raw-2
bounds-raw-2 g c = omega (arith, (two g (goal.at.bounds-raw-2 g c).Else-not-is_leading_surrogate).1.within)

pub bounds-raw-3 : goal.bounds-raw-3
bounds-raw-3 g c = omega (arith, (two g (goal.at.bounds-raw-3 g c).Else-not-is_leading_surrogate).1.within)

pub decode_surrogates-requires-clause-trailing : goal.decode_surrogates-requires-clause-trailing
decode_surrogates-requires-clause-trailing g c =
    rw c.read_unit-trailing.ensures (two g (goal.at.decode_surrogates-requires-clause-trailing g c).Else-not-is_leading_surrogate).0

pub returns-clause-within : goal.returns-clause-within
returns-clause-within g c = (two g (goal.at.returns-clause-within g c).Else-not-is_leading_surrogate).1.within

pub returns-clause-joined : goal.returns-clause-joined
returns-clause-joined g c =
    rw (c.decode_surrogates.ensures.code, c.read_unit-trailing.ensures) (two g (goal.at.returns-clause-joined g c).Else-not-is_leading_surrogate).1.text

pub returns-clause-well_formed : goal.returns-clause-well_formed
returns-clause-well_formed g c = (two g (goal.at.returns-clause-well_formed g c).Else-not-is_leading_surrogate).1.rest
