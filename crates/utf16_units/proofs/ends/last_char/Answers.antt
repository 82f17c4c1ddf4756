use Rattle.std.proofs.Common.{◌-◌, ◌∙◌, sym, subst, arith, length}
use Rattle.utf16_units.specs.Unit.{IsLeading}
use Rattle.utf16_units.proofs.BackChar.{unit_before-two}
use Rattle.utf16_units.proofs.FrontChar.{two_bytes}
use Rattle.utf16_units.proofs.ends.last_char.Answers.Ends.{one, two}
use Rattle.utf16_units.proofs.ends.last_char.Goals as goal
mod Ends

pub overflow_sub-end : goal.overflow_sub-end
overflow_sub-end g c = two_bytes g.E.Utf16Order.BIG c.args.raw.now c.requires.well_formed c.requires.not_empty

pub from_u32_unchecked-requires : goal.from_u32_unchecked-requires
from_u32_unchecked-requires g c = (one g c).scalar

pub returns-then-not-is_trailing_surrogate-clause-within : goal.returns-then-not-is_trailing_surrogate-clause-within
returns-then-not-is_trailing_surrogate-clause-within g c =
    (one g (goal.at.returns-then-not-is_trailing_surrogate-clause-within g c).Then-not-is_trailing_surrogate).within

pub returns-then-not-is_trailing_surrogate-clause-joined : goal.returns-then-not-is_trailing_surrogate-clause-joined
returns-then-not-is_trailing_surrogate-clause-joined g c =
    rw c.from_u32_unchecked.ensures (one g (goal.at.returns-then-not-is_trailing_surrogate-clause-joined g c).Then-not-is_trailing_surrogate).text

pub returns-then-not-is_trailing_surrogate-clause-well_formed : goal.returns-then-not-is_trailing_surrogate-clause-well_formed
returns-then-not-is_trailing_surrogate-clause-well_formed g c =
    (one g (goal.at.returns-then-not-is_trailing_surrogate-clause-well_formed g c).Then-not-is_trailing_surrogate).front

pub overflow_sub-end-3 : goal.overflow_sub-end-3
overflow_sub-end-3 g c = (two g (goal.at.overflow_sub-end-3 g c).Else-not-is_trailing_surrogate).1.within

pub overflow_sub-end-4 : goal.overflow_sub-end-4
overflow_sub-end-4 g c = omega (arith, (two g (goal.at.overflow_sub-end-4 g c).Else-not-is_trailing_surrogate).1.within)

pub decode_surrogates-requires-clause-leading : goal.decode_surrogates-requires-clause-leading
decode_surrogates-requires-clause-leading g c =
    let found = two g (goal.at.decode_surrogates-requires-clause-leading g c).Else-not-is_trailing_surrogate in
    let unit = unit_before-two g.E.Utf16Order.BIG c.args.raw.now (length c.args.raw.now) found.1.within ∙ sym c.read_unit-leading.ensures in
    subst IsLeading unit found.0

pub returns-clause-within : goal.returns-clause-within
returns-clause-within g c = (two g (goal.at.returns-clause-within g c).Else-not-is_trailing_surrogate).1.within

pub returns-clause-joined : goal.returns-clause-joined
returns-clause-joined g c =
    let found = two g (goal.at.returns-clause-joined g c).Else-not-is_trailing_surrogate in
    let unit = unit_before-two g.E.Utf16Order.BIG c.args.raw.now (length c.args.raw.now) found.1.within ∙ sym c.read_unit-leading.ensures in
    rw (c.decode_surrogates.ensures.code, ← unit) found.1.text

pub returns-clause-well_formed : goal.returns-clause-well_formed
returns-clause-well_formed g c = (two g (goal.at.returns-clause-well_formed g c).Else-not-is_trailing_surrogate).1.front
