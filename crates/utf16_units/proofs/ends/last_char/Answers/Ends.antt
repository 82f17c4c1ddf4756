-- The last character of a text, by the last unit that was read: of one unit, or of two.
use Rattle.std.proofs.Common.{◌-◌, ◌∙◌, sym, length, rules}
use Rattle.std.specs.Char.Utf16.{surrogate_pair_char}
use Rattle.utf16_units.specs.Unit.{IsLeading}
use Rattle.utf16_units.proofs.BackChar.{EndsAt, ends_one, ends_two, unit_before, unit_before-is}
use Rattle.utf16_units.proofs.FrontChar.{two_bytes}
use Rattle.utf16_units.proofs.ends.last_char.Given.{Over}
use Rattle.utf16_units.proofs.ends.last_char.Goals.{Then-not-is_trailing_surrogate, Else-not-is_trailing_surrogate}

pub one : (g : Over) (c : Then-not-is_trailing_surrogate g) → EndsAt g.E.Utf16Order.BIG c.args.raw.now c.read_unit-unit.result 2
one g c =
    let big = g.E.Utf16Order.BIG in
    let raw = c.args.raw.now in
    let unit = unit_before-is big raw (length raw) (two_bytes big raw c.requires.well_formed c.requires.not_empty) ∙ sym c.read_unit-unit.ensures in
    rw (← unit) (ends_one big raw c.requires.well_formed c.requires.not_empty (rw unit (search rules)))

pub two : (g : Over) (c : Else-not-is_trailing_surrogate g) → IsLeading (unit_before g.E.Utf16Order.BIG c.args.raw.now (length c.args.raw.now - 2))
    × EndsAt g.E.Utf16Order.BIG c.args.raw.now (surrogate_pair_char (unit_before g.E.Utf16Order.BIG c.args.raw.now (length c.args.raw.now - 2)) c.read_unit-unit.result) 4
two g c =
    let big = g.E.Utf16Order.BIG in
    let raw = c.args.raw.now in
    let unit = unit_before-is big raw (length raw) (two_bytes big raw c.requires.well_formed c.requires.not_empty) ∙ sym c.read_unit-unit.ensures in
    rw (← unit) (ends_two big raw c.requires.well_formed c.requires.not_empty (rw unit (search rules)))
