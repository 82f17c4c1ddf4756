use Rattle.std.proofs.Common.{◌++◌, ◌∙◌, ap, drop, length, replicate}
use Rattle.utf16_units.specs.Encoding.{units_of}
use Rattle.utf16_units.proofs.BlockUnits.{units_of-filled}
use Rattle.utf16_fixed.proofs.scan.filled_units.Goals as goal

pub returns-clause-units : goal.returns-clause-units
returns-clause-units g c =
    let big = g.E.Utf16Order.BIG in
    c.units32.ensures.units ∙ ap (λ bytes. units_of big (bytes ++ drop (length c.args.raw.now) (replicate 64 0))) c.copy_from_slice.ensures.after ∙ units_of-filled big 32 c.args.raw.now c.requires.few c.requires.even
