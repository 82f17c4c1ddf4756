use Rattle.std.proofs.Common.{◌∙◌, ◌++◌, ap, rules, take}
use Rattle.utf16_units.specs.Unit.{unit_bytes}
use Rattle.utf16string.specs.AsciiCase.{in_case}
use Rattle.utf16string.proofs.PlainUnits.{encode-unit}
use Rattle.utf16string.proofs.wstring.ascii.change_unit.Goals as goal

pub returns-clause-unit : goal.returns-clause-unit
returns-clause-unit g c =
    let big = g.E.Utf16Order.BIG in
    c.write_unit.ensures.bytes
    ∙ ap (λ bytes. take c.args.at c.args.raw.now ++ bytes) (encode-unit big c.of.result (search rules) ∙ ap (unit_bytes big) (c.of.ensures ∙ ap (in_case c.args.case) c.read_unit-unit.ensures))
