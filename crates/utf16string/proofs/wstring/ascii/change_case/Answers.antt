use Rattle.std.proofs.Common.{arith}
use Rattle.utf16_units.proofs.EncodingLemmas.{Encodes-text_of}
use Rattle.utf16string.specs.AsciiCase.{in_case}
use Rattle.utf16string.proofs.Cased.{Encodes-changed}
use Rattle.utf16string.proofs.ChangedTo.{ChangedTo-all, ChangedTo-next}
use Rattle.utf16string.proofs.wstring.ascii.change_case.Goals as goal

pub loop-raw-preserved : goal.loop-raw-preserved
loop-raw-preserved g c =
    ChangedTo-next (in_case c.args.case) g.E.Utf16Order.BIG c.args.raw.now c.loop-raw.raw c.change_unit.new.raw c.loop-raw.at
    (omega (arith, c.change_unit.auto.raw)) (omega (arith, c.change_unit.auto.raw)) c.change_unit.ensures.unit c.change_unit.ensures.rest c.loop-raw.invariant

pub returns : goal.returns
returns g c =
    Encodes-changed c.args.case g.E.Utf16Order.BIG _ c.args.raw.now c.loop-raw.raw (Encodes-text_of _ _ c.requires)
    (ChangedTo-all (in_case c.args.case) g.E.Utf16Order.BIG c.args.raw.now c.loop-raw.raw c.loop-raw.at c.loop-raw.invariant (omega arith))
