use Rattle.std.proofs.Common.{◌∙◌, ap, sym, arith}
use Rattle.utf16_units.specs.Encoding.{size}
use Rattle.utf16_units.proofs.EncodingLemmas.{size-nil}
use Rattle.utf16_tools.proofs.utf8_parts.append_part.Goals as goal

pub returns-else-not-is_empty-clause-len : goal.returns-else-not-is_empty-clause-len
returns-else-not-is_empty-clause-len g c =
    let none = ap size (sym c.decode_part.ensures.text ∙ c.is_empty.ensures.empty.0 c.if-not-is_empty.false) ∙ size-nil in
    omega (arith, none)
