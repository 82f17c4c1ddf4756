use Rattle.std.proofs.Common.{arith}
use Rattle.utf16_units.proofs.AsciiLemmas.{ascii_bytes}
use Rattle.utf16_units.proofs.CountLemmas.{counted_bytes}
use Rattle.utf16_bytes.proofs.units.is_ascii.Goals as goal

pub returns-then-raw-eq0-clause-ascii : goal.returns-then-raw-eq0-clause-ascii
returns-then-raw-eq0-clause-ascii g c text =
    let same = ascii_bytes g.E.Utf16Order.BIG c.args.raw.now text in
    (λ e. same.0 (c.has_ascii_units.ensures.0 e), λ all. c.has_ascii_units.ensures.1 (same.1 all))

pub returns-else-raw-eq0-clause-ascii : goal.returns-else-raw-eq0-clause-ascii
returns-else-raw-eq0-clause-ascii g c text = absurd (omega (arith, counted_bytes g.E.Utf16Order.BIG c.args.raw.now text))
