use Rattle.utf16_units.proofs.AsciiLemmas.{ascii_bytes}
use Rattle.utf16_units.proofs.text.is_ascii.Goals as goal

pub returns-then-raw-lt-BLOCK : goal.returns-then-raw-lt-BLOCK
returns-then-raw-lt-BLOCK g c =
    let same = ascii_bytes g.E.Utf16Order.BIG c.args.raw.now c.requires in
    (λ e. same.0 (c.has_few_ascii_units.ensures.0 e), λ all. c.has_few_ascii_units.ensures.1 (same.1 all))

pub returns-else-raw-lt-BLOCK : goal.returns-else-raw-lt-BLOCK
returns-else-raw-lt-BLOCK g c =
    let same = ascii_bytes g.E.Utf16Order.BIG c.args.raw.now c.requires in
    (λ e. same.0 (c.has_ascii_units.ensures.0 e), λ all. c.has_ascii_units.ensures.1 (same.1 all))
