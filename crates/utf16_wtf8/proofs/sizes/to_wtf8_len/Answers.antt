use Rattle.std.proofs.Common.{sym, ◌∙◌, arith}
use Rattle.utf16_wtf8.proofs.LenLemmas.{points_len}
use Rattle.utf16_wtf8.proofs.sizes.to_wtf8_len.Goals as goal

pub returns : goal.returns
returns g c = c.to_utf8_lossy_len.ensures ∙ sym (points_len g.E.Utf16Order.BIG c.args.raw.now (λ k. omega (arith, c.type_inv.raw k)))
