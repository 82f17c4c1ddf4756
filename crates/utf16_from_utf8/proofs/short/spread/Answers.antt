use Rattle.std.proofs.Common.{◌-◌, ◌++◌, length, ◌∙◌}
use Rattle.std.proofs.lemmas.Simd.{length-swz_l}
use lib.Lanes.{chunk, pick_l}
use mir.Syntax.{w8}
use Rattle.utf16_from_utf8.proofs.LaneLemmas.{sixteen}
use Rattle.utf16_from_utf8.proofs.ShortLemmas.{in-order, order-fits}
use Rattle.utf16_from_utf8.proofs.short.spread.Goals as goal

pub swizzle : goal.swizzle
swizzle c = order-fits _ c.order.result c.order.ensures

pub returns-clause-len : goal.returns-clause-len
returns-clause-len c =
    let piece = c.args.text.now in
    length-swz_l w8 16 (pick_l 0 (chunk 0 8 piece ++ chunk (length piece - 8) 8 piece) sixteen) 0 c.order.result ∙ c.order.ensures.length

pub returns-clause-text : goal.returns-clause-text
returns-clause-text c = in-order c.args.text.now c.order.result c.requires.some c.requires.few c.order.ensures
