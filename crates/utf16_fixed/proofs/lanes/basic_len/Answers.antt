use Rattle.std.proofs.Common.{◌≤◌, ◌∙◌, All, ap, arith, subst, take, take-take}
use Rattle.std.proofs.lemmas.List.Elements.{All-take}
use Rattle.std.proofs.lemmas.List.{take-map}
use Rattle.utf16_units.specs.Lanes.{HasNoSurrogate, IsNoSurrogate}
use Rattle.utf16_fixed.specs.Progress.{low_unit}
use Rattle.utf16_fixed.proofs.LaneLemmas.{AreBasic-of, low-all}
use Rattle.utf16_fixed.proofs.lanes.basic_len.Goals as goal

pub returns-clause-basic : goal.returns-clause-basic
returns-clause-basic g c =
    let units = c.args.units in
    let n = c.min.result in
    let below = subst (All (λ unit. unit ≤ 0xFFFF)) (take-take n c.len_up_to.result units (omega (arith, c.min.ensures)))
    (All-take (λ unit. unit ≤ 0xFFFF) n (take c.len_up_to.result units) c.len_up_to.ensures.up_to) in
    let plain = subst HasNoSurrogate (take-take n c.plain_len.result c.args.low (omega (arith, c.min.ensures))) (All-take IsNoSurrogate n (take c.plain_len.result c.args.low) c.plain_len.ensures.plain) in
    AreBasic-of (take n units) below
    (subst HasNoSurrogate (ap (take n) c.requires.low ∙ take-map low_unit n units ∙ low-all (take n units) below) plain)
