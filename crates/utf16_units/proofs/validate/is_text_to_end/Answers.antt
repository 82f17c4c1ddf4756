use Rattle.std.proofs.Common.{drop, false, length, subst, sym, ◌-◌, ◌/◌}
use Rattle.utf16_units.specs.Lanes.{Paired}
use Rattle.utf16_units.proofs.EndPairs.{end-paired, end-text}
use Rattle.utf16_units.proofs.validate.is_text_to_end.Goals as goal

pub returns-then-before-eq0-clause-paired : goal.returns-then-before-eq0-clause-paired
returns-then-before-eq0-clause-paired g c =
    let paired = end-paired g.E.Utf16Order.BIG c.args.raw.now c.args.from c.requires.long c.requires.within c.requires.near c.if-before-eq0.true in
    let read = c.units16.ensures.units in
    let from = (32 - (length c.args.raw.now - c.args.from)) / 2 in
    ((λ pass. paired.0 (subst (λ us. Paired false (drop from us) false) read (c.paired_from.ensures.0 pass))), (λ is. c.paired_from.ensures.1 (subst (λ us. Paired false (drop from us) false) (sym read) (paired.1 is))))

pub returns-then-before-eq0-clause-text : goal.returns-then-before-eq0-clause-text
returns-then-before-eq0-clause-text g c pass =
    let big = g.E.Utf16Order.BIG in
    let raw = c.args.raw.now in
    let r = c.requires in
    let paired = end-paired big raw c.args.from r.long r.within r.near c.if-before-eq0.true in
    let from = (32 - (length raw - c.args.from)) / 2 in
    end-text big raw c.args.from r.long r.within r.near c.if-before-eq0.true c.type_inv.raw
    (paired.0 (subst (λ us. Paired false (drop from us) false) c.units16.ensures.units (c.paired_from.ensures.0 pass))).1
