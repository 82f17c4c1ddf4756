use Rattle.std.proofs.Common.{◌<◌, ◌∙◌, All, ap, arith, drop, drop_at, length-take-le, rules, subst, sym, take}
use Rattle.std.proofs.lemmas.List.{take-append-le}
use Rattle.utf16_units.specs.Encoding.{IsUtf16}
use Rattle.utf16_to_utf8.specs.Utf8.{units_utf8}
use Rattle.utf16_to_utf8.proofs.PlainLemmas.{ascii-text}
use Rattle.utf16_to_utf8.proofs.TextLemmas.{bytes-utf8}
use Rattle.utf16_to_utf8.proofs.short.write_eight_ascii.Given.{Over}
use Rattle.utf16_to_utf8.proofs.short.write_eight_ascii.Goals as goal
use Rattle.utf16_to_utf8.proofs.short.write_eight_ascii.Goals.{After-write_ascii}

text : (g : Over) (c : After-write_ascii g) → IsUtf16 g.E.Utf16Order.BIG (take 16 c.args.raw.now)
text g c =
    ascii-text g.E.Utf16Order.BIG c.args.raw.now c.type_inv.raw c.requires.many
    (subst (λ units. All (λ u. u < 0x80) units) c.units8-units.ensures.units (c.lanes_below.ensures.0 (search rules)))

pub returns-clause-well_formed : goal.returns-clause-well_formed
returns-clause-well_formed g c _ = text g (goal.at.returns-clause-well_formed g c).After-write_ascii

pub returns-clause-utf8 : goal.returns-clause-utf8
returns-clause-utf8 g c _ =
    let put = c.write_ascii in
    take-append-le 8 put.new.out (drop 8 c.args.to.now) (omega (arith, put.auto.out, length-take-le 8 c.args.to.now c.requires.space))
    ∙ ap (λ n. take n put.new.out) (sym put.ensures.written_to) ∙ put.ensures.bytes 0 ∙ ap (units_utf8 0) c.units8-units.ensures.units
    ∙ bytes-utf8 g.E.Utf16Order.BIG (take 16 c.args.raw.now) (text g (goal.at.returns-clause-utf8 g c).After-write_ascii)

pub returns-clause-rest : goal.returns-clause-rest
returns-clause-rest g c = drop_at c.write_ascii.new.out (drop 8 c.args.to.now) 8 (omega (arith, c.write_ascii.auto.out, length-take-le 8 c.args.to.now c.requires.space))
