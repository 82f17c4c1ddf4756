use Rattle.std.proofs.Common.{◌<◌, ◌≤◌, take, slice_index, sym, subst, arith}
use Rattle.utf16_units.specs.Lanes.{HasNoSurrogate, IsNoSurrogate}
use Rattle.utf16_units.proofs.FrontLemmas.{front-plain, front_len-all, front_len-few, front_len-lowest, surrogate-after}
use Rattle.utf16_units.proofs.surrogates.plain_len.Goals as goal

pub returns-then-surrogates-eq0-clause-plain : goal.returns-then-surrogates-eq0-clause-plain
returns-then-surrogates-eq0-clause-plain g c =
    let len = front_len-all c.args.units g.row.N _ c.fits-units.0 c.requires c.class_bits-surrogates.ensures c.if-surrogates-eq0.true in
    subst (λ n. HasNoSurrogate (take n c.args.units)) (sym len)
    (front-plain c.args.units g.row.N _ c.fits-units.0 c.requires c.class_bits-surrogates.ensures)

pub returns-else-surrogates-eq0-clause-few : goal.returns-else-surrogates-eq0-clause-few
returns-else-surrogates-eq0-clause-few g c =
    let len = front_len-lowest c.args.units g.row.N _ c.fits-units.0 c.requires c.class_bits-surrogates.ensures (omega (arith, c.if-surrogates-eq0.false)) in
    subst (λ n. n ≤ g.row.N) (sym len) (front_len-few c.args.units g.row.N _ c.fits-units.0 c.requires c.class_bits-surrogates.ensures)

pub returns-else-surrogates-eq0-clause-plain : goal.returns-else-surrogates-eq0-clause-plain
returns-else-surrogates-eq0-clause-plain g c =
    let len = front_len-lowest c.args.units g.row.N _ c.fits-units.0 c.requires c.class_bits-surrogates.ensures (omega (arith, c.if-surrogates-eq0.false)) in
    subst (λ n. HasNoSurrogate (take n c.args.units)) (sym len)
    (front-plain c.args.units g.row.N _ c.fits-units.0 c.requires c.class_bits-surrogates.ensures)

pub returns-else-surrogates-eq0-clause-stop : goal.returns-else-surrogates-eq0-clause-stop
returns-else-surrogates-eq0-clause-stop g c =
    let len = front_len-lowest c.args.units g.row.N _ c.fits-units.0 c.requires c.class_bits-surrogates.ensures (omega (arith, c.if-surrogates-eq0.false)) in
    subst (λ n. n < g.row.N → ¬ IsNoSurrogate (slice_index c.args.units n)) (sym len)
    (surrogate-after c.args.units g.row.N _ c.fits-units.0 c.requires c.class_bits-surrogates.ensures c.fits-units.1)
