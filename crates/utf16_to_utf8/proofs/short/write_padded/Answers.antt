use Rattle.std.proofs.Common.{◌≡◌, ◌-◌, ◌/◌, ◌≤◌, ◌++◌, take, slice_index, replicate, sym, ap, ◌∙◌, arith, append_assoc}
use Rattle.utf16_units.specs.Encoding.{units_of}
use Rattle.utf16_to_utf8.specs.Utf8.{units_utf8}
use Rattle.utf16_to_utf8.proofs.TextLemmas.{less-zeros, padded-units, units-zeros}
use Rattle.utf16_to_utf8.proofs.short.write_padded.Given.{Over}
use Rattle.utf16_to_utf8.proofs.short.write_padded.Goals as goal
use Rattle.utf16_to_utf8.proofs.short.write_padded.Goals.{After-write_eight_units-end}

-- the zeros that padded the bytes were written last
zeros-last : (g : Over) (c : After-write_eight_units-end g)
    → (let k = 8 - c.args.len / 2 in (k ≤ c.write_eight_units-end.result)
    × (take (c.write_eight_units-end.result - k) c.write_eight_units-end.new.out ≡ take c.args.at c.args.out.now ++ units_utf8 (slice_index c.args.previous 7) (units_of g.E.Utf16Order.BIG (take c.args.len c.args.padded))))
zeros-last g c =
    let big = g.E.Utf16Order.BIG in
    let before = slice_index c.args.previous 7 in
    let len = c.args.len in
    let padded = c.args.padded in
    let units = units_of big (take len padded) in
    let k = 8 - len / 2 in
    let front = take c.args.at c.args.out.now in
    let filled = padded-units big padded len c.fits-padded.0 c.requires.few c.requires.even c.requires.zeros in
    let wrote = c.write_eight_units-end.ensures.bytes ∙ ap (λ us. front ++ units_utf8 before us) (c.units8-units.ensures.units ∙ filled) ∙ ap (λ bs. front ++ bs) (units-zeros before k units) ∙ sym (append_assoc front (units_utf8 before units) (replicate k 0)) in
    less-zeros _ (front ++ units_utf8 before units) c.write_eight_units-end.result k (omega (arith, c.write_eight_units-end.ensures.written_to, c.requires.space, c.write_eight_units-end.auto.out)) wrote

pub overflow_sub-result-2 : goal.overflow_sub-result-2
overflow_sub-result-2 g c = (zeros-last g (goal.at.overflow_sub-result-2 g c).After-write_eight_units-end).0

pub returns-clause-bytes : goal.returns-clause-bytes
returns-clause-bytes g c = (zeros-last g (goal.at.returns-clause-bytes g c).After-write_eight_units-end).1
