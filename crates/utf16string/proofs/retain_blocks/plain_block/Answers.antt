use Rattle.std.proofs.Common.{◌∙◌, ap, arith, rules, drop, flat_map, take, w8}
use Rattle.std.proofs.lemmas.List.{length-drop, length-take-le}
use Rattle.std.proofs.lemmas.List.Elements.{All-from_get_or}
use Rattle.std.proofs.lemmas.Simd.{chunk-fits}
use Rattle.utf16_units.specs.Unit.{unit_bytes}
use Rattle.utf16_units.proofs.BlockUnits.{bytes-units_of}
use Rattle.utf16string.proofs.PlainUnits.{IsUnit, encode-units, no_surrogate-scalars}
use Rattle.utf16string.proofs.retain_blocks.plain_block.Goals as goal

pub returns-clause-here : goal.returns-clause-here
returns-clause-here g c =
    let big = g.E.Utf16Order.BIG in
    let units = c.units16-units.result in
    let below = All-from_get_or IsUnit units 0 (λ i lt. let h = c.units16-units.type_inv in search rules) in
    let long = length-take-le 32 (drop c.args.at c.args.bytes.now) (omega (arith, length-drop c.args.at c.args.bytes.now)) in
    record {
      scalars = no_surrogate-scalars units below (c.has_no_surrogate.ensures.0 (search rules));
      spelled =
          encode-units big units below ∙ ap (flat_map (unit_bytes big)) c.units16-units.ensures.units
          ∙ bytes-units_of big 16 (take 32 (drop c.args.at c.args.bytes.now)) long (chunk-fits w8 c.args.at 32 c.args.bytes.now c.type_inv.bytes);
    }
