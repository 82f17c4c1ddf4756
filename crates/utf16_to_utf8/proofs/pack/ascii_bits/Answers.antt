use Rattle.std.proofs.Common.{◌≡◌, ◌<◌, ◌^◌, ◌∙◌, ltb, length, map, w16, arith, subst, sym}
use Rattle.std.proofs.lemmas.List.{length-map}
use Rattle.std.proofs.lemmas.Simd.{bitmask_splat, mask_l-lt}
use lib.Lanes.{mask_l}
use Rattle.utf16_to_utf8.proofs.pack.ascii_bits.Goals as goal

pub returns-clause-bits : goal.returns-clause-bits
returns-clause-bits g c = bitmask_splat w16 ltb c.args.units g.row.N 0x80 c.fits-units.0 (omega (arith, c.requires))

pub returns-clause-below : goal.returns-clause-below
returns-clause-below g c =
    let flags = map (λ unit. ltb unit 128) c.args.units in
    let long : length flags ≡ g.row.N = length-map c.args.units (λ unit. ltb unit 128) ∙ c.fits-units.0 in
    subst (λ n. n < 2 ^ g.row.N) (sym (returns-clause-bits g c)) (subst (λ n. mask_l flags < 2 ^ n) long (mask_l-lt flags))
