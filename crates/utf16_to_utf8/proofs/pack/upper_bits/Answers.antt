use Rattle.std.proofs.Common.{◌≡◌, ◌%◌, ◌<◌, ◌^◌, ◌∙◌, ap, ltb, length, map, replicate, w8, arith, subst, sym}
use Rattle.std.proofs.lemmas.List.{length-map}
use Rattle.std.proofs.lemmas.Simd.{mask_l-lt, mask_l-mod, tops_compared, zip2_splat_left}
use lib.Lanes.{mask_l}
use Rattle.utf16_to_utf8.proofs.pack.upper_bits.Goals as goal

pub returns-clause-bits : goal.returns-clause-bits
returns-clause-bits c =
    let flags = map (λ byte. ltb 127 byte) c.args.bytes in
    let long : length flags ≡ 16 = length-map c.args.bytes (λ byte. ltb 127 byte) ∙ c.fits-bytes.0 in
    ap (λ ms. mask_l ms % 2 ^ 64) (tops_compared w8 ltb (replicate 16 127) c.args.bytes ∙ zip2_splat_left ltb 127 16 c.args.bytes c.fits-bytes.0)
    ∙ mask_l-mod flags 64 (omega (arith, long))

pub returns-clause-below : goal.returns-clause-below
returns-clause-below c =
    let flags = map (λ byte. ltb 127 byte) c.args.bytes in
    let long : length flags ≡ 16 = length-map c.args.bytes (λ byte. ltb 127 byte) ∙ c.fits-bytes.0 in
    subst (λ n. n < 65536) (sym (returns-clause-bits c)) (subst (λ n. mask_l flags < 2 ^ n) long (mask_l-lt flags))
