use Rattle.std.proofs.Common.{ℕ, cond, ltb, map, replicate, ap₂, ◌-◌, ◌^◌, ◌∙◌}
use Rattle.std.proofs.lemmas.Simd.{splat_is_map}
use lib.Lanes.{sel_l, top, zip2}
use Rattle.utf16_fixed.proofs.CharsLemmas.{chosen-above}
use Rattle.utf16_fixed.proofs.chars.kept_lanes.Goals as goal

pub returns-clause-lanes : goal.returns-clause-lanes
returns-clause-lanes c =
    let v = c.args.chars in
    let long = c.fits-chars.0 in
    let above = map (top 31) (zip2 (λ (a b : ℕ). cond (ltb a b) (2 ^ 32 - 1) 0) (replicate 8 0xFFFF) v) in
    ap₂ (sel_l above) (splat_is_map v 8 0x1_0001 long) (splat_is_map v 8 1 long) ∙ chosen-above v 8 0xFFFF (λ x. 0x1_0001) (λ x. 1) long
