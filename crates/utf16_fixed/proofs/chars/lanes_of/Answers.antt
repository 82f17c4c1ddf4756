use Rattle.std.proofs.Common.{ℕ, cond, ltb, map, replicate, ap₂, sym, ◌-◌, ◌^◌, ◌∙◌}
use Rattle.std.proofs.lemmas.List.{map-id}
use Rattle.std.proofs.lemmas.Simd.{map-map}
use lib.Lanes.{sel_l, top, zip2}
use Rattle.utf16_fixed.specs.Pairs.{pair_of, pair_offset}
use Rattle.utf16_fixed.proofs.CharsLemmas.{chosen-above}
use Rattle.utf16_fixed.proofs.chars.lanes_of.Goals as goal

pub returns-clause-lanes : goal.returns-clause-lanes
returns-clause-lanes c =
    let v = c.args.chars in
    let long = c.fits-chars.0 in
    let above = map (top 31) (zip2 (λ (a b : ℕ). cond (ltb a b) (2 ^ 32 - 1) 0) (replicate 8 0xFFFF) v) in
    let pairs = c.pairs_of-pairs.ensures ∙ map-map pair_of pair_offset v in
    ap₂ (sel_l above) pairs (sym (map-id v)) ∙ chosen-above v 8 0xFFFF (λ x. pair_of (pair_offset x)) (λ x. x) long
