use Rattle.std.proofs.Common.{◌+◌, ◌++◌, take, drop, sym, ap, ap₂, ◌∙◌}
use Rattle.std.proofs.lemmas.Simd.{length-chunk}
use lib.Lanes.{chunk, pick_l}
use Rattle.utf16_from_utf8.specs.Threes.{every_third, woven}
use Rattle.utf16_from_utf8.proofs.ThreesLemmas.{planes-woven, three-chunks}
use Rattle.utf16_from_utf8.proofs.threes.in_threes.Goals as goal

pub returns : goal.returns
returns c =
    let piece = c.args.piece.now in
    let at = c.args.at in
    let all = chunk at 16 piece ++ (chunk (at + 16) 16 piece ++ chunk (at + 32) 16 piece) in
    planes-woven (take 48 (drop at piece)) (length-chunk at 48 piece c.requires)
    ∙ ap (λ v. woven (pick_l 0 v (every_third 0 16)) (pick_l 0 v (every_third 1 16)) (pick_l 0 v (every_third 2 16))) (three-chunks at piece c.requires)
    ∙ ap₂ (λ x y. woven x y (pick_l 0 all (every_third 2 16))) (sym c.firsts.ensures) (sym c.seconds.ensures)
    ∙ ap (woven c.firsts.result c.seconds.result) (sym c.thirds.ensures)
