use Rattle.std.proofs.Common.{◌≡◌, ◌+◌, ◌<◌, ◌++◌, length, take, sym, ap, ap₂, ◌∙◌, arith, append_assoc, take-append-drop}
use Rattle.std.proofs.lemmas.Simd.{length-put_chunk, take_more_put_chunk}
use lib.Lanes.{pick_l, put_chunk}
use Rattle.utf16_to_utf8.specs.Pack.{threes}
use Rattle.utf16_to_utf8.proofs.ListLemmas.{three_from, threes-units}
use Rattle.utf16_to_utf8.proofs.pack.write_threes.Goals as goal

pub returns-clause-bytes : goal.returns-clause-bytes
returns-clause-bytes c before units eight are =
    let at = c.args.at in
    let out = c.args.out.now in
    let fronts = c.lane_bytes-fronts.result in
    let thirds = c.lane_bytes-thirds.result in
    let first = c.first_threes.result in
    let last = c.last_threes.result in
    let whole = pick_l 0 (fronts ++ thirds) (threes 0 8) in
    let long : length first ≡ 16 = ap length c.first_threes.ensures in
    let long' : length last ≡ 8 = ap length c.last_threes.ensures in
    take_more_put_chunk (at + 16) (put_chunk at out first) last (at + 24) (omega (arith, long')) (omega (arith, length-put_chunk at out first, c.requires.space))
    ∙ ap (λ bs. bs ++ last) (take_more_put_chunk at out first (at + 16) (omega (arith, long)) (omega (arith, c.requires.space)))
    ∙ append_assoc (take at out) first last
    ∙ ap (λ bs. take at out ++ bs) (ap₂ (λ xs ys. xs ++ ys) c.first_threes.ensures c.last_threes.ensures ∙ take-append-drop 16 whole
    ∙ ap (λ n. pick_l 0 (fronts ++ thirds) (threes 0 n)) (sym eight)
    ∙ threes-units before units (fronts ++ thirds) 0 (λ i lt before.
    let lt8 : i < 8 = omega (arith, lt, eight) in
    let front = c.lane_bytes-fronts.ensures.bytes i lt8 in
    let third = c.lane_bytes-thirds.ensures.bytes i lt8 in
    three_from fronts thirds i _ _ _ c.lane_bytes-fronts.ensures.len lt8 front.0 front.1 third.0 ∙ are i lt8 before))
