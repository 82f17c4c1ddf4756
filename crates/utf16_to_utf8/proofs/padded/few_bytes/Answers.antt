use Rattle.std.proofs.Common.{◌++◌, ◌-◌, length, take, drop, length-append, length-drop, length-take-le, refl, arith, ◌∙◌, ℕ, List}
use Rattle.std.specs.List.{range_with_len}
use Rattle.std.proofs.lemmas.Simd.{pick_l_whole}
use lib.Lanes.{pick_l}
use Rattle.utf16_to_utf8.proofs.PaddedLemmas.{few-joined, first-eights}
use Rattle.utf16_to_utf8.proofs.padded.few_bytes.Goals as goal

pub returns : goal.returns
returns c =
    let raw : List ℕ = c.args.raw.now in
    let moved = c.moved_front-moved.result in
    let halves = take 8 raw ++ take 8 (drop (length raw - 8) raw) in
    let long = length-append (take 8 raw) (take 8 (drop (length raw - 8) raw)) in
    let both = pick_l_whole 0 halves 16 (omega (arith, long, length-take-le 8 raw c.requires.some, length-take-le 8 (drop (length raw - 8) raw) (omega (arith, length-drop (length raw - 8) raw, c.requires.some)))) in
    let joined = pick_l 0 halves (range_with_len 0 16) in
    first-eights joined moved refl c.moved_front-moved.ensures.len ∙ few-joined raw joined moved c.requires.some c.requires.few both c.moved_front-moved.ensures.front c.moved_front-moved.ensures.zeros
