use Rattle.std.proofs.Common.{◌≡◌, ◌<◌, ◌++◌, ltb, take, drop, length, map, sym, ap, ap₂, ◌∙◌, arith, append_assoc, length-drop, length-take-le}
use Rattle.std.proofs.lemmas.List.{length-map, take-append-drop}
use lib.Lanes.{pick_l}
use Rattle.utf16_to_utf8.specs.Pack.{fours, packed_words}
use Rattle.utf16_to_utf8.proofs.WordLemmas.{fours-units, kept-by, mask-halves, packed_words-append}
use Rattle.utf16_to_utf8.proofs.pack.write_kept.Goals as goal

pub returns-clause-bytes : goal.returns-clause-bytes
returns-clause-bytes c before units eight are =
    let outers = c.lane_bytes-outers.result in
    let endings = c.lane_bytes-endings.result in
    let absent = c.lane_bytes.result in
    let both = outers ++ endings in
    let flags = map (λ byte. ltb 127 byte) absent in
    let long : length flags ≡ 16 = length-map absent (λ byte. ltb 127 byte) ∙ c.lane_bytes.ensures.len in
    let halves = mask-halves flags c.upper_bits-flags.result long c.upper_bits-flags.ensures.bits in
    let low : length (take 8 flags) ≡ 8 = length-take-le 8 flags (omega (arith, long)) in
    let high : length (drop 8 flags) ≡ 8 = length-drop 8 flags ∙ omega (arith, long) in
    let start = take c.args.at c.args.out.now in
    c.write_words.ensures.bytes (drop 8 flags) high halves.1
    ∙ ap₂ (λ done words. done ++ packed_words (drop 8 flags) words) (c.write_words-end.ensures.bytes (take 8 flags) low halves.0) c.high_words.ensures
    ∙ append_assoc start (packed_words (take 8 flags) c.low_words.result) (packed_words (drop 8 flags) (pick_l 0 both (fours 4 4)))
    ∙ ap (λ bs. start ++ bs) (ap (λ words. packed_words (take 8 flags) words ++ packed_words (drop 8 flags) (pick_l 0 both (fours 4 4))) c.low_words.ensures
    ∙ packed_words-append (take 8 flags) (drop 8 flags) (pick_l 0 both (fours 0 4)) (pick_l 0 both (fours 4 4)) (omega (arith, low)) (omega (arith, low))
    ∙ ap (λ fs. packed_words fs (pick_l 0 both (fours 0 8))) (take-append-drop 8 flags)
    ∙ ap (λ n. packed_words flags (pick_l 0 both (fours 0 n))) (sym eight)
    ∙ fours-units before flags units both 0 (omega (arith, long, eight)) (λ i lt.
    let lt8 : i < 8 = omega (arith, lt, eight) in
    let first = c.lane_bytes-outers.ensures.bytes i lt8 in
    let last = c.lane_bytes-endings.ensures.bytes i lt8 in
    let flag = c.lane_bytes.ensures.bytes i lt8 in
    kept-by outers endings absent i _ _ _ _ _ _ c.lane_bytes-outers.ensures.len c.lane_bytes.ensures.len lt8 first.0 first.1 last.0 last.1 flag.0 flag.1 ∙ are i lt8))
