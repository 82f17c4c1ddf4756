use Rattle.std.proofs.Common.{◌-◌, ◌<◌, ◌≢◌, ◌≡◌, [], drop, flat_map, length, sym, subst}
use Rattle.std.proofs.lemmas.List.{take_rest}
use Rattle.utf16_units.specs.Split.{split_tail}
use Rattle.utf16_transcode.proofs.WholeLemmas.{end_does_not_fit}
use Rattle.utf16_transcode.specs.Stops.{StopsPartial}
use Rattle.utf16_wtf8.specs.ToWtf8.{DecodesToWtf8, StopsToWtf8, tail_points, wtf8_split}
use Rattle.utf16_wtf8.specs.Wtf8.{generalized_utf8}
use Rattle.utf16_wtf8.proofs.DecodeLemmas.{WritesWhole-certain, WritesWhole-tail, all_left, odd_left, stops_certain}
use Rattle.utf16_wtf8.proofs.ToWtf8Lemmas.{wtf8_chunks}
use Rattle.utf16_wtf8.proofs.decode.to_wtf8.Given.{Over}
use Rattle.utf16_wtf8.proofs.decode.to_wtf8.Goals as goal
use Rattle.utf16_wtf8.proofs.decode.to_wtf8.Goals.{In-Incomplete, then-tail-eq2, else-tail-eq2}

pub returns-in_default : goal.returns-in_default
returns-in_default g c =
    let front = c.to_wtf8_partial-front in
    record {
      shown = WritesWhole-certain g.E.Utf16Order.BIG c.args.raw.now front.new.to front.result.read front.result.written front.ensures.decodes;
      stop = stops_certain g.E.Utf16Order.BIG _ _ front.result.stop c.in_default.not-Incomplete front.ensures.stop;
      between = λ full. front.ensures.decodes;
    }

-- what is left is a tail
tail : (g : Over) (c : In-Incomplete g) → (drop c.to_wtf8_partial-front.result.read c.args.raw.now ≢ [])
    × (split_tail g.E.Utf16Order.BIG (drop c.to_wtf8_partial-front.result.read c.args.raw.now) ≡ drop c.to_wtf8_partial-front.result.read c.args.raw.now)
tail g c = subst (StopsPartial (wtf8_split g.E.Utf16Order.BIG) generalized_utf8 _ _) c.in-Incomplete.is c.to_wtf8_partial-front.ensures.stop

pub returns-in_default-write_end-clause-shown : goal.returns-in_default-write_end-clause-shown
returns-in_default-write_end-clause-shown g c =
    let front = c.to_wtf8_partial-front in
    WritesWhole-certain g.E.Utf16Order.BIG c.args.raw.now c.write_end.new.to front.result.read front.result.written
    (subst (λ to. DecodesToWtf8 g.E.Utf16Order.BIG c.args.raw.now to front.result.read front.result.written) (sym (c.write_end.ensures.unchanged c.in_default-write_end.is)) front.ensures.decodes)

pub returns-in_default-write_end-clause-stop : goal.returns-in_default-write_end-clause-stop
returns-in_default-write_end-clause-stop g c =
    let cut = tail g (goal.at.returns-in_default-write_end-clause-stop g c).In-Incomplete in
    end_does_not_fit (wtf8_split g.E.Utf16Order.BIG) _ (wtf8_chunks g.E.Utf16Order.BIG) _ _ cut.1
    (subst (λ rest. length c.write_end.new.to - c.to_wtf8_partial-front.result.written < length (flat_map generalized_utf8 (tail_points g.E.Utf16Order.BIG rest)))
    (take_rest c.args.raw.now c.to_wtf8_partial-front.result.read) (c.write_end.ensures.none c.in_default-write_end.is))

pub returns-clause-shown : goal.returns-clause-shown
returns-clause-shown g c =
    let front = c.to_wtf8_partial-front in
    let cut = tail g (goal.at.returns-clause-shown g c).In-Incomplete in
    WritesWhole-tail g.E.Utf16Order.BIG c.args.raw.now front.new.to front.result.read front.result.written front.ensures.decodes c.write_end.new.to c.in-Some.written
    cut.1 c.in-Some.ensures.within c.in-Some.ensures.bytes

pub returns-clause-stop : goal.returns-clause-stop
returns-clause-stop g c =
    let front = c.to_wtf8_partial-front in
    let cut = tail g (goal.at.returns-clause-stop g c).In-Incomplete in
    elim c.if-tail-eq2.branch [
      | then-tail-eq2 w ↦ subst (StopsToWtf8 g.E.Utf16Order.BIG _ _) (sym w.stop-is) (all_left g.E.Utf16Order.BIG c.args.raw.now front.new.to front.result.read front.result.written front.ensures.decodes cut.0 cut.1 w.if-tail-eq2.true)
      | else-tail-eq2 w ↦ subst (StopsToWtf8 g.E.Utf16Order.BIG _ _) (sym w.stop-is) (odd_left g.E.Utf16Order.BIG c.args.raw.now front.new.to front.result.read front.result.written front.ensures.decodes cut.0 cut.1 w.if-tail-eq2.false)
    ]
