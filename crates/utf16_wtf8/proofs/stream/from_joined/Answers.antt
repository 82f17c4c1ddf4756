use Rattle.std.proofs.Common.{◌-◌, ◌<◌, ◌≤◌, length, take, arith, length-take, rules}
use Rattle.utf16_wtf8.proofs.StreamLemmas.{ReadStart, Writes-joined, Writes-window, fits_joined, leaves_all, read_start, start_within, stops_all, stops_joined, stops_window}
use Rattle.utf16_wtf8.proofs.stream.from_joined.Given.{Over}
use Rattle.utf16_wtf8.proofs.stream.from_joined.Goals as goal
use Rattle.utf16_wtf8.proofs.stream.from_joined.Goals.{In-Done, Then-len-lt-JOINED_LEN}

-- all bytes were joined
few : (g : Over) (c : Then-len-lt-JOINED_LEN g) → length (take c.joined_start-len.result.1 c.joined_start-len.result.0) < 12
few g c = omega (arith, c.if-len-lt-JOINED_LEN.true, length-take c.joined_start-len.result.1 c.joined_start-len.result.0)

pub returns-then-len-lt-JOINED_LEN-clause-stop : goal.returns-then-len-lt-JOINED_LEN-clause-stop
returns-then-len-lt-JOINED_LEN-clause-stop g c =
    stops_all g.E.Utf16Order.BIG _ _ c.joined_start-len.ensures.bytes (few g c) _ _ c.from_wtf8_partial-front.result.stop c.from_wtf8_partial-front.ensures.stop

pub returns-then-len-lt-JOINED_LEN-clause-fits : goal.returns-then-len-lt-JOINED_LEN-clause-fits
returns-then-len-lt-JOINED_LEN-clause-fits g c is leaves =
    c.from_wtf8_partial-front.ensures.fits is (leaves_all g.E.Utf16Order.BIG _ _ c.joined_start-len.ensures.bytes (few g c) _ leaves)

-- the first call read all pending bytes
start : (g : Over) (c : In-Done g)
    → ReadStart g.E.Utf16Order.BIG c.args.pending.now c.args.chunk.now c.from_wtf8_partial-front.new.to c.from_wtf8_partial-front.result.read c.from_wtf8_partial-front.result.written
start g c =
    let call = c.from_wtf8_partial-front in
    let window = c.joined_start-len.result in
    let wide : window.1 ≤ length window.0 = search rules in
    read_start g.E.Utf16Order.BIG _ _ _ _ _ _ call.result.stop c.joined_start-len.ensures.bytes call.ensures.wrote c.in-Done.is call.ensures.stop c.requires
    (omega (arith, wide, length-take window.1 window.0, c.if-len-lt-JOINED_LEN.false))

-- and no more than there is
within : (g : Over) (c : In-Done g) → c.from_wtf8_partial-front.result.read - length c.args.pending.now ≤ length c.args.chunk.now
within g c = start_within _ _ _ _ _ _ (start g c)

pub slice_bounds-behind-count : goal.slice_bounds-behind-count
slice_bounds-behind-count g c = within g (goal.at.slice_bounds-behind-count g c).In-Done

pub slice_bounds-behind-start : goal.slice_bounds-behind-start
slice_bounds-behind-start g c = within g (goal.at.slice_bounds-behind-start g c).In-Done

pub returns-in-IllFormed-clause-wrote : goal.returns-in-IllFormed-clause-wrote
returns-in-IllFormed-clause-wrote g c =
    Writes-window g.E.Utf16Order.BIG c.args.pending.now c.args.chunk.now _ c.joined_start-len.ensures.bytes _ _ _ c.from_wtf8_partial-front.ensures.wrote

pub returns-in-IllFormed-clause-stop : goal.returns-in-IllFormed-clause-stop
returns-in-IllFormed-clause-stop g c =
    let call = c.from_wtf8_partial-front in
    stops_window g.E.Utf16Order.BIG c.args.pending.now c.args.chunk.now _ c.joined_start-len.ensures.bytes _ _ call.result.stop c.in-IllFormed.is call.ensures.stop

pub returns-in-Done-clause-wrote : goal.returns-in-Done-clause-wrote
returns-in-Done-clause-wrote g c =
    Writes-joined _ _ _ _ _ _ _ _ _ (start g (goal.at.returns-in-Done-clause-wrote g c).In-Done) c.from_wtf8_partial-rest.ensures.wrote (search rules)

pub returns-in-Done-clause-stop : goal.returns-in-Done-clause-stop
returns-in-Done-clause-stop g c =
    stops_joined _ _ _ _ _ _ _ _ _ (start g (goal.at.returns-in-Done-clause-stop g c).In-Done) c.from_wtf8_partial-rest.ensures.wrote (search rules)
    c.from_wtf8_partial-rest.result.stop c.from_wtf8_partial-rest.ensures.stop

pub returns-in-Done-clause-fits : goal.returns-in-Done-clause-fits
returns-in-Done-clause-fits g c is leaves =
    fits_joined _ _ _ _ _ _ _ _ _ (start g (goal.at.returns-in-Done-clause-fits g c).In-Done) c.from_wtf8_partial-rest.ensures.wrote (search rules)
    (c.from_wtf8_partial-rest.ensures.fits is) leaves
