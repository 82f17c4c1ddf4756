use Rattle.std.proofs.Common.{◌≡◌, ◌≤◌, ◌-◌, ◌+◌, ◌∙◌, ◌++◌, length, take, drop, refl, ap, arith}
use Rattle.utf16_wtf8.proofs.StreamLemmas.{Feeds-wrote, fits_done, many_read, read_full, rest_done, rest_full, stops_done, stops_full, tail_few, tail_joined}
use Rattle.utf16_wtf8.proofs.TailLemmas.{filled, resumes, succeeds, succeeds_always, tail_done, tail_left}
use Rattle.utf16_wtf8.proofs.stream.Wtf8Stream.feed.Given.{Over}
use Rattle.utf16_wtf8.proofs.stream.Wtf8Stream.feed.Goals as goal
use Rattle.utf16_wtf8.proofs.stream.Wtf8Stream.feed.Goals.{After-joined_start-len}

pub returns-in-IllFormed-clause-feeds : goal.returns-in-IllFormed-clause-feeds
returns-in-IllFormed-clause-feeds g c =
    let wrote = c.from_joined-front.ensures.wrote in
    let read = ap (λ r. length c.args.chunk.now - length r) c.rest_of.ensures.piece in
    let left = c.holding.ensures.pending ∙ c.rest_of.ensures.left in
    rw (← c.pending-pending.ensures.bytes)
    (Feeds-wrote g.E.Utf16Order.BIG c.pending-pending.result.now c.args.chunk.now _ _ _ _ _ wrote
    (read_full _ _ _ wrote.within _ _ left read) (rest_full _ _ _ wrote.within _ _ left read))

pub returns-in-IllFormed-clause-stop : goal.returns-in-IllFormed-clause-stop
returns-in-IllFormed-clause-stop g c =
    let front = c.from_joined-front in
    let read = ap (λ r. length c.args.chunk.now - length r) c.rest_of.ensures.piece in
    let left = c.holding.ensures.pending ∙ c.rest_of.ensures.left in
    rw (← c.pending-pending.ensures.bytes)
    (stops_full c.pending-pending.result.now c.args.chunk.now front.result.read front.ensures.wrote.within _ _ left read
    g.E.Utf16Order.BIG _ front.result.stop c.in-IllFormed.is front.ensures.stop)

pub returns-in-IllFormed-clause-filled : goal.returns-in-IllFormed-clause-filled
returns-in-IllFormed-clause-filled g c =
    let front = c.from_joined-front in
    filled c.pending-pending.result.now c.args.chunk.now _ g.E.Utf16Order.BIG _ _ front.ensures.wrote front.result.stop front.ensures.stop

pub returns-in-IllFormed-clause-tail : goal.returns-in-IllFormed-clause-tail
returns-in-IllFormed-clause-tail g c =
    let left = c.holding.ensures.pending ∙ c.rest_of.ensures.left in
    rw (left, ← c.pending-pending.ensures.bytes)
    (λ tail. tail_left c.pending-pending.result.now c.args.chunk.now _ refl tail g.E.Utf16Order.BIG _ _ _ c.from_joined-front.ensures.wrote)

pub returns-in-IllFormed-clause-succeeds : goal.returns-in-IllFormed-clause-succeeds
returns-in-IllFormed-clause-succeeds g c =
    let front = c.from_joined-front in
    rw (← c.pending-pending.ensures.bytes)
    (succeeds c.pending-pending.result.now c.args.chunk.now _ g.E.Utf16Order.BIG _ _ front.ensures.wrote front.result.stop front.ensures.stop)

pub returns-in-IllFormed-clause-succeeds_always : goal.returns-in-IllFormed-clause-succeeds_always
returns-in-IllFormed-clause-succeeds_always g c =
    let front = c.from_joined-front in
    rw (← c.pending-pending.ensures.bytes)
    (succeeds_always c.pending-pending.result.now c.args.chunk.now _ g.E.Utf16Order.BIG _ _ front.ensures.wrote front.result.stop front.ensures.stop)

pub returns-in-IllFormed-clause-resumes : goal.returns-in-IllFormed-clause-resumes
returns-in-IllFormed-clause-resumes g c =
    let front = c.from_joined-front in
    let wrote = front.ensures.wrote in
    let read = ap (λ r. length c.args.chunk.now - length r) c.rest_of.ensures.piece in
    let left = c.holding.ensures.pending ∙ c.rest_of.ensures.left in
    rw (← c.pending-pending.ensures.bytes)
    (λ tail len fault. resumes c.pending-pending.result.now c.args.chunk.now _ refl tail g.E.Utf16Order.BIG _ _ _ wrote _ _ _ len front.result.stop left
    (rest_full c.pending-pending.result.now c.args.chunk.now _ wrote.within _ _ left read) front.ensures.stop fault)

-- what is pending if all was taken
module _ (g : Over) (c : After-joined_start-len g) where
  few : length (c.pending-pending.result.now ++ c.args.chunk.now) ≤ c.from_joined-front.result.read + 6
  few = many_read g.E.Utf16Order.BIG _ _ _ c.from_joined-front.result.stop c.in-Done.is c.from_joined-front.ensures.stop

  tail : take c.joined_start-len.result.1 c.joined_start-len.result.0 ≡ drop c.from_joined-front.result.read (c.pending-pending.result.now ++ c.args.chunk.now)
  tail = tail_joined c.pending-pending.result.now c.args.chunk.now _ _ _ c.from_joined-front.result.read c.rest_of.ensures.left c.rest_of.ensures.piece c.joined_start-len.ensures.bytes few

pub holding-requires-in-Done : goal.holding-requires-in-Done
holding-requires-in-Done g c =
    let before = (goal.at.holding-requires-in-Done g c).After-joined_start-len in
    tail_few _ _ _ (tail g before) (few g before)

pub returns-in-Done-clause-feeds : goal.returns-in-Done-clause-feeds
returns-in-Done-clause-feeds g c =
    let wrote = c.from_joined-front.ensures.wrote in
    let left = c.holding-in-Done.ensures.pending ∙ tail g (goal.at.returns-in-Done-clause-feeds g c).After-joined_start-len in
    rw (← c.pending-pending.ensures.bytes)
    (Feeds-wrote g.E.Utf16Order.BIG c.pending-pending.result.now c.args.chunk.now _ _ _ _ _ wrote (omega arith)
    (rest_done c.pending-pending.result.now c.args.chunk.now c.from_joined-front.result.read wrote.within _ left))

pub returns-in-Done-clause-stop : goal.returns-in-Done-clause-stop
returns-in-Done-clause-stop g c =
    let front = c.from_joined-front in
    let left = c.holding-in-Done.ensures.pending ∙ tail g (goal.at.returns-in-Done-clause-stop g c).After-joined_start-len in
    rw (← c.pending-pending.ensures.bytes)
    (stops_done c.pending-pending.result.now c.args.chunk.now front.result.read front.ensures.wrote.within _ left
    g.E.Utf16Order.BIG _ front.result.stop c.in-Done.is front.ensures.stop)

pub returns-in-Done-clause-fits : goal.returns-in-Done-clause-fits
returns-in-Done-clause-fits g c done =
    let front = c.from_joined-front in
    let left = c.holding-in-Done.ensures.pending ∙ tail g (goal.at.returns-in-Done-clause-fits g c).After-joined_start-len in
    rw (← c.pending-pending.ensures.bytes)
    (fits_done c.pending-pending.result.now c.args.chunk.now front.result.read front.ensures.wrote.within _ left
    g.E.Utf16Order.BIG _ front.result.stop c.in-Done.is front.ensures.stop front.ensures.fits)

pub returns-in-Done-clause-tail : goal.returns-in-Done-clause-tail
returns-in-Done-clause-tail g c before =
    let front = c.from_joined-front in
    rw (c.holding-in-Done.ensures.pending ∙ tail g (goal.at.returns-in-Done-clause-tail g c).After-joined_start-len)
    (tail_done g.E.Utf16Order.BIG _ _ _ front.result.stop c.in-Done.is front.ensures.stop)
