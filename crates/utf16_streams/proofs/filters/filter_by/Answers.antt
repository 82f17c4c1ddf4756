use Rattle.std.proofs.Common.{◌≡◌, ◌≤◌, ◌++◌, [], length, take, refl, sym, ap, ◌∙◌, append-nil, arith, rules}
use Rattle.std.proofs.lemmas.List.{length-take-le}
use Rattle.std.proofs.KnownBytes.{Keeps-refl}
use Rattle.utf16_streams.proofs.FilterLemmas.{Filtering-end, Filtering-fault, Filtering-more, Filtering-refused, Filtering-some, Filtering-start}
use Rattle.utf16_streams.proofs.filters.filter_by.Goals as goal

pub loop-init : goal.loop-init
loop-init g c = (Filtering-start _ _ _ _ c.laws.ensures.nothing, refl, refl)

pub returns-in_default-clause-transfers : goal.returns-in_default-clause-transfers
returns-in_default-clause-transfers g c = Filtering-some _ _ _ _ _ _ _ _ _ c.loop.invariant.0 0 _ (omega arith) c.in_default.ensures.transfers

pub returns-clause-transfers : goal.returns-clause-transfers
returns-clause-transfers g c = Filtering-some _ _ _ _ _ _ _ _ _ c.loop.invariant.0 _ _ c.loop-test.false (Keeps-refl _)

pub returns-clause-writes : goal.returns-clause-writes
returns-clause-writes g c = omega (arith, c.loop.invariant.2)

pub returns-in_default-end-clause-transfers : goal.returns-in_default-end-clause-transfers
returns-in_default-end-clause-transfers g c =
    let none : take c.in-Ok.count c.read.new.buf ≡ [] = ap (λ n. take n c.read.new.buf) c.if-count-eq0.true in
    Filtering-fault _ _ _ _ _ _ _ _ _ c.loop.invariant.0 _ _ c.in-Ok.ensures.transfers.0 _ [] _ (omega (arith, ap length none))
    (ap (g.T.Transcoder.whole c.loop.transcoder) none ∙ sym (append-nil _)) c.in_default-end.ensures.err

pub returns-then-count-eq0-clause-transfers : goal.returns-then-count-eq0-clause-transfers
returns-then-count-eq0-clause-transfers g c =
    let none : take c.in-Ok.count c.read.new.buf ≡ [] = ap (λ n. take n c.read.new.buf) c.if-count-eq0.true in
    Filtering-end _ _ _ _ _ _ _ _ _ c.loop.invariant.0 _ _ c.in-Ok.ensures.transfers.0 _ none (search rules) c.in-Ok-end.ensures.appended

pub returns-in_default-space_for-clause-transfers : goal.returns-in_default-space_for-clause-transfers
returns-in_default-space_for-clause-transfers g c =
    let long = length-take-le c.in-Ok.count c.read.new.buf c.in-Ok.ensures.within in
    let few : c.in-Ok.count ≤ 4096 = search rules in
    let many = c.in_default-space_for.ensures.err in
    Filtering-refused _ _ _ _ _ _ _ _ _ c.loop.invariant.0 _ _ c.in-Ok.ensures.transfers.0 (omega arith) (omega arith) (c.laws-in-loop.ensures.eight _ (omega arith))

pub returns-in_default-write_all-clause-transfers : goal.returns-in_default-write_all-clause-transfers
returns-in_default-write_all-clause-transfers g c =
    let long = length-take-le c.in-Ok.count c.read.new.buf c.in-Ok.ensures.within in
    let few : c.in-Ok.count ≤ 4096 = search rules in
    let adds = c.feed_to-len.ensures.continues.all [] in
    let piece = take c.in-Ok.count c.read.new.buf in
    let rest = g.T.Transcoder.whole c.feed_to-len.new.self [] in
    Filtering-fault _ _ _ _ _ _ _ _ _ c.loop.invariant.0 piece _ c.in-Ok.ensures.transfers.0 _ rest _ (omega arith)
    (ap (g.T.Transcoder.whole c.loop.transcoder) (sym (append-nil piece)) ∙ adds ∙ ap (λ d. d ++ rest) (sym c.feed_to-len.ensures.bytes)) c.in_default-write_all.ensures.err

pub loop-preserved : goal.loop-preserved
loop-preserved g c =
    let long = length-take-le c.in-Ok.count c.read.new.buf c.in-Ok.ensures.within in (
      Filtering-more _ _ _ _ _ _ _ _ _ c.loop.invariant.0 _ _ c.in-Ok.ensures.transfers.0 _ _ _ _ (omega arith)
          c.feed_to-len.ensures.bytes c.feed_to-len.ensures.continues c.in-Ok-write_all.ensures.appended,
      c.in-Ok.ensures.faults ∙ c.loop.invariant.1,
      c.in-Ok-write_all.ensures.faults ∙ c.loop.invariant.2,
    )
