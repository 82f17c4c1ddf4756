use Rattle.std.proofs.Common.{◌≡◌, ◌++◌, [], sym, ap, ◌∙◌, append-nil, rules, true≢false}
use Rattle.std.proofs.lemmas.List.{nil_from_length}
use Rattle.utf16_units.specs.Split.{split_items}
use Rattle.utf16_transcode.specs.Stream.{stream_pending}
use Rattle.utf16_transcode.proofs.DecodesLemmas.{undecided_items}
use Rattle.utf16_transcode.proofs.DecodesSteps.{Decodes-empty, Decodes-end, Decodes-none, Decodes-then}
use Rattle.utf16_streams.proofs.lossy.decode_parts.Goals as goal

pub loop-rest-init : goal.loop-rest-init
loop-rest-init g c = (Decodes-none _ _ _ _, c.requires.undecided)

pub returns-in_err-stream-clause-nothing : goal.returns-in_err-stream-clause-nothing
returns-in_err-stream-clause-nothing g c none =
    absurd (true≢false (sym (c.in_err-stream.ensures.nothing (Decodes-empty _ _ _ _ _ _ c.loop-rest.invariant.0 none))))

pub loop-rest-preserved : goal.loop-rest-preserved
loop-rest-preserved g c = (Decodes-then _ _ _ _ _ _ _ _ c.loop-rest.invariant.0 c.in_ok-stream.ensures.decoded, c.in_ok-stream.ensures.undecided)

pub returns-clause-text : goal.returns-clause-text
returns-clause-text g c =
    let pending = stream_pending c.loop-rest.stream in
    let empty : c.loop-rest.rest.now ≡ [] = nil_from_length c.loop-rest.rest.now (search rules) in
    let all : pending ++ c.loop-rest.rest.now ≡ pending = ap (λ r. pending ++ r) empty ∙ append-nil pending in
    Decodes-end _ _ _ _ _ _ c.loop-rest.invariant.0 (ap (split_items g.E.Utf16Order.BIG) all ∙ undecided_items _ _ c.loop-rest.invariant.1)
