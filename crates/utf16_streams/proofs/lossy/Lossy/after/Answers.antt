use Rattle.std.proofs.Common.{◌≡◌, sym, ap, ◌∙◌, rules}
use Rattle.std.specs.Option.{option_to_list}
use Rattle.utf16_units.specs.Split.{split_tail}
use Rattle.utf16_transcode.specs.Stream.{stream_pending}
use Rattle.utf16_streams.proofs.BomLemmas.{first_waits}
use Rattle.utf16_streams.proofs.lossy.Lossy.after.Goals as goal

pub returns : goal.returns
returns g c = search rules

pub invariant_of-result : goal.invariant_of-result
invariant_of-result g c = record {
  undecided = let pending : stream_pending c.match-first.stream ≡ option_to_list c.args.first = search rules in
      ap (split_tail g.E.Utf16Order.BIG) pending ∙ first_waits _ c.args.first ∙ sym pending;
}
