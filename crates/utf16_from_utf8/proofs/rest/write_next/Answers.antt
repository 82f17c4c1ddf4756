use Rattle.std.proofs.Common.{◌++◌, take, ap, ◌∙◌}
use Rattle.utf16_from_utf8.proofs.LaneLemmas.{greatest-below}
use Rattle.utf16_from_utf8.proofs.LimitLemmas.{below-greatest}
use Rattle.utf16_from_utf8.proofs.RestLemmas.{left-added, more-tried}
use Rattle.utf16_from_utf8.proofs.rest.write_next.Goals as goal

pub returns : goal.returns
returns g c start tried =
    let big = g.E.Utf16Order.BIG in
    let bytes = c.args.bytes.now in
    let at = c.args.at in
    let from = c.args.from in
    let old = take c.args.tried.written c.args.out.now in
    let read = c.read_sixteen-next.ensures in
    more-tried big bytes c.args.out.now c.write_units.new.out c.args.tried.faults c.greater.result start at from c.args.tried.written c.write_units.result c.requires.after c.requires.before c.requires.more (
      (λ none. let both = greatest-below 1 _ _ _ c.greater.ensures none in (both.0, read.faults.0 both.1)),
      (λ both. below-greatest 1 _ _ _ c.greater.ensures both.0 (read.faults.1 both.1)),
    )
    (λ all. c.write_units.ensures.pairs ∙ ap (λ t. old ++ t) (left-added big g.row.MOST bytes _ _ _ at from c.requires.more c.requires.after c.requires.before c.requires.below all read.units))
    c.write_units.ensures.written_to tried
