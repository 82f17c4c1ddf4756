use Rattle.std.specs.Vec.{vec_items}
use Rattle.uses_buffers.proofs.ReadLemmas.{by_resuming, of_one}
use Rattle.uses_buffers.proofs.headline.resumed.Goals as goal

pub returns-clause-resuming : goal.returns-clause-resuming
returns-clause-resuming g c =
    by_resuming c.resumes_is_split.ensures vec_items g.E.Utf16Order.BIG c.args.pieces.now c.in_ok-text.ensures.are_bytes _ c.in_ok-text.ensures.text

pub returns-clause-one : goal.returns-clause-one
returns-clause-one g c =
    of_one c.split_exists.ensures c.split_unique.ensures g.E.Utf16Order.BIG _ c.in_ok-text.ensures.are_bytes _ c.in_ok-text.ensures.text
