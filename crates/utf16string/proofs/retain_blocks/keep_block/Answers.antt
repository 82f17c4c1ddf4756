use Rattle.utf16string.proofs.Retained.{KeepsNext-from}
use Rattle.utf16string.proofs.retain_blocks.keep_block.Goals as goal

pub returns-clause-retained : goal.returns-clause-retained
returns-clause-retained g c =
    let moved = c.move_block.ensures in
    KeepsNext-from _ _ _ _ _ c.args.units.now 32 c.requires.here _ _ _ _ (_, c.ask_each-many.ensures.asked, moved.moved) moved.rest
