use Rattle.uses_buffers.proofs.BlockLaw.{block_is_text}
use Rattle.uses_buffers.proofs.std_laws.block_is_text.Goals as goal

pub returns : goal.returns
returns c = block_is_text
