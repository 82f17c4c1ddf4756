use Rattle.utf16_tools.proofs.StreamRules.{ReadsPieces}
use Rattle.examples.specs.Counts.{AreCounts}
use Rattle.examples.proofs.counts.count_pieces.Given as goal

-- the counts so far are the counts of the text of the chunks so far
abbrev pub invariant-loop-piece : goal.invariant-loop-piece
invariant-loop-piece g l = ReadsPieces l.pieces l.piece-index l.decoder (λ text. AreCounts text l.counts)
