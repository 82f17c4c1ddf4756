use Rattle.std.proofs.Common.{◌++◌, All, arith, string_bytes, subst}
use Rattle.std.proofs.lemmas.List.Elements.{All-append, All-from_get_or}
use Rattle.utf16_streams.specs.AnyLossy.{any_byte_order, any_pending}
use Rattle.utf16_streams.proofs.StreamRules.{IsByte, chars_of_any}
use Rattle.utf16_streams.proofs.any_lossy.AnyLossy.feed.Goals as goal

pub returns-clause-are_bytes : goal.returns-clause-are_bytes
returns-clause-are_bytes g c = All-append IsByte (any_pending c.args.self.now) c.args.piece.now
    (subst (All IsByte) c.pending.ensures.bytes c.are_bytes.ensures)
    (All-from_get_or IsByte c.args.piece.now 0 (λ k l. omega (arith, c.type_inv.piece k)))

pub returns-clause-chars : goal.returns-clause-chars
returns-clause-chars g c =
    chars_of_any (any_byte_order c.args.self.now) (any_pending c.args.self.now ++ c.args.piece.now) c.feed.result string_bytes (returns-clause-are_bytes g c) c.feed.ensures.text
