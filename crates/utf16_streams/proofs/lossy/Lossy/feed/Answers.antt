use Rattle.std.proofs.Common.{◌++◌, All, arith, string_bytes, subst}
use Rattle.std.proofs.lemmas.List.Elements.{All-append, All-from_get_or}
use Rattle.utf16_streams.specs.Lossy.{lossy_pending}
use Rattle.utf16_streams.proofs.StreamRules.{IsByte, chars_of}
use Rattle.utf16_streams.proofs.lossy.Lossy.feed.Goals as goal

pub returns-clause-text : goal.returns-clause-text
returns-clause-text g c = c.feed.ensures.text

pub returns-clause-pending : goal.returns-clause-pending
returns-clause-pending g c = c.feed.ensures.pending

pub returns-clause-are_bytes : goal.returns-clause-are_bytes
returns-clause-are_bytes g c = All-append IsByte (lossy_pending c.args.self.now) c.args.piece.now
    (subst (All IsByte) c.pending.ensures.bytes c.are_bytes.ensures)
    (All-from_get_or IsByte c.args.piece.now 0 (λ k l. omega (arith, c.type_inv.piece k)))

pub returns-clause-chars : goal.returns-clause-chars
returns-clause-chars g c =
    chars_of g.E.Utf16Order.BIG (lossy_pending c.args.self.now ++ c.args.piece.now) c.feed.result string_bytes (returns-clause-are_bytes g c) c.feed.ensures.text
