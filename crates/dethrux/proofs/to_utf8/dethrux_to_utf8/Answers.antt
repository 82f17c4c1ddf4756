use Rattle.std.proofs.Common.{arith, rules}
use Rattle.dethrux.specs.Numbers.{is_big}
use Rattle.dethrux.proofs.Bounds.{to_utf8_fits}
use Rattle.dethrux.proofs.to_utf8.dethrux_to_utf8.Goals as goal

pub returns-then-is_big_endian-clause-wrote : goal.returns-then-is_big_endian-clause-wrote
returns-then-is_big_endian-clause-wrote c = search rules

pub returns-then-is_big_endian-clause-stop : goal.returns-then-is_big_endian-clause-stop
returns-then-is_big_endian-clause-stop c = search rules

pub returns-then-is_big_endian-clause-succeeds : goal.returns-then-is_big_endian-clause-succeeds
returns-then-is_big_endian-clause-succeeds c fits full =
    to_utf8_fits (is_big c.args.byte_order) _ _ _ _ _ (λ k. omega (arith, c.type_inv.utf16 k))
    (returns-then-is_big_endian-clause-wrote c) (returns-then-is_big_endian-clause-stop c) fits full

pub returns-else-is_big_endian-clause-wrote : goal.returns-else-is_big_endian-clause-wrote
returns-else-is_big_endian-clause-wrote c = search rules

pub returns-else-is_big_endian-clause-stop : goal.returns-else-is_big_endian-clause-stop
returns-else-is_big_endian-clause-stop c = search rules

pub returns-else-is_big_endian-clause-succeeds : goal.returns-else-is_big_endian-clause-succeeds
returns-else-is_big_endian-clause-succeeds c fits full =
    to_utf8_fits (is_big c.args.byte_order) _ _ _ _ _ (λ k. omega (arith, c.type_inv.utf16 k))
    (returns-else-is_big_endian-clause-wrote c) (returns-else-is_big_endian-clause-stop c) fits full
