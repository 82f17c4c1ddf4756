use Rattle.std.proofs.Common.{arith, rules}
use Rattle.dethrux.specs.Numbers.{is_big}
use Rattle.dethrux.proofs.WtfBounds.{to_wtf8_fits}
use Rattle.dethrux.proofs.wtf8.dethrux_to_wtf8.Goals as goal

pub returns-clause-shown : goal.returns-clause-shown
returns-clause-shown c = search rules

pub returns-clause-stop : goal.returns-clause-stop
returns-clause-stop c = search rules

pub returns-clause-succeeds : goal.returns-clause-succeeds
returns-clause-succeeds c enough =
    to_wtf8_fits (is_big c.args.byte_order) _ _ _ _ _ (λ k. omega (arith, c.type_inv.utf16 k)) (returns-clause-shown c) (returns-clause-stop c) enough
