use Rattle.std.proofs.Common.{arith, rules}
use Rattle.std.specs.Char.{encode_utf8}
use Rattle.utf16_units.specs.Split.{lossy_text}
use Rattle.dethrux.specs.Numbers.{is_big}
use Rattle.dethrux.proofs.Bounds.{lossy_within, whole_is_done}
use Rattle.dethrux.proofs.to_utf8.dethrux_to_utf8_lossy.Goals as goal

pub returns-clause-shown : goal.returns-clause-shown
returns-clause-shown c = search rules

pub returns-clause-stop : goal.returns-clause-stop
returns-clause-stop c = search rules

pub returns-clause-succeeds : goal.returns-clause-succeeds
returns-clause-succeeds c enough =
    let big = is_big c.args.byte_order in
    let most = lossy_within big c.args.utf16.now (λ k. omega (arith, c.type_inv.utf16 k)) in
    whole_is_done (lossy_text big) encode_utf8 _ _ _ _ _ (returns-clause-shown c) (returns-clause-stop c) (omega (arith, enough, most))
