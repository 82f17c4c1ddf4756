use Rattle.std.proofs.Common.{rules}
use Rattle.dethrux.specs.Numbers.{is_big}
use Rattle.dethrux.proofs.WtfBounds.{from_wtf8_fits}
use Rattle.dethrux.proofs.wtf8.dethrux_from_wtf8.Goals as goal

pub returns-clause-wrote : goal.returns-clause-wrote
returns-clause-wrote c = search rules

pub returns-clause-stop : goal.returns-clause-stop
returns-clause-stop c = search rules

pub returns-clause-succeeds : goal.returns-clause-succeeds
returns-clause-succeeds c enough = from_wtf8_fits (is_big c.args.byte_order) _ _ _ _ (returns-clause-wrote c) _ (returns-clause-stop c) enough
