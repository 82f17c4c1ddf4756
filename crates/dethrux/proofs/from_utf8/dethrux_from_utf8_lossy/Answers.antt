use Rattle.std.proofs.Common.{arith, rules}
use Rattle.utf16_units.specs.Encoding.{char_bytes}
use Rattle.utf16_transcode.specs.FromUtf8.{text_of_utf8}
use Rattle.dethrux.specs.Numbers.{is_big}
use Rattle.dethrux.proofs.Bounds.{lossy_utf8_within, whole_is_done}
use Rattle.dethrux.proofs.from_utf8.dethrux_from_utf8_lossy.Goals as goal

pub returns-clause-shown : goal.returns-clause-shown
returns-clause-shown c = search rules

pub returns-clause-stop : goal.returns-clause-stop
returns-clause-stop c = search rules

pub returns-clause-succeeds : goal.returns-clause-succeeds
returns-clause-succeeds c enough =
    let big = is_big c.args.byte_order in
    let most = lossy_utf8_within big c.args.utf8.now in
    whole_is_done text_of_utf8 (char_bytes big) _ _ _ _ _ (returns-clause-shown c) (returns-clause-stop c) (omega (arith, enough, most))
