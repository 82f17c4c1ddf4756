use Rattle.std.proofs.Common.{◌≡◌, ◌-◌, ◌<◌, ◌++◌, IfSome, length, take, sym, subst, arith}
use Rattle.utf16_units.proofs.Utf8Lemmas.{three_bytes, two_bytes}
use Rattle.utf16_wtf8.proofs.code_point.write_code_point.Goals as goal

pub returns-then-unit-lt2048-clause-bytes : goal.returns-then-unit-lt2048-clause-bytes
returns-then-unit-lt2048-clause-bytes c =
    let put = c.put_fitting-then-unit-lt2048 in
    subst (λ b. IfSome put.result (λ end. take end put.new.to ≡ take c.args.at c.args.to.now ++ b)) (sym (two_bytes c.args.unit (omega arith) (omega arith))) put.ensures.bytes

pub returns-then-unit-lt2048-clause-none : goal.returns-then-unit-lt2048-clause-none
returns-then-unit-lt2048-clause-none c none =
    let put = c.put_fitting-then-unit-lt2048 in
    subst (λ b. length put.new.to - c.args.at < length b) (sym (two_bytes c.args.unit (omega arith) (omega arith))) (put.ensures.none none)

pub returns-clause-bytes : goal.returns-clause-bytes
returns-clause-bytes c =
    let put = c.put_fitting-2 in
    subst (λ b. IfSome put.result (λ end. take end put.new.to ≡ take c.args.at c.args.to.now ++ b))
    (sym (three_bytes c.args.unit (omega arith) (omega (arith, c.ranges.unit.fits)))) put.ensures.bytes

pub returns-clause-none : goal.returns-clause-none
returns-clause-none c none =
    let put = c.put_fitting-2 in
    subst (λ b. length put.new.to - c.args.at < length b) (sym (three_bytes c.args.unit (omega arith) (omega (arith, c.ranges.unit.fits)))) (put.ensures.none none)
