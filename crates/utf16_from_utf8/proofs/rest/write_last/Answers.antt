use Rattle.std.proofs.Common.{◌≡◌, ◌+◌, ◌-◌, length, subst, arith}
use Rattle.utf16_from_utf8.specs.Rest.{IsTried}
use Rattle.utf16_from_utf8.proofs.rest.write_last.Goals as goal

pub returns-then-from-bytes : goal.returns-then-from-bytes
returns-then-from-bytes g c start tried =
    subst (λ n. IsTried g.E.Utf16Order.BIG c.args.bytes.now c.args.out.now start n c.args.tried.written c.args.tried.faults) c.if-from-bytes.true tried

pub returns : goal.returns
returns g c start tried =
    let bytes = c.args.bytes.now in
    let next = c.write_next in
    let whole : length bytes - 16 + 16 ≡ length bytes = omega (arith, c.requires.some) in
    subst (λ n. IsTried g.E.Utf16Order.BIG bytes next.new.out start n next.result.written next.result.faults) whole (next.ensures start tried)
