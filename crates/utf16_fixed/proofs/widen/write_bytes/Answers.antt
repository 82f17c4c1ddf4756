use Rattle.std.proofs.Common.{◌≡◌, ◌+◌, ◌-◌, ◌<◌, ◌≤◌, ⊎_elim, arith, subst}
use Rattle.std.proofs.lemmas.Bool.{cases_lt}
use Rattle.utf16_fixed.specs.Written.{IsWidened}
use Rattle.utf16_fixed.proofs.WidenLemmas.{IsWidened-again, IsWidened-none}
use Rattle.utf16_fixed.proofs.widen.write_bytes.Goals as goal

pub returns-then-most-ge16 : goal.returns-then-most-ge16
returns-then-most-ge16 g c =
    let big = g.E.Utf16Order.BIG in
    let latin1 = c.args.latin1.now in
    let to = c.args.to.now in
    let last = c.args.most - 16 in
    let end : last + 16 ≡ c.args.most = omega arith in
    let done = c.repeat_block-at.ensures.written to (IsWidened-none big latin1 to) in
    subst (IsWidened big latin1 to c.write_sixteen.new.to) end
    (IsWidened-again big latin1 to c.repeat_block-at.new.to c.write_sixteen.new.to c.repeat_block-at.result last 16 done c.type_inv.latin1
    (omega arith) (omega arith) (omega arith) (omega arith) c.write_sixteen.ensures.bytes c.write_sixteen.ensures.rest)

pub returns-else-most-ge16 : goal.returns-else-most-ge16
returns-else-most-ge16 g c =
    let big = g.E.Utf16Order.BIG in
    let latin1 = c.args.latin1.now in
    let to = c.args.to.now in
    let end = c.repeat_block.result in
    let all : end ≡ c.args.most = ⊎_elim
    (λ (less : end < c.args.most). absurd (c.repeat_block.ensures.stops (omega (arith, less))))
    (λ (more : c.args.most ≤ end). omega (arith, more, c.repeat_block.ensures.few))
    (cases_lt end c.args.most) in
    subst (IsWidened big latin1 to c.repeat_block.new.to) all (c.repeat_block.ensures.written to (c.repeat_block-at.ensures.written to (IsWidened-none big latin1 to)))
