use Rattle.std.proofs.Common.{◌-◌, arith}
use Rattle.utf16_from_utf8.proofs.UsedLemmas.{uses-begun, uses-others, uses-over, uses-written}
use Rattle.utf16_from_utf8.proofs.block.write_well_formed.Goals as goal

pub overflow_sub-result : goal.overflow_sub-result
overflow_sub-result g c =
    let big = g.E.Utf16Order.BIG in
    let bytes = c.args.bytes.now in
    let all = c.write_all-end in
    let used = c.used-used in
    let uses = uses-begun big 64 (omega arith) bytes c.args.from.read c.requires.more c.requires.follow used.result c.if-used-eq64.true used.ensures in
    uses-over big 64 bytes c.args.out.now all.new.out c.args.from.read c.args.from.written used.result 2 all.result used.ensures c.requires.more uses
    (omega (arith, c.requires.space)) (omega (arith, c.requires.space, all.ensures.written_to)) all.ensures.bytes

pub returns-then-used-eq64-clause-written : goal.returns-then-used-eq64-clause-written
returns-then-used-eq64-clause-written g c =
    let big = g.E.Utf16Order.BIG in
    let bytes = c.args.bytes.now in
    let all = c.write_all-end in
    let used = c.used-used in
    let uses = uses-begun big 64 (omega arith) bytes c.args.from.read c.requires.more c.requires.follow used.result c.if-used-eq64.true used.ensures in
    uses-written big 64 bytes c.args.out.now all.new.out c.args.from.read c.args.from.written used.result 2 all.result used.ensures c.requires.more uses
    (omega (arith, c.requires.space)) (omega (arith, c.requires.space, all.ensures.written_to)) all.ensures.bytes
    (all.result - 2) (omega (arith, overflow_sub-result g c)) c.requires.written

pub returns-else-used-eq64-clause-written : goal.returns-else-used-eq64-clause-written
returns-else-used-eq64-clause-written g c =
    let big = g.E.Utf16Order.BIG in
    let bytes = c.args.bytes.now in
    let all = c.write_all-end in
    let used = c.used-used in
    let uses = uses-others big 64 (omega arith) bytes c.args.from.read c.requires.more c.requires.follow used.result c.if-used-eq64.false used.ensures in
    uses-written big 64 bytes c.args.out.now all.new.out c.args.from.read c.args.from.written used.result 0 all.result used.ensures c.requires.more uses
    (omega (arith, c.requires.space)) (omega (arith, c.requires.space, all.ensures.written_to)) all.ensures.bytes
    all.result (omega arith) c.requires.written
