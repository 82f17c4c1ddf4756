use Rattle.std.proofs.Common.{◌++◌, sym, subst}
use Rattle.std.proofs.lemmas.Result.{on_err_weaker}
use Rattle.utf16_program.specs.Message.{TellsPrefix}
use Rattle.utf16_program.proofs.MessageLemmas.{both_of, of_back, of_front}
use Rattle.utf16_program.proofs.ScanLemmas.{OnErr-always}
use Rattle.utf16_program.proofs.messages.tell.Goals as goal

pub returns-in_err-write_all-clause-err : goal.returns-in_err-write_all-clause-err
returns-in_err-write_all-clause-err g c =
    let new = c.write_all.new.self in
    OnErr-always _ (subst (TellsPrefix g.W.Write.contents c.args.to.now new) (sym c.in-Some.ensures.some)
    (of_front g.W.Write.contents c.args.to.now new c.in-Some.before.now (c.in-Some.name.now ++ c.in-Some.after.now)
    (c.in_err-write_all.ensures.err, c.in_err-write_all.ensures.faults)))

pub returns-in_err-write_all-2-clause-err : goal.returns-in_err-write_all-2-clause-err
returns-in_err-write_all-2-clause-err g c =
    let contents = g.W.Write.contents in
    let mid = c.write_all.new.self in
    let new = c.write_all-2.new.self in
    let name = c.in-Some.name.now in
    OnErr-always _ (subst (TellsPrefix contents c.args.to.now new) (sym c.in-Some.ensures.some)
    (of_back contents c.args.to.now mid new c.in-Some.before.now (name ++ c.in-Some.after.now) (c.in_ok-write_all.ensures.appended, c.in_ok-write_all.ensures.faults)
    (of_front contents mid new name c.in-Some.after.now (c.in_err-write_all-2.ensures.err, c.in_err-write_all-2.ensures.faults))))

pub returns-clause-err : goal.returns-clause-err
returns-clause-err g c =
    let contents = g.W.Write.contents in
    let mid = c.write_all.new.self in
    let then = c.write_all-2.new.self in
    let new = c.write_all-3.new.self in
    let name = c.in-Some.name.now in
    let after = c.in-Some.after.now in
    on_err_weaker c.write_all-3.result (λ told. subst (TellsPrefix contents c.args.to.now new) (sym c.in-Some.ensures.some)
    (of_back contents c.args.to.now mid new c.in-Some.before.now (name ++ after) (c.in_ok-write_all.ensures.appended, c.in_ok-write_all.ensures.faults)
    (of_back contents mid then new name after (c.in_ok-write_all-2.ensures.appended, c.in_ok-write_all-2.ensures.faults) told)))
    (both_of contents then new after c.write_all-3.result c.write_all-3.ensures.err c.write_all-3.ensures.faults)
