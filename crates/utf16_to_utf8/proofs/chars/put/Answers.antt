use Rattle.std.proofs.Common.{◌+◌, ◌-◌, ◌++◌, length, take, refl, ap, ◌∙◌, rules}
use Rattle.std.proofs.lemmas.Slice.{drop-put_mid, take-put_mid}
use Rattle.utf16_to_utf8.proofs.chars.put.Goals as goal

pub returns-clause-written_to : goal.returns-clause-written_to
returns-clause-written_to c = refl

pub returns-clause-bytes : goal.returns-clause-bytes
returns-clause-bytes c =
    let end = c.args.at + length c.args.bytes.now in
    take-put_mid c.args.at (end - c.args.at) c.args.to.now c.copy_from_slice.new.self end (search rules) (search rules) ∙ ap (λ b. take c.args.at c.args.to.now ++ b) c.copy_from_slice.ensures.after

pub returns-clause-rest : goal.returns-clause-rest
returns-clause-rest c =
    let end = c.args.at + length c.args.bytes.now in
    drop-put_mid c.args.at (end - c.args.at) c.args.to.now c.copy_from_slice.new.self end (search rules) (search rules) (search rules)
