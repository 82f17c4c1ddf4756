use Rattle.std.proofs.Common.{◌≡◌, ◌+◌, ◌++◌, ◌∙◌, ap, arith, drop, drop-drop, sym, take}
use Rattle.utf16_fixed.proofs.StoreLemmas.{sixteen-halves}
use Rattle.utf16_fixed.proofs.stores.put_sixteen.Goals as goal

pub returns-clause-bytes : goal.returns-clause-bytes
returns-clause-bytes g c =
    sixteen-halves c.args.at c.args.to.now c.put_half.new.to c.put_half-2.new.to c.bytes16-bytes.result c.bytes16-bytes.ensures.len c.put_half.ensures.bytes c.put_half-2.ensures.bytes
    ∙ ap (λ t. take c.args.at c.args.to.now ++ t) c.bytes16-bytes.ensures.bytes

pub returns-clause-rest : goal.returns-clause-rest
returns-clause-rest g c =
    let at = c.args.at in
    let end : at + 32 ≡ at + 16 + 16 = omega arith in
    ap (λ m. drop m c.put_half-2.new.to) end ∙ c.put_half-2.ensures.rest ∙ sym (drop-drop 16 (at + 16) c.put_half.new.to)
    ∙ ap (drop 16) c.put_half.ensures.rest ∙ drop-drop 16 (at + 16) c.args.to.now ∙ ap (λ m. drop m c.args.to.now) (sym end)
