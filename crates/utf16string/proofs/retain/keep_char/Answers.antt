use Rattle.std.proofs.Common.{true, false, [], ◌∷◌, ◌++◌, ◌∙◌, ap, arith, refl, sym, take}
use Rattle.std.proofs.lemmas.Fn.{called}
use Rattle.utf16string.proofs.PlainUnits.{before, encode-none}
use Rattle.utf16string.proofs.Retained.{KeepsNext-from}
use Rattle.utf16string.proofs.retain.keep_char.Goals as goal

pub returns-then-stays-clause-retained : goal.returns-then-stays-clause-retained
returns-then-stays-clause-retained g c =
    let moved = c.move_down.ensures in
    KeepsNext-from _ _ _ _ _ (c.args.c ∷ []) c.args.size c.requires.here _ _ _ _
    (c.args.c ∷ [], (true ∷ [], refl, (c.keep-stays.new.self, called g.F.FnMut c.keep-stays.ensures c.if-stays.true, refl), refl), moved.moved ∙ ap (λ l. take c.args.kept c.args.bytes.now ++ l) (sym c.requires.here.spelled))
    moved.rest

pub returns-else-stays-clause-retained : goal.returns-else-stays-clause-retained
returns-else-stays-clause-retained g c =
    let moved = c.move_down.ensures in
    KeepsNext-from _ _ _ _ _ (c.args.c ∷ []) c.args.size c.requires.here _ _ _ _ (
      [],
      (false ∷ [], refl, (c.keep-stays.new.self, called g.F.FnMut c.keep-stays.ensures c.if-stays.false, refl), refl),
      before c.args.kept c.args.size c.args.bytes.now _ _ (omega arith) moved.moved ∙ encode-none g.E.Utf16Order.BIG (take c.args.kept c.args.bytes.now),
    )
    moved.rest
