use Rattle.std.proofs.Common.{◌∙◌, [], ◌∷◌, arith, refl}
use Rattle.std.proofs.lemmas.List.{drop_all}
use Rattle.utf16string.proofs.Retained.{Retaining-end, Retaining-next, Retaining-start, may-ask}
use Rattle.utf16string.proofs.retain.retain_in_place.Goals as goal

pub loop-read-init : goal.loop-read-init
loop-read-init g c = (Retaining-start _ _ _ _ _ refl c.requires.well_formed c.requires.askable, refl)

pub keep_char-kept-requires-clause-askable : goal.keep_char-kept-requires-clause-askable
keep_char-kept-requires-clause-askable g c =
    let pair = c.char_from-c in
    may-ask g.F.FnMut _ c.loop-read.keep c.loop-read.bytes c.loop-read.read (pair.result.0 ∷ []) pair.result.1 pair.ensures.char c.loop-read.invariant.0.may

pub loop-read-preserved-in_default : goal.loop-read-preserved-in_default
loop-read-preserved-in_default g c =
    let at = c.loop-read.invariant in
    let next = c.keep_char-kept in
    (Retaining-next _ _ _ _ _ _ _ _ at.0 _ _ _ _ next.ensures.retained (grind arith) next.ensures.down (omega (arith, next.auto.bytes, c.char_from-c.ensures.within)), next.auto.bytes ∙ at.1)

pub keep_block-kept-requires-clause-askable : goal.keep_block-kept-requires-clause-askable
keep_block-kept-requires-clause-askable g c =
    let block = c.in-Some-plain_block in
    may-ask g.F.FnMut _ c.loop-read.keep c.loop-read.bytes c.loop-read.read block.units 32 block.ensures.here c.loop-read.invariant.0.may

pub loop-read-preserved-in-Some-plain_block : goal.loop-read-preserved-in-Some-plain_block
loop-read-preserved-in-Some-plain_block g c =
    let at = c.loop-read.invariant in
    let next = c.keep_block-kept in
    (Retaining-next _ _ _ _ _ _ _ _ at.0 _ _ _ _ next.ensures.retained (omega arith) next.ensures.down (omega (arith, next.auto.bytes, c.in-Some-plain_block.ensures.within)), next.auto.bytes ∙ at.1)

pub keep_char-kept-requires-in-loop-read-clause-askable : goal.keep_char-kept-requires-in-loop-read-clause-askable
keep_char-kept-requires-in-loop-read-clause-askable g c =
    may-ask g.F.FnMut _ c.loop-read.keep c.loop-read.bytes c.loop-read.read (c.in-Some.c ∷ []) 2 c.in-Some.ensures.char c.loop-read.invariant.0.may

pub loop-read-preserved : goal.loop-read-preserved
loop-read-preserved g c =
    let at = c.loop-read.invariant in
    let next = c.keep_char-kept-in-loop-read in
    (Retaining-next _ _ _ _ _ _ _ _ at.0 _ _ _ _ next.ensures.retained (omega arith) next.ensures.down (omega (arith, next.auto.bytes, c.single_at.ensures.within)), next.auto.bytes ∙ at.1)

pub returns-clause-text : goal.returns-clause-text
returns-clause-text g c = (Retaining-end _ _ _ _ _ _ _ _ c.loop-read.invariant.0 (drop_all c.loop-read.read c.loop-read.bytes (omega arith))).1
