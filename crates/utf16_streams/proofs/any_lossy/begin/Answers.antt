use Rattle.std.proofs.Common.{◌≡◌, None, true, false, ◌++◌, sym, ap, append-nil, ◌∙◌}
use Rattle.std.proofs.lemmas.Option.{none-some}
use Rattle.std.specs.Option.{option_to_list}
use Rattle.utf16_units.specs.Split.{split_items, split_tail}
use Rattle.utf16_streams.specs.Bom.{items_in, tail_in}
use Rattle.utf16_streams.proofs.BomLemmas.{no_bom_order, no_bom_text, only_items, only_order, only_tail}
use Rattle.utf16_streams.proofs.any_lossy.begin.Goals as goal
use Rattle.utf16_streams.proofs.any_lossy.begin.Goals.{In-None}

pub returns-in-Err-clause-items : goal.returns-in-Err-clause-items
returns-in-Err-clause-items c = only_items _ _ c.in-Err.ensures.fewer ∙ sym (only_items c.in-Err.only _ (append-nil _))

pub returns-in-Err-clause-tail : goal.returns-in-Err-clause-tail
returns-in-Err-clause-tail c = only_tail _ _ c.in-Err.ensures.fewer ∙ sym (only_tail c.in-Err.only _ (append-nil _))

pub returns-in-Err-clause-byte_order : goal.returns-in-Err-clause-byte_order
returns-in-Err-clause-byte_order c = only_order _ _ c.in-Err.ensures.fewer

-- the first two bytes are not a BOM, so all bytes are text
text : (c : In-None)
    → (items_in None (option_to_list c.args.first ++ c.args.piece.now) ≡ split_items true (option_to_list c.args.first ++ c.args.piece.now))
    × (tail_in None (option_to_list c.args.first ++ c.args.piece.now) ≡ split_tail true (option_to_list c.args.first ++ c.args.piece.now))
text c = no_bom_text _ _ _ c.in-Ok.ensures.two c.in-Ok.ensures.len
    (λ big. none-some true (sym c.in-None.is ∙ c.bom_of.ensures.big.1 big)) (λ little. none-some false (sym c.in-None.is ∙ c.bom_of.ensures.little.1 little))

pub returns-in-None-clause-items : goal.returns-in-None-clause-items
returns-in-None-clause-items c =
    (text (goal.at.returns-in-None-clause-items c).In-None).0 ∙ ap (split_items true) (ap (λ p. p ++ c.args.piece.now) (sym c.after.ensures))

pub returns-in-None-clause-tail : goal.returns-in-None-clause-tail
returns-in-None-clause-tail c =
    (text (goal.at.returns-in-None-clause-tail c).In-None).1 ∙ ap (split_tail true) (ap (λ p. p ++ c.args.piece.now) (sym c.after.ensures))

pub returns-in-None-clause-byte_order : goal.returns-in-None-clause-byte_order
returns-in-None-clause-byte_order c =
    no_bom_order _ _ _ c.in-Ok.ensures.two c.in-Ok.ensures.len (λ little. none-some false (sym c.in-None.is ∙ c.bom_of.ensures.little.1 little))
