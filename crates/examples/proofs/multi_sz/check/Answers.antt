use Rattle.std.proofs.Common.{◌∙◌, arith, sym, true≢false}
use Rattle.utf16_units.proofs.DelimitedLemmas.{All-next, All-whole}
use Rattle.examples.specs.MultiSz.{IsMultiSzEntry}
use Rattle.examples.proofs.multi_sz.check.Goals as goal

pub loop-i-preserved : goal.loop-i-preserved
loop-i-preserved g c = All-next IsMultiSzEntry _ c.args.texts.now c.loop-i.i c.index-texts-i.result (omega arith) c.index-texts-i.is c.loop-i.invariant (λ e. true≢false (sym (c.is_empty.ensures.empty.1 e) ∙ c.if-is_empty.false), c.if-has_nul.ensures.none)

pub returns-clause-entries : goal.returns-clause-entries
returns-clause-entries g c = All-whole IsMultiSzEntry _ c.args.texts.now c.loop-i.i (omega arith) c.loop-i.invariant
