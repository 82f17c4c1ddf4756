use Rattle.std.proofs.Common.{arith, rules, sym, subst, ◌∙◌}
use Rattle.utf16_units.proofs.CharLemmas.{one_unit_bytes}
use Rattle.utf16_transcode.specs.Utf8Stream.{DecodesUtf8To, utf8_split}
use Rattle.utf16_transcode.proofs.StreamSteps.{DecodesTo-rest}
use Rattle.utf16_transcode.proofs.DecodesUtf8.{DecodesUtf8To-item, DecodesUtf8To-none}
use Rattle.utf16_transcode.proofs.FeedsUtf8.{utf8_chunks}
use Rattle.utf16_transcode.proofs.encode_lossy.write_replacement_and_more.Given.{Over}
use Rattle.utf16_transcode.proofs.encode_lossy.write_replacement_and_more.Goals as goal
use Rattle.utf16_transcode.proofs.encode_lossy.write_replacement_and_more.Goals.{After-put-written}

-- U+FFFD was written
replaced : (g : Over) (c : After-put-written g)
    → DecodesUtf8To g.E.Utf16Order.BIG c.args.text.now c.put-written.new.to c.args.len c.put-written.result
replaced g c =
    subst (λ n. DecodesUtf8To g.E.Utf16Order.BIG c.args.text.now c.put-written.new.to n c.put-written.result) (omega arith)
    (DecodesUtf8To-item _ _ c.args.to.now _ 0 0 _ _ _ (DecodesUtf8To-none _ _ _) c.requires.ill_formed (search rules)
    (c.put-written.ensures.bytes ∙ c.write_unit.ensures ∙ sym (one_unit_bytes g.E.Utf16Order.BIG 0xFFFD (omega arith))))

pub returns-clause-decodes : goal.returns-clause-decodes
returns-clause-decodes g c =
    let at = goal.at.returns-clause-decodes g c in
    DecodesTo-rest utf8_split _ utf8_chunks _ _ _ _ _ _ _ (replaced g at.After-put-written) c.write_after_ill_formed-more.ensures (search rules)
