use Rattle.std.proofs.Common.{arith, inr, refl, subst, true}
use Rattle.utf16_transcode.specs.declared.progress.Stop.TheVariants.{Incomplete}
use Rattle.utf16_wtf8.specs.FromWtf8.{EndsLeading, ReadsWtf8}
use Rattle.utf16_wtf8.proofs.FewLemmas.{few_left}
use Rattle.utf16_wtf8.proofs.PartialLemmas.{Writes-before, ended, ends_as_read, leaves_leading, leaves_no_leading, stops_kept, three_read, two_written}
use Rattle.utf16_wtf8.proofs.encode.from_wtf8_partial.Given.{Over}
use Rattle.utf16_wtf8.proofs.encode.from_wtf8_partial.Goals as goal
use Rattle.utf16_wtf8.proofs.encode.from_wtf8_partial.Goals.{In-Done}

pub returns-then-not-after_leading-clause-stop : goal.returns-then-not-after_leading-clause-stop
returns-then-not-after_leading-clause-stop g c =
    let call = c.transcode_wtf8-after_leading in
    stops_kept g.E.Utf16Order.BIG c.args.wtf8.now call.result.0.read _ call.result.0.stop
    (subst (EndsLeading _) c.if-not-after_leading.true (ends_as_read call.ensures.reads)) call.ensures.stop

pub returns-then-not-after_leading-clause-few : goal.returns-then-not-after_leading-clause-few
returns-then-not-after_leading-clause-few g c is =
    few_left g.E.Utf16Order.BIG c.args.wtf8.now _ _ _ is (returns-then-not-after_leading-clause-stop g c)

pub returns-then-not-after_leading-clause-fits : goal.returns-then-not-after_leading-clause-fits
returns-then-not-after_leading-clause-fits g c is leaves =
    let call = c.transcode_wtf8-after_leading in
    absurd (leaves_no_leading g.E.Utf16Order.BIG c.args.wtf8.now _ _ call.result.0.stop is call.ensures.stop leaves)

-- what was read ends with a leading surrogate
leading : (g : Over) (c : In-Done g)
    → ReadsWtf8 g.E.Utf16Order.BIG c.args.wtf8.now c.transcode_wtf8-after_leading.new.to c.transcode_wtf8-after_leading.result.0.read c.transcode_wtf8-after_leading.result.0.written true
leading g c = subst (ReadsWtf8 _ _ _ _ _) c.if-not-after_leading.false c.transcode_wtf8-after_leading.ensures.reads

pub overflow_sub-result : goal.overflow_sub-result
overflow_sub-result g c = three_read _ _ _ _ _ (leading g (goal.at.overflow_sub-result g c).In-Done)

pub overflow_sub-result-in-Done : goal.overflow_sub-result-in-Done
overflow_sub-result-in-Done g c = two_written _ _ _ _ _ (leading g (goal.at.overflow_sub-result-in-Done g c).In-Done)

pub returns-in-Done-clause-wrote : goal.returns-in-Done-clause-wrote
returns-in-Done-clause-wrote g c = Writes-before _ _ _ _ _ (leading g (goal.at.returns-in-Done-clause-wrote g c).In-Done)

pub returns-in-Done-clause-stop : goal.returns-in-Done-clause-stop
returns-in-Done-clause-stop g c =
    let call = c.transcode_wtf8-after_leading in
    inr (leaves_leading _ _ _ _ _ (leading g (goal.at.returns-in-Done-clause-stop g c).In-Done) (ended _ _ _ _ call.result.0.stop c.in-Done.is call.ensures.stop))

pub returns-in-Done-clause-few : goal.returns-in-Done-clause-few
returns-in-Done-clause-few g c is = few_left g.E.Utf16Order.BIG c.args.wtf8.now _ 0 Incomplete refl (returns-in-Done-clause-stop g c)

pub returns-in-Done-clause-fits : goal.returns-in-Done-clause-fits
returns-in-Done-clause-fits g c is leaves =
    let read = leading g (goal.at.returns-in-Done-clause-fits g c).In-Done in
    omega (arith, read.fits, two_written _ _ _ _ _ read)
