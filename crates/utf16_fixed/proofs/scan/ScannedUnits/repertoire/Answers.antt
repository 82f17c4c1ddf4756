use Rattle.std.proofs.Common.{◌∙◌, arith, sym}
use Rattle.std.proofs.lemmas.Bool.{true≢false}
use Rattle.utf16_units.specs.Encoding.{text_of}
use Rattle.utf16_fixed.proofs.RepertoireLemmas.{all_unicode, below_bytes, least_ascii, least_bmp, least_latin1, least_unicode, no_trailing}
use Rattle.utf16_fixed.proofs.scan.ScannedUnits.repertoire.Goals as goal

pub returns-then-self-gt0 : goal.returns-then-self-gt0
returns-then-self-gt0 c big text t scan =
    least_unicode (text_of big text) (all_unicode big text t) (λ all. absurd (omega (arith, (no_trailing big text t).1 all, scan.counted, c.if-self-gt0.true)))

pub returns-then-not-are_below : goal.returns-then-not-are_below
returns-then-not-are_below c big text t scan =
    least_bmp (text_of big text) ((no_trailing big text t).0 (omega (arith, scan.counted, c.if-self-gt0.false)))
    (λ all. absurd (true≢false (sym (c.are_below.ensures.1 ((scan.below 0x100 (omega arith)).0 ((below_bytes big text 0x100 t (omega arith)).1 all))) ∙ c.if-not-are_below.true)))

pub returns-then-not-are_below-2 : goal.returns-then-not-are_below-2
returns-then-not-are_below-2 c big text t scan =
    least_latin1 (text_of big text)
    ((below_bytes big text 0x100 t (omega arith)).0 ((scan.below 0x100 (omega arith)).1 (c.are_below.ensures.0 c.if-not-are_below.false)))
    (λ all. absurd (true≢false (sym (c.are_below-2.ensures.1 ((scan.below 0x80 (omega arith)).0 ((below_bytes big text 0x80 t (omega arith)).1 all))) ∙ c.if-not-are_below-2.true)))

pub returns : goal.returns
returns c big text t scan =
    least_ascii (text_of big text) ((below_bytes big text 0x80 t (omega arith)).0 ((scan.below 0x80 (omega arith)).1 (c.are_below-2.ensures.0 c.if-not-are_below-2.false)))
