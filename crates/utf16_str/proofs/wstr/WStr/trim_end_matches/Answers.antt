use Rattle.std.proofs.Common.{◌∙◌, append-nil, arith, sym}
use Rattle.std.proofs.lemmas.Bool.{false≢true}
use Rattle.utf16_str.specs.WStr.{wstr_text}
use Rattle.utf16_str.proofs.AffixLemmas.{bytes_before}
use Rattle.utf16_str.proofs.CutFront.{long_part, no_part}
use Rattle.utf16_str.proofs.TrimMatches.{shorter_front, taken-end, taken-end-more}
use Rattle.utf16_str.proofs.wstr.WStr.trim_end_matches.Goals as goal

pub loop-front-init : goal.loop-front-init
loop-front-init g c = taken-end (g.P.Pattern.part c.args.pattern) (wstr_text c.args.self)

pub returns-then-encoded_len-eq0-clause-text : goal.returns-then-encoded_len-eq0-clause-text
returns-then-encoded_len-eq0-clause-text g c = record {
  times = 0;
  split = sym (append-nil (wstr_text c.args.self));
  stops = λ some front e. some (no_part (g.P.Pattern.part c.args.pattern) (omega (arith, c.encoded_len.ensures, c.if-encoded_len-eq0.true)));
}

pub loop-front-smaller : goal.loop-front-smaller
loop-front-smaller g c =
    shorter_front (g.P.Pattern.part c.args.pattern) (wstr_text c.in-Some.front) _ c.in-Some.ensures.text
    (long_part (g.P.Pattern.part c.args.pattern) (λ none. c.if-encoded_len-eq0.false (c.encoded_len.ensures ∙ none)))

pub loop-front-preserved : goal.loop-front-preserved
loop-front-preserved g c = taken-end-more (g.P.Pattern.part c.args.pattern) _ _ _ c.loop-front.invariant c.in-Some.ensures.text

pub returns-clause-text : goal.returns-clause-text
returns-clause-text g c = record {
  times = c.loop-front.invariant.times;
  split = c.loop-front.invariant.split;
  stops = λ some front e. false≢true (c.in_default.ensures.some.1 (front, e));
}

pub returns-clause-bytes : goal.returns-clause-bytes
returns-clause-bytes g c = bytes_before _ _ _ c.args.self.well_formed c.loop-front.text.well_formed _ c.loop-front.invariant.split
