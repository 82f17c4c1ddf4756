use Rattle.std.proofs.Common.{◌∙◌, arith, refl}
use Rattle.std.proofs.lemmas.Bool.{false≢true}
use Rattle.utf16_str.specs.WStr.{wstr_text}
use Rattle.utf16_str.proofs.AffixLemmas.{bytes_left}
use Rattle.utf16_str.proofs.CutFront.{long_part, no_part}
use Rattle.utf16_str.proofs.TrimMatches.{shorter, taken-start, taken-start-more}
use Rattle.utf16_str.proofs.wstr.WStr.trim_start_matches.Goals as goal

pub loop-rest-init : goal.loop-rest-init
loop-rest-init g c = taken-start (g.P.Pattern.part c.args.pattern) (wstr_text c.args.self)

pub returns-then-encoded_len-eq0-clause-text : goal.returns-then-encoded_len-eq0-clause-text
returns-then-encoded_len-eq0-clause-text g c = record {
  times = 0;
  split = refl;
  stops = λ some rest e. some (no_part (g.P.Pattern.part c.args.pattern) (omega (arith, c.encoded_len.ensures, c.if-encoded_len-eq0.true)));
}

pub loop-rest-smaller : goal.loop-rest-smaller
loop-rest-smaller g c =
    shorter (g.P.Pattern.part c.args.pattern) (wstr_text c.in-Some.rest) _ c.in-Some.ensures.text
    (long_part (g.P.Pattern.part c.args.pattern) (λ none. c.if-encoded_len-eq0.false (c.encoded_len.ensures ∙ none)))

pub loop-rest-preserved : goal.loop-rest-preserved
loop-rest-preserved g c = taken-start-more (g.P.Pattern.part c.args.pattern) _ _ _ c.loop-rest.invariant c.in-Some.ensures.text

pub returns-clause-text : goal.returns-clause-text
returns-clause-text g c = record {
  times = c.loop-rest.invariant.times;
  split = c.loop-rest.invariant.split;
  stops = λ some rest e. false≢true (c.in_default.ensures.some.1 (rest, e));
}

pub returns-clause-bytes : goal.returns-clause-bytes
returns-clause-bytes g c = bytes_left _ _ _ c.args.self.well_formed c.loop-rest.text.well_formed _ c.loop-rest.invariant.split
