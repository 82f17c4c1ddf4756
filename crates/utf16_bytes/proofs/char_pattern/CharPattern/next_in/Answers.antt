use Rattle.std.proofs.Common.{◌≡◌, ◌+◌, ◌-◌, ◌∷◌, ◌∙◌, [], Some, ap, arith, drop, eqb-true, length, length-drop, rules, subst, sym}
use Rattle.std.proofs.lemmas.List.{nil_from_length, take_rest}
use Rattle.utf16_units.specs.Encoding.{char_size, encode, size, text_of}
use Rattle.utf16_units.proofs.EncodingLemmas.{text_of-nil}
use Rattle.utf16_bytes.specs.Occurrence.{IsFirst, IsOccurrence}
use Rattle.utf16_bytes.proofs.PassedBytes.{IsPassed, one_char, passed-all, passed-found, passed-start, passed-step}
use Rattle.utf16_bytes.proofs.char_pattern.CharPattern.next_in.Goals as goal

pub loop-rest-init : goal.loop-rest-init
loop-rest-init g c = passed-start g.E.Utf16Order.BIG c.args.self c.args.bytes.now c.requires

pub returns-then-c-self-clause-first : goal.returns-then-c-self-clause-first
returns-then-c-self-clause-first g c =
    let big = g.E.Utf16Order.BIG in
    let bytes = c.args.bytes.now in
    let rest = c.loop-rest.rest.now in
    let more = text_of big (drop c.first_char-c.result.1 rest) in
    let first : text_of big rest ≡ c.args.self ∷ more = c.first_char-c.ensures.joined ∙ ap (λ d. d ∷ more) c.if-c-self.true in
    let offset : size c.loop-rest.invariant.front ≡ length bytes - length rest = omega (arith, c.loop-rest.invariant.long) in
    subst (λ n. IsFirst (IsOccurrence big bytes (encode big (c.args.self ∷ []))) (Some n)) offset
    (passed-found big c.args.self bytes rest c.requires (one_char big c.args.self c.ranges.self.0) c.loop-rest.invariant more first)

pub loop-rest-preserved : goal.loop-rest-preserved
loop-rest-preserved g c =
    let big = g.E.Utf16Order.BIG in
    let rest = c.loop-rest.rest.now in
    let n = c.first_char-c.result.1 in
    let long : length rest ≡ char_size c.first_char-c.result.0 + length (drop n rest) =
    omega (arith, length-drop n rest, c.first_char-c.ensures.size, c.first_char-c.ensures.within) in
    subst (IsPassed big c.args.self c.args.bytes.now) (sym (take_rest rest n))
    (passed-step big c.args.self c.args.bytes.now rest c.first_char-c.result.0 (drop n rest) c.loop-rest.invariant c.first_char-c.ensures.joined long c.first_char-c.ensures.well_formed c.if-c-self.false)

pub returns-clause-first : goal.returns-clause-first
returns-clause-first g c =
    let big = g.E.Utf16Order.BIG in
    let rest = c.loop-rest.rest.now in
    let none : rest ≡ [] = nil_from_length rest (eqb-true (length rest) 0 (search rules)) in
    passed-all big c.args.self c.args.bytes.now rest c.requires (one_char big c.args.self c.ranges.self.0) c.loop-rest.invariant (ap (text_of big) none ∙ text_of-nil big)
