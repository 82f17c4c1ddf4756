use Rattle.std.proofs.Common.{◌≡◌, ◌-◌, ◌++◌, ◌∙◌, ap, ap₂, append_assoc, arith, drop, encode_utf8_all, eqb-true, length, length-drop, refl, rules, subst, sym, take, take_all}
use Rattle.std.proofs.lemmas.Str.{length-encode}
use Rattle.std.specs.Char.{encode_utf8}
use Rattle.utf16_units.specs.Encoding.{IsUtf16, text_of, utf8_of}
use Rattle.utf16_units.proofs.BackChar.{size-even}
use Rattle.utf16_units.proofs.EncodingLemmas.{length-text}
use Rattle.utf16_units.proofs.ShownLemmas.{len_utf8-le}
use Rattle.utf16_to_utf8.proofs.SpaceLemmas.{all-written}
use Rattle.utf16_to_utf8.proofs.chars.write_chars.Goals as goal

pub loop-rest-init : goal.loop-rest-init
loop-rest-init g c = record { text = c.requires.well_formed; written = refl; room = omega arith }

pub put_char-end-requires : goal.put_char-end-requires
put_char-end-requires g c =
    let first = c.first_char-c in
    let raw = c.args.raw.now in
    let text = text_of g.E.Utf16Order.BIG raw in
    omega (
      arith,
      len_utf8-le first.result.0,
      length-encode first.result.0,
      first.ensures.size,
      first.ensures.within,
      c.loop-rest.invariant.room,
      c.requires.space,
      length-text g.E.Utf16Order.BIG raw c.requires.well_formed,
      size-even text,
      c.loop-rest.auto.out,
    )

pub loop-rest-preserved : goal.loop-rest-preserved
loop-rest-preserved g c =
    let big = g.E.Utf16Order.BIG in
    let first = c.first_char-c in
    let rest = c.loop-rest.rest.now in
    let after = drop first.result.1 rest in
    let done = take c.loop-rest.end c.loop-rest.out in
    let left = length-drop first.result.1 rest in
    let whole : take (length rest - first.result.1) after ≡ after = take_all (length rest - first.result.1) after (omega (arith, left)) in
    record {
      text = subst (IsUtf16 big) (sym whole) first.ensures.well_formed;
      written = ap₂ (λ front back. front ++ utf8_of big back) c.put_char-end.ensures.bytes whole ∙ append_assoc done (encode_utf8 first.result.0) (utf8_of big after)
          ∙ ap (λ t. done ++ encode_utf8_all t) (sym first.ensures.joined) ∙ c.loop-rest.invariant.written;
      room = omega (arith, len_utf8-le first.result.0, length-encode first.result.0, first.ensures.size, first.ensures.within, c.put_char-end.ensures.end, ap length whole, left, c.loop-rest.invariant.room);
    }

pub returns-clause-utf8 : goal.returns-clause-utf8
returns-clause-utf8 g c =
    let rest = c.loop-rest.rest.now in
    all-written g.E.Utf16Order.BIG rest _ _ (eqb-true (length rest) 0 (search rules)) c.loop-rest.invariant.written

pub returns-clause-fits : goal.returns-clause-fits
returns-clause-fits g c =
    let raw = c.args.raw.now in
    omega (arith, c.loop-rest.invariant.room, c.requires.space, length-text g.E.Utf16Order.BIG raw c.requires.well_formed, size-even (text_of g.E.Utf16Order.BIG raw), c.loop-rest.auto.out)
