use Rattle.std.proofs.Common.{◌+◌, ◌≤◌, ◌++◌, ◌∙◌, ap, encode_utf8_all, eqb-true, length, rules, string_bytes, sym, append_assoc, arith, length-append}
use Rattle.std.proofs.lemmas.Bool.{false≢true}
use Rattle.std.specs.String.{string_capacity, string_len}
use Rattle.utf16_units.specs.Encoding.{text_of}
use Rattle.utf16_units.proofs.PieceLemmas.{utf8-append}
use Rattle.utf16_to_utf8.proofs.SpaceLemmas.{all-written}
use Rattle.utf16_to_utf8.proofs.append.write_pieces.Given.{Over}
use Rattle.utf16_to_utf8.proofs.append.write_pieces.Goals as goal
use Rattle.utf16_to_utf8.proofs.append.write_pieces.Goals.{After-cut_piece}

pub returns-clause-appended : goal.returns-clause-appended
returns-clause-appended g c =
    let rest = c.loop-rest.rest.now in
    record {
      bytes = all-written g.E.Utf16Order.BIG rest _ _ (eqb-true (length rest) 0 (search rules)) c.loop-rest.invariant.written;
      grows = c.loop-rest.invariant.grows;
    }

-- the next piece fits
room : (g : Over) (c : After-cut_piece g)
    → string_len c.loop-rest.to + length (encode_utf8_all (text_of g.E.Utf16Order.BIG c.cut_piece.result.0.now)) ≤ string_capacity c.loop-rest.to
room g c =
    let front = text_of g.E.Utf16Order.BIG c.cut_piece.result.0.now in
    let back = text_of g.E.Utf16Order.BIG c.cut_piece.result.1.now in
    let both = ap encode_utf8_all c.cut_piece.ensures.joined ∙ utf8-append front back in
    omega (arith, ap length both, length-append (encode_utf8_all front) (encode_utf8_all back), c.loop-rest.invariant.room)

pub returns-in_err-write_piece-clause-ok : goal.returns-in_err-write_piece-clause-ok
returns-in_err-write_piece-clause-ok g c = absurd (false≢true (c.in_err-write_piece.ensures.succeeds (room g (goal.at.returns-in_err-write_piece-clause-ok g c).After-cut_piece)))

pub returns-in_err-write_piece-clause-appended : goal.returns-in_err-write_piece-clause-appended
returns-in_err-write_piece-clause-appended g c = absurd (false≢true (c.in_err-write_piece.ensures.succeeds (room g (goal.at.returns-in_err-write_piece-clause-appended g c).After-cut_piece)))

pub loop-rest-preserved : goal.loop-rest-preserved
loop-rest-preserved g c =
    let front = text_of g.E.Utf16Order.BIG c.cut_piece.result.0.now in
    let back = text_of g.E.Utf16Order.BIG c.cut_piece.result.1.now in
    let both = ap encode_utf8_all c.cut_piece.ensures.joined ∙ utf8-append front back in
    let done = string_bytes c.loop-rest.to in
    let put = c.in_ok-write_piece.ensures in
    record {
      text = c.cut_piece.ensures.second_well_formed;
      written = ap (λ bs. bs ++ encode_utf8_all back) put.text
          ∙ append_assoc done (encode_utf8_all front) (encode_utf8_all back)
          ∙ ap (λ bs. done ++ bs) (sym both) ∙ c.loop-rest.invariant.written;
      room = omega (arith, ap length put.text, length-append done (encode_utf8_all front), ap length both, length-append (encode_utf8_all front) (encode_utf8_all back), put.grows, c.loop-rest.invariant.room);
      grows = omega (arith, put.grows, c.loop-rest.invariant.grows);
    }
