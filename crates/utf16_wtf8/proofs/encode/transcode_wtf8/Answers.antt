use Rattle.std.proofs.Common.{◌+◌, ◌-◌, ◌∙◌, arith, eq-eqb, length, ne_eqb, rules, sym}
use borrow.Rule.Slice.PartMut.{put_mid}
use Rattle.utf16_wtf8.specs.FromWtf8.{ReadsWtf8}
use Rattle.utf16_wtf8.proofs.FromWtf8Lemmas.{Reads-surrogate, Reads-text, short_of, stops_after, stops_after_text, surrogate_does_not_fit}
use Rattle.utf16_wtf8.proofs.encode.transcode_wtf8.Given.{Over}
use Rattle.utf16_wtf8.proofs.encode.transcode_wtf8.Goals as goal
use Rattle.utf16_wtf8.proofs.encode.transcode_wtf8.Goals.{After-begins_surrogate, then-after_leading, else-after_leading}

-- the text was read and written
after : (g : Over) (c : After-begins_surrogate g)
    → ReadsWtf8 g.E.Utf16Order.BIG c.args.wtf8.now
    (put_mid c.loop-after_leading.written (length c.loop-after_leading.to - c.loop-after_leading.written) c.loop-after_leading.to c.from_utf8-text.new.to)
    (c.loop-after_leading.read + c.from_utf8-text.result.read) (c.loop-after_leading.written + c.from_utf8-text.result.written) c.if-after_leading.after_leading
after g c =
    let text = Reads-text g.E.Utf16Order.BIG c.args.wtf8.now c.loop-after_leading.to c.from_utf8-text.new.to c.loop-after_leading.read c.loop-after_leading.written
    c.from_utf8-text.result.read c.from_utf8-text.result.written c.loop-after_leading.after_leading c.loop-after_leading.invariant c.from_utf8-text.ensures.wrote (search rules) c.if-after_leading.after_leading in
    elim c.if-after_leading.branch [
      | then-after_leading w ↦ text (λ none. w.after_leading-is ∙ eq-eqb c.from_utf8-text.result.read 0 none ∙ sym w.if-after_leading.true)
          (λ some. w.after_leading-is ∙ ne_eqb c.from_utf8-text.result.read 0 (λ none. omega arith))
      | else-after_leading w ↦ text (λ none. w.after_leading-is) (λ some. w.after_leading-is ∙ w.if-after_leading.false)
    ]

pub returns-then-not-begins_surrogate : goal.returns-then-not-begins_surrogate
returns-then-not-begins_surrogate g c =
    let text = c.from_utf8-text in
    let now = after g (goal.at.returns-then-not-begins_surrogate g c).After-begins_surrogate in
    record {
      reads = now;
      stop =
          stops_after_text g.E.Utf16Order.BIG c.args.wtf8.now c.loop-after_leading.to text.new.to _ _ text.result.read text.result.written c.loop-after_leading.after_leading
          c.if-after_leading.after_leading c.loop-after_leading.invariant now (search rules) (sym c.begins_surrogate.ensures ∙ c.if-not-begins_surrogate.true) text.result.stop text.ensures.stop;
    }

pub returns-in-Err : goal.returns-in-Err
returns-in-Err g c =
    let read = c.loop-after_leading.read + c.from_utf8-text.result.read in
    let now = after g (goal.at.returns-in-Err g c).After-begins_surrogate in
    record {
      reads = now;
      stop =
          stops_after g.E.Utf16Order.BIG c.args.wtf8.now _ read _ c.if-after_leading.after_leading now _ c.in-Err.stop
          (short_of c.args.wtf8.now read (sym c.begins_surrogate.ensures ∙ c.if-not-begins_surrogate.false)) c.in-Err.ensures.stop;
    }

pub returns-then-to-written-lt-UNIT_LEN : goal.returns-then-to-written-lt-UNIT_LEN
returns-then-to-written-lt-UNIT_LEN g c =
    let now = after g (goal.at.returns-then-to-written-lt-UNIT_LEN g c).After-begins_surrogate in
    record {
      reads = now;
      stop =
          surrogate_does_not_fit g.E.Utf16Order.BIG c.args.wtf8.now _ _ _ c.in-Ok.unit c.if-after_leading.after_leading now c.in-Ok.ensures.surrogate _
          c.if-to-written-lt-UNIT_LEN.true;
    }

pub loop-after_leading-preserved : goal.loop-after_leading-preserved
loop-after_leading-preserved g c =
    Reads-surrogate g.E.Utf16Order.BIG c.args.wtf8.now _ _ _ c.in-Ok.unit c.if-after_leading.after_leading
    (after g (goal.at.loop-after_leading-preserved g c).After-begins_surrogate) c.in-Ok.ensures.surrogate c.put-written.new.to c.write_unit.result c.put-written.result
    (search rules) c.write_unit.ensures c.put-written.ensures.bytes c.is_leading_surrogate-after_leading.result
    c.is_leading_surrogate-after_leading.ensures.0 c.is_leading_surrogate-after_leading.ensures.1
