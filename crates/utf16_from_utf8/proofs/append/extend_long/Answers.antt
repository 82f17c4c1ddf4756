use Rattle.std.proofs.Common.{◌+◌, ◌≤◌, ◌++◌, length-append, subst, sym, ap, ap₂, ◌∙◌, arith, take-append-drop}
use Rattle.std.proofs.lemmas.Bool.{false≢true}
use Rattle.std.proofs.lemmas.Str.{IsUtf8-drop, IsUtf8-take}
use Rattle.std.specs.Str.{IsUtf8, chars}
use Rattle.std.specs.Vec.{vec_capacity, vec_len}
use Rattle.utf16_units.specs.Encoding.{encode, size}
use Rattle.utf16_units.proofs.EncodingLemmas.{length-encode}
use Rattle.utf16_from_utf8.proofs.AppendLemmas.{piece-some, pieces-done, pieces-room, rest-fits, when-ok}
use Rattle.utf16_from_utf8.proofs.append.extend_long.Given.{Over}
use Rattle.utf16_from_utf8.proofs.append.extend_long.Goals as goal
use Rattle.utf16_from_utf8.proofs.append.extend_long.Goals.{After-split_at}

-- the next piece fits
room : (g : Over) (c : After-split_at g) → vec_len c.loop-rest.raw + size (chars c.split_at.result.0.now) ≤ vec_capacity c.loop-rest.raw
room g c =
    let big = g.E.Utf16Order.BIG in
    let rest = c.loop-rest.rest.now in
    let parts = c.split_at.ensures in
    let split = sym (take-append-drop c.floor_char_boundary.result rest) ∙ ap₂ (λ x y. x ++ y) (sym parts.front) (sym parts.back) in
    let old = c.args.raw.now in
    let room = pieces-room big c.loop-rest.raw.items (old.items ++ encode big (chars c.args.s.now)) rest c.split_at.result.0.now c.split_at.result.1.now (subst IsUtf8 (sym parts.front) (IsUtf8-take rest c.floor_char_boundary.result c.loop-rest.invariant.text c.floor_char_boundary.ensures.boundary)) split c.loop-rest.invariant.whole c.loop-rest.raw.cap
    (omega (arith, length-append old.items (encode big (chars c.args.s.now)), length-encode big (chars c.args.s.now), old.ok.0, c.requires, c.loop-rest.invariant.grows)) in
    omega (arith, room, c.loop-rest.raw.ok.0)

pub returns-in_err-append_by : goal.returns-in_err-append_by
returns-in_err-append_by g c = absurd (false≢true (c.in_err-append_by.ensures.succeeds (room g (goal.at.returns-in_err-append_by g c).After-split_at)))

pub loop-rest-smaller : goal.loop-rest-smaller
loop-rest-smaller g c =
    let cut = c.floor_char_boundary in
    omega (arith, c.split_at.ensures.back_len, piece-some c.loop-rest.rest.now cut.result 1024 c.loop-rest.invariant.text (omega arith) (omega (arith, c.loop-rest-test.true)) cut.ensures.nearest)

pub loop-rest-preserved : goal.loop-rest-preserved
loop-rest-preserved g c =
    let big = g.E.Utf16Order.BIG in
    let rest = c.loop-rest.rest.now in
    let cut = c.floor_char_boundary in
    let parts = c.split_at.ensures in
    let text = c.loop-rest.invariant.text in
    let piece = c.split_at.result.0.now in
    let next = c.split_at.result.1.now in
    let split = sym (take-append-drop cut.result rest) ∙ ap₂ (λ x y. x ++ y) (sym parts.front) (sym parts.back) in
    record {
      text = subst IsUtf8 (sym parts.back) (IsUtf8-drop rest cut.result text cut.ensures.boundary);
      grows = omega (arith, c.in_ok-append_by.ensures.grows, c.loop-rest.invariant.grows);
      whole = ap (λ t. t ++ encode big (chars next)) c.in_ok-append_by.ensures.items
          ∙ pieces-done big c.loop-rest.raw.items _ rest piece next (subst IsUtf8 (sym parts.front) (IsUtf8-take rest cut.result text cut.ensures.boundary)) split c.loop-rest.invariant.whole;
    }

pub returns-clause-ok : goal.returns-clause-ok
returns-clause-ok g c =
    let old = c.args.raw.now in
    let fits = rest-fits g.E.Utf16Order.BIG old.items c.loop-rest.raw.items c.args.s.now c.loop-rest.rest.now c.loop-rest.raw.cap c.loop-rest.invariant.whole (omega (arith, old.ok.0, c.requires, c.loop-rest.invariant.grows)) in
    c.append_by-2.ensures.succeeds (omega (arith, fits, c.loop-rest.raw.ok.0))

pub returns-clause-items : goal.returns-clause-items
returns-clause-items g c = when-ok c.append_by-2.result (returns-clause-ok g c) c.append_by-2.ensures.items ∙ c.loop-rest.invariant.whole
