use Rattle.std.proofs.Common.{◌+◌, ◌∙◌, ap, sym, subst, true≢false, ⊎_elim, length, slice_index, arith, eqb-true, eq-eqb}
use Rattle.utf16_units.specs.Unit.{IsTrailing, unit_of}
use Rattle.utf16_units.proofs.BackChar.{boundary_at_end, boundary_at_unit, boundary_is, first_unit-drop, length-even}
use Rattle.utf16_units.proofs.EncodingLemmas.{IsUtf16-from_is_utf16}
use Rattle.utf16_units.proofs.Tests.{not_decides}
use Rattle.utf16_str.specs.WStr.{wstr_bytes}
use Rattle.utf16_str.proofs.wstr.WStr.is_char_boundary.Goals as goal

pub returns-then-index-raw : goal.returns-then-index-raw
returns-then-index-raw g c =
    let big = g.E.Utf16Order.BIG in
    let bytes = wstr_bytes c.args.self.now in
    let index = c.args.index in
    let text = IsUtf16-from_is_utf16 big bytes c.args.self.now.well_formed in
    let long = ap length c.as_bytes-raw.ensures.bytes in (
      λ yes. boundary_at_end big bytes index text (eqb-true index (length c.as_bytes-raw.result.now) yes ∙ long),
      λ b. ⊎_elim (λ end. eq-eqb index (length c.as_bytes-raw.result.now) (end ∙ sym long)) (λ inside. absurd (omega (arith, inside.0, long))) (boundary_is big bytes index text b),
    )

pub returns-then-index-ne0 : goal.returns-then-index-ne0
returns-then-index-ne0 g c =
    let big = g.E.Utf16Order.BIG in
    let bytes = wstr_bytes c.args.self.now in
    let text = IsUtf16-from_is_utf16 big bytes c.args.self.now.well_formed in
    let long = ap length c.as_bytes-raw.ensures.bytes in (
      λ no. absurd (true≢false (sym no)),
      λ b. ⊎_elim (λ end. absurd (omega (arith, end, long))) (λ inside. absurd (c.if-index-ne0.true inside.1)) (boundary_is big bytes c.args.index text b),
    )

pub bounds-raw-index-2 : goal.bounds-raw-index-2
bounds-raw-index-2 g c =
    let bytes = wstr_bytes c.args.self.now in
    let even = length-even g.E.Utf16Order.BIG bytes (IsUtf16-from_is_utf16 g.E.Utf16Order.BIG bytes c.args.self.now.well_formed) in
    omega (arith, even, ap length c.as_bytes-raw.ensures.bytes)

pub returns : goal.returns
returns g c =
    let big = g.E.Utf16Order.BIG in
    let bytes = wstr_bytes c.args.self.now in
    let index = c.args.index in
    let text = IsUtf16-from_is_utf16 big bytes c.args.self.now.well_formed in
    let long = ap length c.as_bytes-raw.ensures.bytes in
    let same = c.as_bytes-raw.ensures.bytes in
    let unit = c.read_unit.ensures ∙ ap (λ b. unit_of big (slice_index b index) (slice_index b (index + 1))) same ∙ sym (first_unit-drop big bytes index) in
    not_decides c.is_trailing_surrogate.result c.is_trailing_surrogate.ensures (
      λ b none. ⊎_elim
          (λ end. absurd (omega (arith, end, long)))
          (λ inside. inside.2 (subst IsTrailing unit none))
          (boundary_is big bytes index text b),
      λ none. boundary_at_unit big bytes index text (omega (arith, long)) c.if-index-ne0.false (λ trailing. none (subst IsTrailing (sym unit) trailing)),
    )
