use Rattle.std.proofs.Common.{◌≡◌, ◌+◌, ◌*◌, ◌≤◌, length, drop, take, arith, refl, sym, ap, ◌∙◌, subst}
use Rattle.std.proofs.lemmas.List.{take_rest}
use Rattle.utf16_units.specs.Encoding.{text_of}
use Rattle.utf16_units.proofs.FirstChar.{AreBytes}
use Rattle.utf16_units.proofs.SplitIllFormed.{AreBytes-drop}
use Rattle.utf16_units.specs.Split.{lossy_text}
use Rattle.utf16_transcode.proofs.DecodeLossyLemmas.{text_size}
use Rattle.utf16_fixed.proofs.LenLemmas.{cut_off_len, fault_len, front_len, lossy_text-most}
use Rattle.utf16_fixed.proofs.decode_lossy.to_utf32_lossy_len.Given.{Over}
use Rattle.utf16_fixed.proofs.decode_lossy.to_utf32_lossy_len.Goals as goal
use Rattle.utf16_fixed.proofs.decode_lossy.to_utf32_lossy_len.Goals.{After-count_chars, After-count_chars-in-loop-error, After-validate_raw_utf16}

most : (g : Over) (c : After-validate_raw_utf16 g) → 2 * length (lossy_text g.E.Utf16Order.BIG c.args.raw.now) ≤ length c.args.raw.now + 1
most g c = lossy_text-most g.E.Utf16Order.BIG c.args.raw.now (λ k. omega (arith, c.type_inv.raw k))

all : (g : Over) (c : After-count_chars g) → c.loop-error.len + c.count_chars.result ≡ length (lossy_text g.E.Utf16Order.BIG c.args.raw.now)
all g c =
    omega (arith, c.loop-error.invariant.0, c.count_chars.ensures, ap length (text_size _ _ (c.in-Ok.ensures.ok.0 refl)))

pub overflow_add-result : goal.overflow_add-result
overflow_add-result g c =
    let at = goal.at.overflow_add-result g c in
    record { fits = omega (arith, all g at.After-count_chars, most g at.After-validate_raw_utf16) }

pub returns-in-Ok : goal.returns-in-Ok
returns-in-Ok g c = all g (goal.at.returns-in-Ok g c).After-count_chars

-- the characters of the valid prefix
front : (g : Over) (c : After-count_chars-in-loop-error g) → c.count_chars-in-loop-error.result ≡ length (text_of g.E.Utf16Order.BIG (take c.valid_up_to.result c.loop-error.rest.now))
front g c = c.count_chars-in-loop-error.ensures ∙ ap (λ b. length (text_of g.E.Utf16Order.BIG b)) c.split_at.ensures.front

some : (g : Over) (c : After-count_chars-in-loop-error g)
    → c.loop-error.len + (c.count_chars-in-loop-error.result + 1) ≤ length (lossy_text g.E.Utf16Order.BIG c.args.raw.now)
some g c =
    omega (arith, front g c, front_len _ _ _ c.in-Err.ensures.error _ c.valid_up_to.ensures c.loop-error.invariant.1, c.loop-error.invariant.0)

pub overflow_add-len : goal.overflow_add-len
overflow_add-len g c =
    let at = goal.at.overflow_add-len g c in
    record { fits = omega (arith, some g at.After-count_chars-in-loop-error, most g at.After-validate_raw_utf16) }

pub overflow_add-len-in-loop-error : goal.overflow_add-len-in-loop-error
overflow_add-len-in-loop-error g c =
    let at = goal.at.overflow_add-len-in-loop-error g c in
    record { fits = omega (arith, some g at.After-count_chars-in-loop-error, most g at.After-validate_raw_utf16) }

pub loop-error-preserved : goal.loop-error-preserved
loop-error-preserved g c =
    let are = c.loop-error.invariant.1 in
    let len = fault_len _ _ _ c.in-Err.ensures.error _ c.valid_up_to.ensures are c.in-Some.skipped (sym c.error_len.ensures ∙ c.in-Some.is) in
    let left = take_rest c.split_at.result.1.now c.in-Some.skipped ∙ ap (drop c.in-Some.skipped) c.split_at.ensures.back in (
      omega (arith, c.loop-error.invariant.0, len, front g (goal.at.loop-error-preserved g c).After-count_chars-in-loop-error, ap (λ b. length (lossy_text g.E.Utf16Order.BIG b)) left),
      subst AreBytes (sym left) (AreBytes-drop c.in-Some.skipped _ (AreBytes-drop c.valid_up_to.result c.loop-error.rest.now are)),
    )

pub returns-in-None : goal.returns-in-None
returns-in-None g c =
    let len = cut_off_len _ _ _ c.in-Err.ensures.error _ c.valid_up_to.ensures (sym c.error_len.ensures ∙ c.in-None.is) in
    omega (arith, c.loop-error.invariant.0, len, front g (goal.at.returns-in-None g c).After-count_chars-in-loop-error)
