use Rattle.std.proofs.Common.{◌≡◌, ◌+◌, ◌≤◌, encode_utf8_all, length, drop, arith, refl, sym, ap, ◌∙◌, subst}
use Rattle.std.proofs.lemmas.List.{take_rest}
use Rattle.utf16_units.specs.Encoding.{text_of}
use Rattle.utf16_units.proofs.FirstChar.{AreBytes}
use Rattle.utf16_units.proofs.SplitIllFormed.{AreBytes-drop}
use Rattle.utf16_units.specs.Split.{lossy_text}
use Rattle.utf16_transcode.proofs.DecodeLossyLemmas.{cut_off_size, fault_size, front_size, most_size, text_size}
use Rattle.utf16_transcode.proofs.sizes.to_utf8_lossy_len.Given.{Over}
use Rattle.utf16_transcode.proofs.sizes.to_utf8_lossy_len.Goals as goal
use Rattle.utf16_transcode.proofs.sizes.to_utf8_lossy_len.Goals.{After-utf8_len, After-utf8_len-in-loop-error}

all : (g : Over) (c : After-utf8_len g) → c.loop-error.size + c.utf8_len.result ≡ length (encode_utf8_all (lossy_text g.E.Utf16Order.BIG c.args.raw.now))
all g c =
    let text = text_size _ _ (c.in-Ok.ensures.ok.0 refl) in
    ap (λ n. c.loop-error.size + n) (c.utf8_len.ensures ∙ ap (λ t. length (encode_utf8_all t)) (sym text)) ∙ c.loop-error.invariant.0

pub overflow_add-result : goal.overflow_add-result
overflow_add-result g c =
    let most = most_size g.E.Utf16Order.BIG c.args.raw.now (λ k. omega (arith, c.type_inv.raw k)) in
    record { fits = omega (arith, all g (goal.at.overflow_add-result g c).After-utf8_len) }

pub returns-in-Ok : goal.returns-in-Ok
returns-in-Ok g c = all g (goal.at.returns-in-Ok g c).After-utf8_len

some : (g : Over) (c : After-utf8_len-in-loop-error g)
    → c.loop-error.size + (c.utf8_len-in-loop-error.result + 3) ≤ length (encode_utf8_all (lossy_text g.E.Utf16Order.BIG c.args.raw.now))
some g c =
    let front = front_size _ _ _ c.in-Err.ensures.error _ c.valid_up_to.ensures c.loop-error.invariant.1 in
    let len = c.utf8_len-in-loop-error.ensures ∙ ap (λ b. length (encode_utf8_all (text_of g.E.Utf16Order.BIG b))) c.split_at.ensures.front in
    omega (arith, c.loop-error.invariant.0)

pub overflow_add-size : goal.overflow_add-size
overflow_add-size g c =
    let most = most_size g.E.Utf16Order.BIG c.args.raw.now (λ k. omega (arith, c.type_inv.raw k)) in
    record { fits = omega (arith, some g (goal.at.overflow_add-size g c).After-utf8_len-in-loop-error) }

pub overflow_add-size-in-loop-error : goal.overflow_add-size-in-loop-error
overflow_add-size-in-loop-error g c =
    let most = most_size g.E.Utf16Order.BIG c.args.raw.now (λ k. omega (arith, c.type_inv.raw k)) in
    record { fits = omega (arith, some g (goal.at.overflow_add-size-in-loop-error g c).After-utf8_len-in-loop-error) }

pub loop-error-preserved : goal.loop-error-preserved
loop-error-preserved g c =
    let big = g.E.Utf16Order.BIG in
    let rest = c.loop-error.rest.now in
    let are = c.loop-error.invariant.1 in
    let size = fault_size _ _ _ c.in-Err.ensures.error _ c.valid_up_to.ensures are c.in-Some.len (sym c.error_len.ensures ∙ c.in-Some.is) in
    let len = c.utf8_len-in-loop-error.ensures ∙ ap (λ b. length (encode_utf8_all (text_of big b))) c.split_at.ensures.front in
    let left = take_rest c.split_at.result.1.now c.in-Some.len ∙ ap (drop c.in-Some.len) c.split_at.ensures.back in
    let next = ap (λ b. length (encode_utf8_all (lossy_text big b))) left in
    (omega (arith, c.loop-error.invariant.0), subst AreBytes (sym left) (AreBytes-drop c.in-Some.len _ (AreBytes-drop c.valid_up_to.result rest are)))

pub returns-in-None : goal.returns-in-None
returns-in-None g c =
    let size = cut_off_size _ _ _ c.in-Err.ensures.error _ c.valid_up_to.ensures (sym c.error_len.ensures ∙ c.in-None.is) in
    let len = c.utf8_len-in-loop-error.ensures ∙ ap (λ b. length (encode_utf8_all (text_of g.E.Utf16Order.BIG b))) c.split_at.ensures.front in
    omega (arith, c.loop-error.invariant.0)
