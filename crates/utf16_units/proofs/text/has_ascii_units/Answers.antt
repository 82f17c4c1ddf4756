use Rattle.std.proofs.Common.{◌↔◌, ◌<◌, All, IsTrue, arith, refl, subst, sym, ◌∙◌}
use Rattle.std.proofs.lemmas.Bool.{false≢true}
use Rattle.std.proofs.lemmas.List.{take_rest}
use Rattle.utf16_units.specs.Encoding.{units_of}
use Rattle.utf16_units.proofs.AsciiLemmas.{AsciiTo-next, AsciiTo-none, ascii_next, ascii_rest}
use Rattle.utf16_units.proofs.text.has_ascii_units.Goals as goal

pub loop-at-init : goal.loop-at-init
loop-at-init g c = AsciiTo-none g.E.Utf16Order.BIG c.args.raw.now

pub returns-then-not-is_ascii_block : goal.returns-then-not-is_ascii_block
returns-then-not-is_ascii_block g c =
    let next = ascii_next g.E.Utf16Order.BIG c.args.raw.now c.loop-at.at 64 c.loop-at.invariant refl (omega arith) in
    (λ e. absurd (false≢true e), λ all. absurd (false≢true (sym c.if-not-is_ascii_block.true ∙ c.is_ascii_block.ensures.1 (next all))))

pub loop-at-preserved : goal.loop-at-preserved
loop-at-preserved g c =
    AsciiTo-next g.E.Utf16Order.BIG c.args.raw.now c.loop-at.at 64 c.loop-at.invariant refl (omega arith) (c.is_ascii_block.ensures.0 c.if-not-is_ascii_block.false)

pub returns : goal.returns
returns g c =
    let big = g.E.Utf16Order.BIG in
    let raw = c.args.raw.now in
    let few = subst (λ rest. IsTrue c.has_few_ascii_units.result ↔ All (λ unit. unit < 0x80) (units_of big rest)) (take_rest raw c.loop-at.at) c.has_few_ascii_units.ensures in
    let rest = ascii_rest big raw c.loop-at.at c.loop-at.invariant in
    (λ e. rest.0 (few.0 e), λ all. few.1 (rest.1 all))
