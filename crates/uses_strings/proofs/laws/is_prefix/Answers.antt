use Rattle.std.proofs.Common.{◌≡◌, ◌↔◌, ◌<◌, ◌∙◌, None, All, IsTrue, arith, ap, drop, subst, sym}
use Rattle.std.proofs.lemmas.List.{take_rest}
use Rattle.std.proofs.lemmas.List.Elements.{All-from_get_or}
use Rattle.utf16_units.specs.Continued.{IsDeadEnd}
use Rattle.utf16_units.specs.IllFormed.{IsIllFormed}
use Rattle.utf16_units.specs.Utf16Error.{error_len, valid_up_to}
use Rattle.utf16_units.proofs.Tests.{not_decides}
use Rattle.uses_strings.proofs.Tests.{none_from_test}
use Rattle.uses_strings.proofs.laws.is_prefix.Goals as goal

pub returns : goal.returns
returns g c =
    let big = g.E.Utf16Order.BIG in
    let raw = c.args.raw.now in
    let n = valid_up_to c.in-Err.e in
    let none : error_len c.in-Err.e ≡ None =
    sym c.error_len.ensures ∙ none_from_test c.error_len.result (sym c.is_some.ensures ∙ c.if-is_some.false) in
    let fault : IsIllFormed big raw None = subst (IsIllFormed big raw) none c.in-Err.ensures.error.fault in
    let bytes : All (λ b. b < 256) raw = All-from_get_or (λ b. b < 256) raw 0 (λ k l. omega (arith, c.type_inv.raw k)) in
    let law = c.none_continues.ensures big raw n bytes fault c.in-Err.ensures.error.front in
    let rest = take_rest raw c.valid_up_to.result ∙ ap (λ k. drop k raw) c.valid_up_to.ensures in
    let dead = subst (λ t. IsTrue c.is_dead_end.result ↔ IsDeadEnd big t) rest c.is_dead_end.ensures in
    not_decides c.is_dead_end.result dead law
