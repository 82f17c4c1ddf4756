use Rattle.std.proofs.Common.{◌≤◌, ◌<◌, slice_index, take, subst, arith, inl, inr, ⊎_elim}
use Rattle.std.proofs.lemmas.Bool.{cases_lt}
use Rattle.utf16_units.specs.Lanes.{HasNoSurrogate, IsNoSurrogate}
use Rattle.utf16_units.proofs.EncodingLemmas.{IsUtf16-nil}
use Rattle.utf16_units.proofs.PlainLemmas.{IsUtf16-plain_front, no_surrogate-plain_front, plain-nil, unit-in_front}
use Rattle.utf16_units.proofs.plain.plain_prefix_len.Goals as goal

pub returns-then-raw-lt64-clause-text : goal.returns-then-raw-lt64-clause-text
returns-then-raw-lt64-clause-text g c = IsUtf16-nil g.E.Utf16Order.BIG

pub returns-then-raw-lt64-clause-plain : goal.returns-then-raw-lt64-clause-plain
returns-then-raw-lt64-clause-plain g c = plain-nil g.E.Utf16Order.BIG

pub returns-clause-plain : goal.returns-clause-plain
returns-clause-plain g c =
    no_surrogate-plain_front g.E.Utf16Order.BIG c.args.raw.now 64 (omega arith) c.plain_len.result (omega arith)
    (subst (λ us. HasNoSurrogate (take c.plain_len.result us)) c.units32.ensures.units c.plain_len.ensures.plain)

pub returns-clause-text : goal.returns-clause-text
returns-clause-text g c =
    IsUtf16-plain_front g.E.Utf16Order.BIG c.args.raw.now 64 (omega arith) c.plain_len.result (omega arith) c.type_inv.raw
    (subst (λ us. HasNoSurrogate (take c.plain_len.result us)) c.units32.ensures.units c.plain_len.ensures.plain)

pub returns-clause-stop : goal.returns-clause-stop
returns-clause-stop g c within = ⊎_elim
    (λ (some : c.plain_len.result < 32). inr
    (subst (λ unit. ¬ IsNoSurrogate unit) (unit-in_front g.E.Utf16Order.BIG c.args.raw.now 64 within c.plain_len.result (omega arith))
    (subst (λ us. ¬ IsNoSurrogate (slice_index us c.plain_len.result)) c.units32.ensures.units (c.plain_len.ensures.stop some))))
    (λ (all : 32 ≤ c.plain_len.result). inl (omega (arith, c.plain_len.ensures.few)))
    (cases_lt c.plain_len.result 32)
