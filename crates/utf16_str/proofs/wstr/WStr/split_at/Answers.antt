use Rattle.std.proofs.Common.{◌∙◌, ◌++◌, ap, ap₂, arith, drop, length, sym, take}
use Rattle.utf16_units.specs.Boundary.{text_from, text_to}
use Rattle.utf16_units.specs.Encoding.{Encodes, text_of}
use Rattle.utf16_units.proofs.BoundaryLemmas.{Encodes-from, Encodes-to, IsBoundary-within, text_to-text_from}
use Rattle.utf16_units.proofs.EncodingLemmas.{IsUtf16-from_Encodes, length-encode, text_of-Encodes}
use Rattle.utf16_str.specs.WStr.{wstr_text}
use Rattle.utf16_str.proofs.wstr.WStr.split_at.Given.{Over}
use Rattle.utf16_str.proofs.wstr.WStr.split_at.Goals as goal
use Rattle.utf16_str.proofs.wstr.WStr.split_at.Goals.{After-as_bytes}

to : (g : Over) (c : After-as_bytes g) → Encodes g.E.Utf16Order.BIG (text_to (wstr_text c.args.self) c.args.mid) (take c.args.mid c.as_bytes.result.now)
to g c = Encodes-to _ (wstr_text c.args.self) c.as_bytes.result.now c.args.mid c.as_bytes.ensures.encoding c.requires

from : (g : Over) (c : After-as_bytes g) → Encodes g.E.Utf16Order.BIG (text_from (wstr_text c.args.self) c.args.mid) (drop c.args.mid c.as_bytes.result.now)
from g c = Encodes-from _ (wstr_text c.args.self) c.as_bytes.result.now c.args.mid c.as_bytes.ensures.encoding c.requires

pub split_at-requires : goal.split_at-requires
split_at-requires g c =
    let text = wstr_text c.args.self in
    let long = ap length (sym c.as_bytes.ensures.encoding.spelled) ∙ length-encode g.E.Utf16Order.BIG text in
    omega (arith, long, IsBoundary-within text c.args.mid c.requires)

pub from_utf16_unchecked-requires : goal.from_utf16_unchecked-requires
from_utf16_unchecked-requires g c =
    rw c.split_at.ensures.front (IsUtf16-from_Encodes _ _ _ (to g (goal.at.from_utf16_unchecked-requires g c).After-as_bytes))

pub from_utf16_unchecked-requires-2 : goal.from_utf16_unchecked-requires-2
from_utf16_unchecked-requires-2 g c =
    rw c.split_at.ensures.back (IsUtf16-from_Encodes _ _ _ (from g (goal.at.from_utf16_unchecked-requires-2 g c).After-as_bytes))

pub returns-clause-front : goal.returns-clause-front
returns-clause-front g c =
    ap (text_of g.E.Utf16Order.BIG) (c.from_utf16_unchecked.ensures.bytes ∙ c.split_at.ensures.front)
    ∙ text_of-Encodes _ _ _ (to g (goal.at.returns-clause-front g c).After-as_bytes)

pub returns-clause-back : goal.returns-clause-back
returns-clause-back g c =
    ap (text_of g.E.Utf16Order.BIG) (c.from_utf16_unchecked-2.ensures.bytes ∙ c.split_at.ensures.back)
    ∙ text_of-Encodes _ _ _ (from g (goal.at.returns-clause-back g c).After-as_bytes)

pub returns-clause-joined : goal.returns-clause-joined
returns-clause-joined g c =
    let big = g.E.Utf16Order.BIG in
    let front = ap (text_of big) (c.from_utf16_unchecked.ensures.bytes ∙ c.split_at.ensures.front) ∙ text_of-Encodes _ _ _ (to g (goal.at.returns-clause-joined g c).After-as_bytes) in
    let back = ap (text_of big) (c.from_utf16_unchecked-2.ensures.bytes ∙ c.split_at.ensures.back) ∙ text_of-Encodes _ _ _ (from g (goal.at.returns-clause-joined g c).After-as_bytes) in
    ap₂ (λ x y. x ++ y) front back ∙ text_to-text_from (wstr_text c.args.self) c.args.mid
