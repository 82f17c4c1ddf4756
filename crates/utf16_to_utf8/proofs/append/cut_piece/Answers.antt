use Rattle.std.proofs.Common.{◌++◌, ◌∙◌, ap, ap₂, arith, drop, sym, take}
use Rattle.utf16_units.specs.Boundary.{text_from, text_to}
use Rattle.utf16_units.specs.Encoding.{Encodes, text_of}
use Rattle.utf16_units.proofs.BoundaryLemmas.{Encodes-from, Encodes-to, IsBoundary-within, text_to-text_from}
use Rattle.utf16_units.proofs.EncodingLemmas.{Encodes-text_of, IsUtf16-from_Encodes, length-text, text_of-Encodes}
use Rattle.utf16_to_utf8.proofs.append.cut_piece.Given.{Over}
use Rattle.utf16_to_utf8.proofs.append.cut_piece.Goals as goal
use Rattle.utf16_to_utf8.proofs.append.cut_piece.Goals.{After-piece_end}

to : (g : Over) (c : After-piece_end g) → Encodes g.E.Utf16Order.BIG (text_to (text_of g.E.Utf16Order.BIG c.args.raw.now) c.piece_end.result) (take c.piece_end.result c.args.raw.now)
to g c = Encodes-to _ _ c.args.raw.now c.piece_end.result (Encodes-text_of _ _ c.requires) c.piece_end.ensures.boundary

from : (g : Over) (c : After-piece_end g) → Encodes g.E.Utf16Order.BIG (text_from (text_of g.E.Utf16Order.BIG c.args.raw.now) c.piece_end.result) (drop c.piece_end.result c.args.raw.now)
from g c = Encodes-from _ _ c.args.raw.now c.piece_end.result (Encodes-text_of _ _ c.requires) c.piece_end.ensures.boundary

pub split_at-requires : goal.split_at-requires
split_at-requires g c =
    let text = text_of g.E.Utf16Order.BIG c.args.raw.now in
    omega (arith, IsBoundary-within text c.piece_end.result c.piece_end.ensures.boundary, length-text _ _ c.requires)

pub returns-clause-first_well_formed : goal.returns-clause-first_well_formed
returns-clause-first_well_formed g c = rw c.split_at.ensures.front (IsUtf16-from_Encodes _ _ _ (to g (goal.at.returns-clause-first_well_formed g c).After-piece_end))

pub returns-clause-second_well_formed : goal.returns-clause-second_well_formed
returns-clause-second_well_formed g c = rw c.split_at.ensures.back (IsUtf16-from_Encodes _ _ _ (from g (goal.at.returns-clause-second_well_formed g c).After-piece_end))

pub returns-clause-joined : goal.returns-clause-joined
returns-clause-joined g c =
    let big = g.E.Utf16Order.BIG in
    let front = ap (text_of big) c.split_at.ensures.front ∙ text_of-Encodes _ _ _ (to g (goal.at.returns-clause-joined g c).After-piece_end) in
    let back = ap (text_of big) c.split_at.ensures.back ∙ text_of-Encodes _ _ _ (from g (goal.at.returns-clause-joined g c).After-piece_end) in
    sym (ap₂ (λ x y. x ++ y) front back ∙ text_to-text_from (text_of big c.args.raw.now) c.piece_end.result)
