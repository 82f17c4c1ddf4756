use Rattle.std.proofs.Common.{◌-◌, ◌∙◌, List, ℕ, ap, arith, option_map, refl, subst, sym}
use Rattle.std.specs.Iterator.{YieldsFirstBy}
use Rattle.utf16_str.specs.Matches.{limited}
use Rattle.utf16_str.specs.Substrings.{joined_toward, parts_left}
use Rattle.utf16_str.specs.WStr.{wstr_text}
use Rattle.utf16_str.proofs.CountLemmas.{count-toward}
use Rattle.utf16_str.proofs.JoinLemmas.{join-toward}
use Rattle.utf16_str.proofs.MatchLemmas.{limited-more}
use Rattle.utf16_str.proofs.NextLemmas.{limited-rest, progress-any}
use Rattle.utf16_str.proofs.SplitLemmas.{progress-part}
use Rattle.utf16_str.proofs.splitn.WStrPartsNIterator.next.Goals as goal

pub returns-then-self-eq0-2-clause-steps : goal.returns-then-self-eq0-2-clause-steps
returns-then-self-eq0-2-clause-steps g c =
    let back = g.D.Direction.BACK in
    let part = g.P.Pattern.part c.self.inside.left.pattern in
    let begun = c.self.inside.left.begun in
    let count = c.self.inside.count in
    subst (λ items. YieldsFirstBy wstr_text (λ (rest : List (List ℕ)). rest) items c.self.inside.left.rest
    (limited (joined_toward back part) (count - 1) (parts_left back part begun (option_map wstr_text c.self.inside.left.rest)))) c.self.view_is
    (limited-rest wstr_text (joined_toward back part) (parts_left back part begun) refl (λ text. (count-toward back part begun text).0) (λ text. join-toward back part begun text)
    c.self.inside.left.rest count (count - 1) (omega (arith, c.if-self-eq0.false, c.if-self-eq0-2.true)) c.if-self-eq0-2.true)

pub returns-then-self-eq0-2-clause-goes : goal.returns-then-self-eq0-2-clause-goes
returns-then-self-eq0-2-clause-goes g c = progress-any wstr_text _ (λ _. tt) _ _ _ (returns-then-self-eq0-2-clause-steps g c)

pub returns-clause-steps : goal.returns-clause-steps
returns-clause-steps g c =
    let back = g.D.Direction.BACK in
    let part = g.P.Pattern.part c.next_part.new.self.pattern in
    let count = c.self.inside.count in
    let more = parts_left back part c.next_part.new.self.begun (option_map wstr_text c.next_part.new.self.rest) in
    sym c.self.view_is
    ∙ ap (λ p. limited (joined_toward back (g.P.Pattern.part p)) count (parts_left back (g.P.Pattern.part c.self.inside.left.pattern) c.self.inside.left.begun (option_map wstr_text c.self.inside.left.rest))) (sym c.in_ok-part.ensures.pattern)
    ∙ ap (limited (joined_toward back part) count) c.in_ok-part.ensures.parts
    ∙ limited-more (joined_toward back part) count (count - 1) (wstr_text c.in_ok-part.part) more (omega (arith, c.if-self-eq0.false)) (omega (arith, c.if-self-eq0-2.false))

pub returns-clause-goes : goal.returns-clause-goes
returns-clause-goes g c = progress-part _ (λ _. tt) _ _ _ _ (returns-clause-steps g c)
