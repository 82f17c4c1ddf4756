use Rattle.std.proofs.Common.{◌≡◌, ◌↔◌, List, ℕ, None, Some, refl, subst, sym}
use Rattle.std.specs.Option.{IsNone, is_some}
use Rattle.utf16_units.specs.Boundary.{OccursIn, text_to}
use Rattle.utf16_units.proofs.EncodingLemmas.{IsUtf16-from_Encodes}
use Rattle.utf16_bytes.specs.Occurrence.{IsFirst}
use Rattle.utf16_str.specs.Found.{has_part}
use Rattle.utf16_str.specs.Substrings.{IsBeforeFirst, LacksPart}
use Rattle.utf16_str.specs.WStr.{wstr_text}
use Rattle.utf16_str.proofs.FirstLemmas.{before_first, lacks_part, lacks_part-not}
use Rattle.utf16_str.proofs.FoundLemmas.{around_part, found_is, has-there, without_part}
use Rattle.utf16_str.proofs.SearchLemmas.{first_of_part}
use Rattle.utf16_str.proofs.wstr.WStr.split_once.Given.{Over}
use Rattle.utf16_str.proofs.wstr.WStr.split_once.Goals as goal
use Rattle.utf16_str.proofs.wstr.WStr.split_once.Goals.{In_err-at, In_ok-at}

in_text : (g : Over) (c : In_ok-at g) → IsFirst (λ i. OccursIn (wstr_text c.args.self) i (g.P.Pattern.part c.args.delimiter)) (Some c.in_ok-at.at)
in_text g c = first_of_part _ _ (g.P.Pattern.part c.args.delimiter) _ c.as_bytes.ensures.encoding c.in_ok-at.ensures.scalars (Some c.in_ok-at.at) c.in_ok-at.ensures.first

not_in_text : (g : Over) (c : In_err-at g) → IsFirst (λ i. OccursIn (wstr_text c.args.self) i (g.P.Pattern.part c.args.delimiter)) None
not_in_text g c = first_of_part _ _ (g.P.Pattern.part c.args.delimiter) _ c.as_bytes.ensures.encoding c.in_err-at.ensures.scalars None c.in_err-at.ensures.first

first : (g : Over) (c : In_ok-at g) (front : List ℕ) → front ≡ text_to (wstr_text c.args.self) c.in_ok-at.at → IsBeforeFirst (g.P.Pattern.part c.args.delimiter) (wstr_text c.args.self) front
first g c front is = subst (IsBeforeFirst _ _) (sym is) (before_first _ _ _ (in_text g c))

pub next_in-requires : goal.next_in-requires
next_in-requires g c = IsUtf16-from_Encodes _ _ _ c.as_bytes.ensures.encoding

pub split_around-requires : goal.split_around-requires
split_around-requires g c = (in_text g c).0

pub returns-in_err-at-clause-none : goal.returns-in_err-at-clause-none
returns-in_err-at-clause-none g c =
    let text = wstr_text c.args.self in
    let part = g.P.Pattern.part c.args.delimiter in
    let none = not_in_text g (goal.at.returns-in_err-at-clause-none g c).In_err-at in
    subst (λ o. IsNone o ↔ LacksPart part text) (sym c.from_residual.ensures) (λ _. lacks_part part text none, λ lacks. refl)

pub returns-in_err-at-clause-value : goal.returns-in_err-at-clause-value
returns-in_err-at-clause-value g c =
    subst (λ o. is_some o ≡ has_part (g.P.Pattern.part c.args.delimiter) (wstr_text c.args.self)) (sym c.from_residual.ensures)
    (found_is _ _ None (not_in_text g (goal.at.returns-in_err-at-clause-value g c).In_err-at))

pub returns-in_err-at-clause-whole : goal.returns-in_err-at-clause-whole
returns-in_err-at-clause-whole g c = λ _. without_part _ _ (lacks_part _ _ (not_in_text g (goal.at.returns-in_err-at-clause-whole g c).In_err-at))

pub returns-clause-none : goal.returns-clause-none
returns-clause-none g c =
    (λ none. absurd (cc none), λ lacks. absurd (lacks_part-not (g.P.Pattern.part c.args.delimiter) (wstr_text c.args.self) _ _ c.split_around.ensures.split lacks))

pub returns-clause-first : goal.returns-clause-first
returns-clause-first g c = first g (goal.at.returns-clause-first g c).In_ok-at _ c.split_around.ensures.front

pub returns-clause-value : goal.returns-clause-value
returns-clause-value g c = sym (has-there (g.P.Pattern.part c.args.delimiter) (wstr_text c.args.self) _ _ c.split_around.ensures.split)

pub returns-clause-before : goal.returns-clause-before
returns-clause-before g c = sym (around_part _ _ _ _ c.split_around.ensures.split (first g (goal.at.returns-clause-before g c).In_ok-at _ c.split_around.ensures.front)).0

pub returns-clause-after : goal.returns-clause-after
returns-clause-after g c = sym (around_part _ _ _ _ c.split_around.ensures.split (first g (goal.at.returns-clause-after g c).In_ok-at _ c.split_around.ensures.front)).1
