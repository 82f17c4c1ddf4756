use Rattle.std.proofs.Common.{◌≡◌, ◌∙◌, ◌∷◌, All, Some, ap, rules, subst, sym}
use Rattle.std.proofs.lemmas.List.Elements.{All-head, All-tail}
use Rattle.std.specs.Char.{IsScalar}
use Rattle.std.specs.Prelude.{chars}
use Rattle.std.specs.Str.Iter.{chars_rest}
use Rattle.utf16_units.proofs.EncodingLemmas.{IsUtf16-from_is_utf16, scalars-text_of}
use Rattle.utf16_str.specs.WStr.{wstr_text}
use Rattle.utf16_str.proofs.StrLemmas.{char_ahead, none_ahead, none_test}
use Rattle.utf16_str.proofs.wstr.WStr.eq_str.Goals as goal

pub loop-c-init : goal.loop-c-init
loop-c-init g c =
    let text = wstr_text c.args.self.now in
    let whole : text ≡ c.into_iter-c-iterator.result = cc (c.chars-c-items.ensures.text, c.into_iter-c-iterator.ensures.into_iter_gives) in
    let theirs : chars_rest c.chars-theirs.result ≡ c.args.s.now = c.chars-theirs.ensures.rest in
    record {
      scalars = subst (All IsScalar) whole (scalars-text_of _ _ (IsUtf16-from_is_utf16 _ _ c.args.self.now.well_formed));
      same = (λ h. sym whole ∙ h ∙ ap chars (sym theirs), λ h. whole ∙ h ∙ ap chars theirs);
    }

pub loop-c-preserved : goal.loop-c-preserved
loop-c-preserved g c =
    let char = c.in-Some.c in
    let rest = chars_rest c.next-in-loop-c.new.self in
    let ours = c.in-Some.ensures.steps in
    let all : All IsScalar (char ∷ c.next.new.self) = subst (All IsScalar) ours c.loop-c.invariant.scalars in
    let some : c.next-in-loop-c.result ≡ Some char = search rules in
    let ahead : chars (chars_rest c.loop-c.theirs) ≡ char ∷ chars rest =
    char_ahead char _ rest _ _ (All-head IsScalar char c.next.new.self all) some c.next-in-loop-c.ensures.steps.0 in
    record {
      scalars = All-tail IsScalar char c.next.new.self all;
      same = (
        λ h.
            let both : char ∷ c.next.new.self ≡ char ∷ chars rest = sym ours ∙ c.loop-c.invariant.same.0 h ∙ ahead in
            cc,
        λ h. c.loop-c.invariant.same.1 (ours ∙ ap (λ t. char ∷ t) h ∙ sym ahead),
      );
    }

pub returns : goal.returns
returns g c =
    let steps = c.next-2.ensures.steps in
    let ends = none_ahead (chars_rest c.loop-c.theirs) c.next-2.result _ _ steps.0 steps.2 in
    let test = none_test c.next-2.result c.is_none.result c.is_none.ensures in
    let none = c.in-None.ensures.steps.0 in (
      λ yes. c.loop-c.invariant.same.1 (none ∙ ends.0 (test.0 yes)),
      λ same. test.1 (ends.1 (sym none ∙ c.loop-c.invariant.same.0 same)),
    )

pub returns-then-ne : goal.returns-then-ne
returns-then-ne g c = search rules
