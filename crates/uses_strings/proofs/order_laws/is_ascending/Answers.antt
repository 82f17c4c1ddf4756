use Rattle.std.proofs.Common.{is_lt, nat_cmp, rules}
use Rattle.std.proofs.lemmas.List.Sorted.{answers_always}
use Rattle.std.specs.Cmp.Lexicographic.{slice_cmp}
use Rattle.utf16string.specs.WString.{wstring_text}
use Rattle.uses_strings.proofs.Ordered.{ascending}
use Rattle.uses_strings.proofs.order_laws.is_ascending.Goals as goal

pub returns : goal.returns
returns g c =
    ascending wstring_text c.args.strings.now c.before_follows.ensures c.is_sorted_by.result
    (c.is_sorted_by.ensures.cases (λ x y. is_lt (slice_cmp nat_cmp (wstring_text x) (wstring_text y))) (answers_always _ _ _ (λ f a r f' called. search (rules, called))))
