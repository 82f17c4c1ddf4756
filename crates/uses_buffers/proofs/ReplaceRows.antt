-- What the definition of `replace` says of examples: matches do not overlap, and the empty part
-- matches before each character and at the end.
use Rattle.std.proofs.Common.{◌≡◌, refl}
use Rattle.std.specs.Prelude.{codes}
use Rattle.utf16string.specs.Replace.{around_match, replaced, replaced_first}

overlapping : replaced (codes "aa") (codes "b") (codes "aaa") ≡ codes "ba"
unfolding replaced_first around_match
overlapping = refl

between : replaced (codes "") (codes "-") (codes "ab") ≡ codes "-a-b-"
unfolding replaced_first around_match
between = refl

nothing : replaced (codes "") (codes "-") (codes "") ≡ codes "-"
unfolding replaced_first around_match
nothing = refl

none : replaced_first 0 (codes "a") (codes "b") (codes "aa") ≡ codes "aa"
unfolding replaced_first around_match
none = refl

first : replaced_first 1 (codes "a") (codes "b") (codes "aa") ≡ codes "ba"
unfolding replaced_first around_match
first = refl

first-between : replaced_first 2 (codes "") (codes "-") (codes "ab") ≡ codes "-a-b"
unfolding replaced_first around_match
first-between = refl

more-than-there-are : replaced_first 9 (codes "a") (codes "b") (codes "aca") ≡ codes "bcb"
unfolding replaced_first around_match
more-than-there-are = refl
