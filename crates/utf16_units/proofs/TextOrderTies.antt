-- Equal bytes and the ordering of texts. Laws of impls cite it, so it depends only on `specs/`.
use Rattle.std.specs.Prelude.{◌≡◌, ℕ, Bool, true, List, nat_eq}
use Rattle.std.specs.Cmp.{both_ways, second_so}
use Rattle.std.specs.Cmp.Lexicographic.{bytes_decides, pointwise, slice_cmp, texts_ties}
use Rattle.std.specs.Ordering.{eq_by_cmp, nat_cmp}
use Rattle.std.specs.Str.{all_scalars}
use Rattle.utf16_units.specs.Encoding.{encode, is_utf16, text_of}
use mathlib.Core.Path.{sym, ap, ◌∙◌}

spelled : (big : Bool) (bytes : List ℕ) → is_utf16 big bytes ≡ true → encode big (text_of big bytes) ≡ bytes
unfolding is_utf16
spelled big bytes passes =
    (bytes_decides (encode big (text_of big bytes)) bytes).0 (second_so (all_scalars (text_of big bytes)) (pointwise nat_eq (encode big (text_of big bytes)) bytes) passes)

-- well-formed bytes are the same exactly if their texts compare equal
pub same_ties : (big : Bool) (bytes other : List ℕ) → is_utf16 big bytes ≡ true → is_utf16 big other ≡ true
    → pointwise nat_eq bytes other ≡ eq_by_cmp (slice_cmp nat_cmp) (text_of big bytes) (text_of big other)
same_ties big bytes other passes others =
    let text = text_of big bytes in
    let other_text = text_of big other in
    both_ways (pointwise nat_eq bytes other) (pointwise nat_eq text other_text)
    (λ same. (bytes_decides text other_text).1 (ap (text_of big) ((bytes_decides bytes other).0 same)))
    (λ same. (bytes_decides bytes other).1 (sym (spelled big bytes passes) ∙ ap (encode big) ((bytes_decides text other_text).0 same) ∙ spelled big other others))
    ∙ texts_ties text other_text
