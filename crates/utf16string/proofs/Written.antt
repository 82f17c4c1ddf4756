-- UTF-8 appended to a text, seen in UTF-8.
use Rattle.std.proofs.Common.{◌≡◌, ℕ, List, ◌++◌, ap, ◌∙◌}
use Rattle.std.proofs.lemmas.Str.{encodes-chars}
use Rattle.std.specs.Prelude.{encode_utf8_all}
use Rattle.std.specs.Str.{IsUtf8, chars}
use Rattle.utf16_units.specs.Edit.{push_text}
use Rattle.utf16_units.proofs.PieceLemmas.{utf8-append}

pub utf8-pushed : (old new s : List ℕ) → IsUtf8 s → new ≡ push_text old (chars s) → encode_utf8_all new ≡ encode_utf8_all old ++ s
utf8-pushed old new s utf8 pushed =
    ap encode_utf8_all pushed ∙ utf8-append old (chars s) ∙ ap (λ t. encode_utf8_all old ++ t) (encodes-chars s utf8)
