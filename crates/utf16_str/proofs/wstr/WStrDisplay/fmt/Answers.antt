use Rattle.std.proofs.Common.{◌≡◌, ◌++◌, [], ◌∷◌, ◌∙◌, List, ℕ, sym, ap, append-nil, encode_utf8, encode_utf8_all, rules}
use Rattle.std.proofs.Output.{has_written_append, has_written_of_eq, has_written_styled_append, has_written_styled_of_eq}
use Rattle.std.proofs.lemmas.Str.{encodes-append}
use Rattle.utf16_str.proofs.wstr.WStrDisplay.fmt.Goals as goal

one_more : (done : List ℕ) (char : ℕ) → encode_utf8_all done ++ encode_utf8 char ≡ encode_utf8_all (done ++ char ∷ [])
one_more done char = ap (λ t. encode_utf8_all done ++ t) (sym (append-nil (encode_utf8 char))) ∙ sym (encodes-append done (char ∷ []))

pub loop-c-preserved : goal.loop-c-preserved
loop-c-preserved g c = record {
  plain = λ bare. has_written_of_eq _ _ _ _ _ (one_more c.loop-c.yielded c.in-Some.c) (has_written_append _ _ _ _ _ _ (c.loop-c.invariant.plain bare) (search rules));
  styled = λ flush. has_written_styled_of_eq _ _ _ _ _ (one_more c.loop-c.yielded c.in-Some.c) (has_written_styled_append _ _ _ _ _ _ (c.loop-c.invariant.styled flush) (search rules));
}
