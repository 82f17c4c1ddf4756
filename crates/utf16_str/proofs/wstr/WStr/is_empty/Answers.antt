use Rattle.std.proofs.Common.{[], ◌≡◌, ◌↔◌, IsTrue, length, ap, sym, ◌∙◌, eqb, eq-eqb, eqb-true}
use Rattle.std.proofs.lemmas.List.{nil_from_length}
use Rattle.utf16_units.specs.Encoding.{encode, text_of}
use Rattle.utf16_units.proofs.EncodingLemmas.{encode-nil, text_of-nil}
use Rattle.utf16_str.specs.WStr.{wstr_text}
use Rattle.utf16_str.proofs.FoundLemmas.{same_answer}
use Rattle.utf16_str.proofs.wstr.WStr.is_empty.Given.{Over}
use Rattle.utf16_str.proofs.wstr.WStr.is_empty.Goals as goal
use Rattle.utf16_str.proofs.wstr.WStr.is_empty.Goals.{After-is_empty}

is : (g : Over) (c : After-is_empty g) → IsTrue c.is_empty.result ↔ (wstr_text c.args.self.now ≡ [])
is g c =
    let big = g.E.Utf16Order.BIG in
    let bytes = c.as_bytes.result.now in (
      λ yes. ap (text_of big) (sym c.as_bytes.ensures.bytes ∙ nil_from_length bytes (eqb-true (length bytes) 0 (sym c.is_empty.ensures ∙ yes))) ∙ text_of-nil big,
      λ none. c.is_empty.ensures ∙ eq-eqb (length bytes) 0 (ap length (sym c.as_bytes.ensures.encoding.spelled ∙ ap (encode big) none ∙ encode-nil big)),
    )

pub returns-clause-empty : goal.returns-clause-empty
returns-clause-empty g c = is g (goal.at.returns-clause-empty g c).After-is_empty

pub returns-clause-value : goal.returns-clause-value
returns-clause-value g c =
    let text = wstr_text c.args.self.now in
    same_answer c.is_empty.result (eqb (length text) 0) (is g (goal.at.returns-clause-value g c).After-is_empty)
    (λ yes. nil_from_length text (eqb-true (length text) 0 yes), λ none. eq-eqb (length text) 0 (ap length none))
