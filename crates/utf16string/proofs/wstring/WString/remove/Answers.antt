use Rattle.std.proofs.Common.{◌≡◌, ◌∷◌, ◌∙◌, ◌+◌, ◌≤◌, ap, arith, subst, sym, true}
use Rattle.std.specs.Iterator.{YieldsFirst}
use Rattle.std.specs.List.{remove_range}
use Rattle.utf16_units.specs.Boundary.{text_from}
use Rattle.utf16_units.specs.Edit.{remove_at}
use Rattle.utf16_units.specs.Encoding.{Encodes, is_utf16, text_of}
use Rattle.utf16_units.proofs.EditLemmas.{Encodes-checked, Encodes-removed, behind-first, boundary-within, char_at-first, checked-Encodes}
use Rattle.utf16_units.proofs.EncodingLemmas.{text_of-Encodes}
use Rattle.utf16string.specs.WString.{wstring_bytes, wstring_text}
use Rattle.utf16string.proofs.Removed.{part, some, to_end}
use Rattle.utf16string.proofs.wstring.WString.remove.Given.{Over}
use Rattle.utf16string.proofs.wstring.WString.remove.Goals as goal
use Rattle.utf16string.proofs.wstring.WString.remove.Goals.{After-encoded_utf16_len}

module _ (g : Over) (c : After-encoded_utf16_len g) where
  first : text_from (wstring_text c.args.self.now) c.args.idx ≡ c.unwrap-removed.result ∷ c.next.new.self
  first =
      let steps = subst (λ r. YieldsFirst (λ rest. rest) c.chars.result r c.next.new.self) c.unwrap-removed.ensures c.next.ensures.steps in
      sym (c.chars.ensures.text ∙ c.index.ensures.text ∙ part _ _ _ c.args.self.now.well_formed c.requires.within c.requires.boundary) ∙ steps

  behind : c.args.idx + c.encoded_utf16_len.result ≤ c.args.self.now.raw.len
  behind =
      omega (arith, boundary-within _ _ _ c.args.self.now.well_formed (behind-first _ _ _ _ c.requires.boundary first), c.encoded_utf16_len.ensures, c.args.self.now.raw.ok.0)

  removed : Encodes g.E.Utf16Order.BIG (remove_at (wstring_text c.args.self.now) c.args.idx)
      (remove_range (wstring_bytes c.args.self.now) c.args.idx (c.args.idx + c.encoded_utf16_len.result))
  removed =
      subst (λ n. Encodes g.E.Utf16Order.BIG (remove_at (wstring_text c.args.self.now) c.args.idx) (remove_range (wstring_bytes c.args.self.now) c.args.idx (c.args.idx + n)))
      (sym c.encoded_utf16_len.ensures)
      (Encodes-removed _ _ _ _ c.requires.boundary first _ _ (Encodes-checked _ _ c.args.self.now.well_formed))

pub index-requires : goal.index-requires
index-requires g c = to_end _ _ _ c.args.self.now.well_formed c.requires.within c.requires.boundary

pub unwrap-removed-requires : goal.unwrap-removed-requires
unwrap-removed-requires g c =
    some _ _ _ c.args.self.now.well_formed c.requires.within c.requires.boundary c.next.result c.next.new.self
    (subst (λ text. YieldsFirst (λ rest. rest) text c.next.result c.next.new.self) (c.chars.ensures.text ∙ c.index.ensures.text) c.next.ensures.steps)

pub overflow_add-idx : goal.overflow_add-idx
overflow_add-idx g c = omega (arith, behind g c)

pub remove_bytes-requires-clause-within : goal.remove_bytes-requires-clause-within
remove_bytes-requires-clause-within g c = behind g c

pub invariant_of-self : goal.invariant_of-self
invariant_of-self g c = record {
  well_formed =
      subst (λ bytes. is_utf16 g.E.Utf16Order.BIG bytes ≡ true) (sym c.remove_bytes.ensures.items)
      (checked-Encodes _ _ _ (removed g (goal.at.invariant_of-self g c).After-encoded_utf16_len));
}

pub returns-clause-char : goal.returns-clause-char
returns-clause-char g c =
    char_at-first _ _ _ _ c.requires.boundary (first g (goal.at.returns-clause-char g c).After-encoded_utf16_len)

pub returns-clause-text : goal.returns-clause-text
returns-clause-text g c =
    ap (text_of g.E.Utf16Order.BIG) c.remove_bytes.ensures.items
    ∙ text_of-Encodes _ _ _ (removed g (goal.at.returns-clause-text g c).After-encoded_utf16_len)
