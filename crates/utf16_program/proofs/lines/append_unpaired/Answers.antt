use Rattle.std.proofs.Common.{◌≡◌, ℕ, List, ◌++◌, ◌∙◌, true, ap, append_assoc, codes, refl, subst, sym}
use Rattle.std.proofs.lemmas.Bool.{false≢true}
use Rattle.std.specs.Fmt.{decimal, digits}
use Rattle.utf16_program.specs.Lines.{Appends}
use Rattle.utf16_program.specs.Report.{ill_formed_line}
use Rattle.utf16_program.specs.Scans.{lone}
use Rattle.utf16_program.proofs.ItemLemmas.{lone-leading, lone-trailing}
use Rattle.utf16_program.proofs.lines.append_unpaired.Goals as goal
use Rattle.utf16_program.proofs.lines.append_unpaired.Goals.{then-is_leading_surrogate, else-is_leading_surrogate}

-- a line whose words are `kind`
abbrev line : ℕ → ℕ → List ℕ → List ℕ
line at unit kind = codes "0x" ++ (digits 16 true at ++ (codes " (" ++ (decimal at ++ (kind ++ (digits 16 true unit ++ codes "\n")))))

pub returns : goal.returns
returns g c =
    let at = c.args.offset in
    let unit = c.args.unit in
    let is : line at unit c.if-is_leading_surrogate.kind.now ≡ ill_formed_line at (lone unit) = elim c.if-is_leading_surrogate.branch [
      | then-is_leading_surrogate w ↦ ap (λ k. line at unit k.now) w.kind-is ∙ simp append_assoc refl
          ∙ ap (ill_formed_line at) (sym (lone-leading unit (c.is_leading_surrogate.ensures.0 w.if-is_leading_surrogate.true)))
      | else-is_leading_surrogate w ↦ ap (λ k. line at unit k.now) w.kind-is ∙ simp append_assoc refl
          ∙ ap (ill_formed_line at) (sym (lone-trailing unit (λ l. false≢true (sym w.if-is_leading_surrogate.false ∙ c.is_leading_surrogate.ensures.1 l))))
    ] in
    subst (Appends c.args.lines.now c.append.new.lines c.append.result) is (rw (c.hex.ensures, c.as_bytes.ensures.value, c.format.ensures.text, c.hex-2.ensures) at c.append.ensures)
