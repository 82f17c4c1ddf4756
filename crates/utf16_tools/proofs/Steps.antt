-- The steps of edits whose result depends on the text: `Pop` and `Truncate`.
use Rattle.std.proofs.Common.{◌≡◌, ◌≢◌, ℕ, ◌<◌, ◌≤◌, List, [], ◌∷◌, Option, Some, None, IsSome, IfSome, ◌↔◌, inl, inr, refl, sym, ap, ◌∙◌, subst, append-nil, ⊎_elim, cond}
use Rattle.std.specs.Option.{option_to_list}
use Rattle.std.proofs.lemmas.Bool.{cases_lt, lt-ltb, le-ltb}
use Rattle.utf16_units.specs.declared.byte_order.Utf16Order.{Ghosts}
use Rattle.utf16string.specs.Boundary.{text_to}
use Rattle.utf16string.specs.Edit.{push_text}
use Rattle.utf16string.specs.Encoding.{size}
use Rattle.utf16_tools.specs.Step.{IsPossible, Step}
use Rattle.utf16_tools.specs.declared.edit.Edit.{Edit}
use Rattle.utf16_tools.specs.declared.edit.Edit.TheVariants.{Pop, Truncate}
use Rattle.utf16_tools.specs.declared.edit.Reply.{Reply}
use Rattle.utf16_tools.specs.declared.edit.Reply.TheVariants.{Char, Done, Nothing}

module _ {E Z : Type 0} {order : Ghosts E} where
  popped : (old new : List ℕ) (last : Option ℕ) (reply : Reply E Z order) → (IsSome last ↔ (old ≢ [])) → push_text new (option_to_list last) ≡ old
      → IfSome last (λ c. reply ≡ Char c) → (last ≡ None → reply ≡ Nothing) → Step old Pop reply new
  popped old new (Some c) reply is split some none = inl (tt, inr (c, sym split, some))
  popped [] new None reply is split some none = inl (tt, inl (refl, none refl, sym (append-nil new) ∙ split))
  popped (c ∷ old) new None reply is split some none = let one = is.1 (λ e. absurd cc) in absurd cc

  pub Step-popped : (old new : List ℕ) (edit : Edit E Z order) (last : Option ℕ) (reply : Reply E Z order) → edit ≡ Pop → (IsSome last ↔ (old ≢ []))
      → push_text new (option_to_list last) ≡ old → IfSome last (λ c. reply ≡ Char c) → (last ≡ None → reply ≡ Nothing) → Step old edit reply new
  Step-popped old new edit last reply e is split some none = subst (λ edit. Step old edit reply new) (sym e) (popped old new last reply is split some none)

  pub Step-cut : (old new : List ℕ) (edit : Edit E Z order) (n : ℕ) → edit ≡ Truncate n → IsPossible old edit → (n < size old → new ≡ text_to old n)
      → (size old ≤ n → new ≡ old) → Step old edit Done new
  Step-cut old new edit n e possible cut past =
      let left = ⊎_elim
      (λ (lt : n < size old). cut lt ∙ ap (λ b. cond b (text_to old n) old) (sym (lt-ltb n (size old) lt)))
      (λ (le : size old ≤ n). past le ∙ ap (λ b. cond b (text_to old n) old) (sym (le-ltb n (size old) le)))
      (cases_lt n (size old))
      in
      subst (λ edit. Step old edit Done new) (sym e) (inl (subst (IsPossible old) e possible, (refl, left)))
