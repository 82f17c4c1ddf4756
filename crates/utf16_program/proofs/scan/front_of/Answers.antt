use Rattle.std.proofs.Common.{◌≡◌, ◌∙◌, ap, arith, drop, length, refl, subst, sym, take}
use Rattle.std.specs.Prelude.{MatchOption}
use Rattle.utf16_units.specs.Encoding.{text_of}
use Rattle.utf16_units.specs.IllFormed.{IsIllFormed}
use Rattle.utf16_units.specs.Split.{split_tail}
use Rattle.utf16_units.proofs.FirstChar.{first_unit}
use Rattle.utf16_units.proofs.RecipeLemmas.{two}
use Rattle.utf16_program.specs.Scans.{BeginsLone}
use Rattle.utf16_program.proofs.ScanLemmas.{IsFront-before, IsFront-valid, begins_lone, is_tail}
use Rattle.utf16_program.proofs.scan.front_of.Goals as goal
use Rattle.utf16_program.proofs.scan.front_of.Goals.{in-Some, in-None}

pub returns-in_default : goal.returns-in_default
returns-in_default g c = IsFront-valid g.E.Utf16Order.BIG c.args.bytes.now (c.in_default.ensures.ok.0 refl) _ refl c.count_chars.ensures refl

pub returns : goal.returns
returns g c =
    let big = g.E.Utf16Order.BIG in
    let bytes = c.args.bytes.now in
    let n = c.in-Err.error.valid_up_to in
    let error = c.in-Err.ensures.error in
    let begins : c.split_at.result.0.now ≡ take n bytes = c.split_at.ensures.front ∙ ap (λ k. take k bytes) c.valid_up_to.ensures in
    let ends : c.split_at.result.1.now ≡ drop n bytes = c.split_at.ensures.back ∙ ap (λ k. drop k bytes) c.valid_up_to.ensures in
    let after : MatchOption c.match-error_len.unpaired (split_tail big (drop n bytes) ≡ drop n bytes) (BeginsLone big (drop n bytes)) =
    elim c.match-error_len.branch [
      | in-Some w ↦
          let lone = begins_lone big bytes n error.front (λ k. omega (arith, c.type_inv.bytes k)) (two (subst (IsIllFormed big bytes) (sym c.error_len.ensures ∙ w.in-Some.is) error.fault)) in
          subst (λ u. MatchOption u (split_tail big (drop n bytes) ≡ drop n bytes) (BeginsLone big (drop n bytes))) (sym w.unpaired-is)
          (subst (BeginsLone big (drop n bytes)) (sym (w.read_unit.ensures ∙ ap (first_unit big) ends)) lone)
      | in-None w ↦
          let tail = is_tail big bytes n error.front (subst (IsIllFormed big bytes) (sym c.error_len.ensures ∙ w.in-None.is) error.fault) in
          subst (λ u. MatchOption u (split_tail big (drop n bytes) ≡ drop n bytes) (BeginsLone big (drop n bytes))) (sym w.unpaired-is) tail
    ] in
    IsFront-before big bytes n error.front _ (c.split_at.ensures.front_len ∙ c.valid_up_to.ensures)
    (c.count_chars-2.ensures ∙ ap (λ b. length (text_of big b)) begins) after
