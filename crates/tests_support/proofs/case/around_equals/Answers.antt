use Rattle.std.proofs.Common.{rules, ◌≡◌, suc, [], ◌++◌, ◌∷◌, ◌+◌, slice_index_or, take, drop, sym, ap, ◌∙◌, arith, ℕ, List, Bor}
use Rattle.std.proofs.lemmas.List.{take_rest}
use Rattle.std.proofs.Math.Seq.{split_at}
use Rattle.tests_support.proofs.case.around_equals.Goals as goal

pub returns-then-eq : goal.returns-then-eq
returns-then-eq c =
    let words = c.args.words.now in
    let at = c.loop-at.at in
    let none : Bor (List ℕ) = record { ref_ptr = (0, 0); now = [] } in
    let next : suc at ≡ at + 1 = omega arith in
    let behind = ap (λ k. drop k words) next ∙ sym (take_rest words (at + 1)) in (
      slice_index_or words at none,
      search rules,
      split_at words at none c.loop-at-test.true
          ∙ ap (λ rest. take at words ++ slice_index_or words at none ∷ rest) behind,
    )
