use Rattle.std.proofs.Common.{[], ◌∷◌, arith, Bool, eqb, List, ℕ, sym}
use Rattle.utf16_str.specs.WStr.{wstr_bytes, wstr_text}
use Rattle.std.proofs.lemmas.List.Splits.{join_with_byte-slice_split, length-slice_split}
use Rattle.std.proofs.lemmas.List.Sums.{count_by-le-length}
use Rattle.std.specs.List.{slice_split}
use Rattle.std.specs.Str.Lines.{lines}
use Rattle.utf16_units.specs.Encoding.{size}
use Rattle.utf16_str.specs.Matches.{line_offsets}
use Rattle.utf16_str.proofs.LineLemmas.{length-lines_of_parts}
use Rattle.utf16_str.proofs.SplitLemmas.{few-parts, text_runs, text_runs_back}
use Rattle.utf16_str.proofs.PartWindows.{yields_parts, yields_parts_back}
use Rattle.utf16_str.proofs.WithinLemmas.{Placed, placed-lines, placed-parts}
use Rattle.utf16_str.proofs.wstr.WStr.lines.Goals as goal

placed : (text : List ℕ) → Placed text (line_offsets text) (lines text)
unfolding size
placed text =
    let parts = slice_split (λ b. eqb b 10) text in
    placed-lines text 2 0 parts (placed-parts (10 ∷ []) text parts (sym (join_with_byte-slice_split 10 text)))

pub returns-clause-bound : goal.returns-clause-bound
returns-clause-bound g c =
    let newline : ℕ → Bool = λ b. eqb b 10 in
    let text = wstr_text c.args.self in
    few-parts g.E.Utf16Order.BIG (wstr_bytes c.args.self) _ c.args.self.well_formed (omega arith)
    (omega (arith, length-lines_of_parts (slice_split newline text), length-slice_split newline text, count_by-le-length newline text))

pub returns-clause-runs : goal.returns-clause-runs
returns-clause-runs g c = text_runs wstr_text

pub returns-clause-runs_back : goal.returns-clause-runs_back
returns-clause-runs_back g c = text_runs_back wstr_text

pub returns-clause-within : goal.returns-clause-within
returns-clause-within g c = yields_parts c.args.self _ _ (placed (wstr_text c.args.self))

pub returns-clause-within_back : goal.returns-clause-within_back
returns-clause-within_back g c = yields_parts_back c.args.self _ _ (placed (wstr_text c.args.self))
