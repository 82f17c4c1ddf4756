use Rattle.std.proofs.Common.{◌+◌, ◌<◌, ◌++◌, ap, append-nil, arith, drop, length, refl, subst, sym, vec_capacity, vec_len, ◌∙◌}
use Rattle.std.proofs.lemmas.List.{take_rest}
use Rattle.utf16_units.specs.Split.{split_items}
use Rattle.utf16_program.specs.Checker.{checker_lines}
use Rattle.utf16_program.specs.Report.{ill_formed_lines}
use Rattle.utf16_program.specs.Scans.{Scans}
use Rattle.utf16_program.proofs.FollowLemmas.{Takes-few, bytes_lines, fed_lines, fed_takes, few_lines}
use Rattle.utf16_program.proofs.ScanLemmas.{OnErr-always}
use Rattle.utf16_program.proofs.checker.Checker.feed.Given.{Over}
use Rattle.utf16_program.proofs.checker.Checker.feed.Goals as goal
use Rattle.utf16_program.proofs.checker.Checker.feed.Goals.{In_err-found, In_ok-found}

pub returns-in_default-clause-lines : goal.returns-in_default-clause-lines
returns-in_default-clause-lines g c =
    let it = c.args.self.now in
    let undecided = c.in_default.ensures.undecided in
    sym (append-nil c.args.lines.now.items)
    ∙ ap (λ l. c.args.lines.now.items ++ l) (sym (few_lines it.big_endian it.offset c.args.bytes.now undecided.0 undecided.1))

pub returns-in_default-clause-takes : goal.returns-in_default-clause-takes
returns-in_default-clause-takes g c =
    let undecided = c.in_default.ensures.undecided in
    Takes-few c.args.self.now c.args.bytes.now undecided.0 undecided.1

-- the lines of the text are those of the bytes
lines_fit : (g : Over) (c : In_err-found g) → vec_capacity c.args.lines.now < vec_len c.args.lines.now + length (checker_lines c.args.self.now c.args.bytes.now)
lines_fit g c =
    let it = c.args.self.now in
    let begins = c.in-Some.ensures in
    let from = c.in-Some.begins.bom_len in
    let text = ap (λ t. length (ill_formed_lines c.in-Some.begins.big_endian (it.offset + from) (split_items c.in-Some.begins.big_endian t))) (take_rest c.args.bytes.now from) in
    let same = ap length (bytes_lines it.big_endian c.in-Some.begins.big_endian from c.args.bytes.now begins.within begins.order begins.text it.offset) in
    omega (arith, c.in_err-found.ensures.full, text, same)

pub returns-in_err-found-clause-full : goal.returns-in_err-found-clause-full
returns-in_err-found-clause-full g c = OnErr-always _ (lines_fit g (goal.at.returns-in_err-found-clause-full g c).In_err-found)

pub returns-in_err-found-clause-nothing : goal.returns-in_err-found-clause-nothing
returns-in_err-found-clause-nothing g c =
    let some : 0 < length (checker_lines c.args.self.now c.args.bytes.now) = omega (arith, lines_fit g (goal.at.returns-in_err-found-clause-nothing g c).In_err-found, c.args.lines.now.ok) in
    OnErr-always _ some

-- the scan of the text
scans : (g : Over) (c : In_ok-found g)
    → Scans c.in-Some.begins.big_endian (c.args.self.now.offset + c.in-Some.begins.bom_len) (drop c.in-Some.begins.bom_len c.args.bytes.now) c.args.lines.now.items
    c.scan.new.lines.items c.in_ok-found.found
scans g c = subst (λ t. Scans c.in-Some.begins.big_endian (c.args.self.now.offset + c.in-Some.begins.bom_len) t c.args.lines.now.items c.scan.new.lines.items c.in_ok-found.found)
    (take_rest c.args.bytes.now c.in-Some.begins.bom_len) c.in_ok-found.ensures.found

pub returns-clause-lines : goal.returns-clause-lines
returns-clause-lines g c =
    let b = c.in-Some.ensures in
    fed_lines _ _ _ _ b.within b.order b.text _ _ _ _ (scans g (goal.at.returns-clause-lines g c).In_ok-found)

pub returns-clause-takes : goal.returns-clause-takes
returns-clause-takes g c =
    let b = c.in-Some.ensures in
    fed_takes _ _ _ _ b.within b.order b.text _ _ _ _ (scans g (goal.at.returns-clause-takes g c).In_ok-found) c.args.self.now _ refl refl refl refl refl refl
