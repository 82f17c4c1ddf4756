use Rattle.std.proofs.Common.{◌≤◌, arith, length-take, length-take-le, rules, subst, take-take, ap, length, length-drop}
use Rattle.std.proofs.lemmas.List.{take_rest}
use Rattle.utf16_units.proofs.IllFormedLemmas.{rest_from}
use Rattle.std.specs.Str.{IsUtf8}
use Rattle.utf16_transcode.proofs.FromUtf8Lemmas.{longest_by_part, longest_more, valid_more}
use Rattle.utf16_transcode.proofs.encode.valid_len.Goals as goal

pub slice_bounds-valid_prefix-length : goal.slice_bounds-valid_prefix-length
slice_bounds-valid_prefix-length c = omega (arith, length-take-le 63 c.args.text.now (omega (arith, c.if-text-lt-BLOCK_LEN.false)))

pub overflow_add-len : goal.overflow_add-len
overflow_add-len c = search (arith, length-take 63 c.args.text.now, c.valid_prefix-len.ensures.within)

pub returns-then-len-lt-BLOCK_LEN-clause-well_formed : goal.returns-then-len-lt-BLOCK_LEN-clause-well_formed
returns-then-len-lt-BLOCK_LEN-clause-well_formed c =
    let front = c.valid_prefix-len in
    subst IsUtf8 (take-take front.result 63 c.args.text.now (omega (arith, front.ensures.within, length-take 63 c.args.text.now))) front.ensures.well_formed

pub returns-then-len-lt-BLOCK_LEN-clause-longest : goal.returns-then-len-lt-BLOCK_LEN-clause-longest
returns-then-len-lt-BLOCK_LEN-clause-longest c = λ n most text.
    longest_by_part c.args.text.now c.valid_prefix-len.result n (returns-then-len-lt-BLOCK_LEN-clause-well_formed c) most text 63 c.valid_prefix-len.ensures.longest
    (omega (arith, c.if-len-lt-BLOCK_LEN.true)) (omega (arith, c.if-text-lt-BLOCK_LEN.false))

pub slice_bounds-valid_prefix-count-2 : goal.slice_bounds-valid_prefix-count-2
slice_bounds-valid_prefix-count-2 c = omega (arith, c.valid_prefix-len.ensures.within, length-take 63 c.args.text.now)

pub slice_bounds-valid_prefix-start : goal.slice_bounds-valid_prefix-start
slice_bounds-valid_prefix-start c = search (rules, slice_bounds-valid_prefix-count-2 c)

pub returns-clause-within : goal.returns-clause-within
returns-clause-within c =
    let rest = rest_from c.args.text.now c.valid_prefix-len.result in
    omega (
      arith,
      c.valid_prefix-len.ensures.within,
      length-take 63 c.args.text.now,
      c.valid_prefix-2.ensures.within,
      ap length (take_rest c.args.text.now c.valid_prefix-len.result),
      length-drop c.valid_prefix-len.result c.args.text.now,
    )

pub returns-clause-well_formed : goal.returns-clause-well_formed
returns-clause-well_formed c =
    let front = c.valid_prefix-len in
    valid_more c.args.text.now front.result c.valid_prefix-2.result
    (subst IsUtf8 (take-take front.result 63 c.args.text.now (omega (arith, front.ensures.within, length-take 63 c.args.text.now))) front.ensures.well_formed)
    c.valid_prefix-2.ensures.well_formed

pub returns-clause-longest : goal.returns-clause-longest
returns-clause-longest c = λ n most text.
    let front = c.valid_prefix-len in
    longest_more c.args.text.now front.result n
    (subst IsUtf8 (take-take front.result 63 c.args.text.now (omega (arith, front.ensures.within, length-take 63 c.args.text.now))) front.ensures.well_formed)
    most text c.valid_prefix-2.result c.valid_prefix-2.ensures.longest
