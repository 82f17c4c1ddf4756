-- What contracts can say about a `Checker`: what it reports for the bytes that come next.
use Rattle.std.specs.Prelude.{◌≡◌, ℕ, ◌+◌, ◌≤◌, Bool, List, ◌++◌, Option, drop, length}
use Rattle.utf16_program.specs.Report.{ill_formed_from, lines_from, report_from, tail_in}
use Rattle.utf16_program.specs.declared.checker.Checker.{Checker}

-- the number of bytes before those that are pending
abbrev pub checker_offset : Checker → ℕ
checker_offset checker = checker.offset

-- the lines that are certain once these bytes, the pending ones included, have come
abbrev pub checker_lines : Checker → List ℕ → List ℕ
checker_lines checker = lines_from checker.big_endian checker.offset

-- all lines that are left, if the input ends with these bytes
abbrev pub checker_report : Checker → List ℕ → List ℕ
checker_report checker = report_from checker.big_endian checker.offset checker.chars checker.unpaired

-- the number of ill-formed sequences of the input, if it ends with these bytes
abbrev pub checker_ill_formed : Checker → List ℕ → ℕ
checker_ill_formed checker = ill_formed_from checker.big_endian checker.unpaired

-- bytes that more bytes must decide
abbrev pub IsPending : Checker → List ℕ → Type 0
IsPending checker bytes = tail_in checker.big_endian bytes ≡ bytes

-- a checker of a whole input in this byte order
pub record StartsIn (order : Option Bool) (checker : Checker) : Type 0 where
  pub byte_order : checker.big_endian ≡ order
  pub offset : checker.offset ≡ 0
  pub chars : checker.chars ≡ 0
  pub unpaired : checker.unpaired ≡ 0

-- once the bytes have come, the lines that are certain for them are reported, and `kept` is pending
-- and decides what more bytes add
pub record Follows (old new : Checker) (bytes kept : List ℕ) : Type 0 where
  pub lines : (back : List ℕ) → checker_lines old (bytes ++ back) ≡ checker_lines old bytes ++ checker_lines new (kept ++ back)
  pub report : (back : List ℕ) → checker_report old (bytes ++ back) ≡ checker_lines old bytes ++ checker_report new (kept ++ back)
  pub ill_formed : (back : List ℕ) → checker_ill_formed old (bytes ++ back) ≡ checker_ill_formed new (kept ++ back)

-- the first `taken` of the bytes were checked, and the others are pending
pub record Takes (old new : Checker) (bytes : List ℕ) (taken : ℕ) : Type 0 where
  pub within : taken ≤ length bytes
  pub few : length bytes ≤ taken + 3
  pub offset : checker_offset new ≡ checker_offset old + taken
  pub follows : Follows old new bytes (drop taken bytes)
  pub pending : IsPending new (drop taken bytes)
