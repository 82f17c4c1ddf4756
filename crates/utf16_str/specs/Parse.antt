-- What `parse` returns, and what `Display` writes for its errors.
use Rattle.std.specs.Prelude.{ℕ, ◌<◌, ◌≤◌, List, Option, Some, Result, Ok, Err, codes, length}
use Rattle.utf16_str.specs.declared.parse.ParseError.{ParseError}
use Rattle.utf16_str.specs.declared.parse.ParseError.TheVariants.{Long, Value}

-- a text of at most 256 bytes in UTF-8 is parsed by `from_str`, and a longer one is refused.
-- `gives` says what `from_str` may return for bytes
abbrev pub ParsesTo : {T X : Type 0} → (List ℕ → Result T X → Type 0) → List ℕ → Result T (ParseError X) → Type 0
ParsesTo gives utf8 (Ok value) = (length utf8 ≤ 256) × gives utf8 (Ok value)
ParsesTo gives utf8 (Err Long) = 256 < length utf8
ParsesTo gives utf8 (Err (Value error)) = (length utf8 ≤ 256) × gives utf8 (Err error)

-- `output` says what `Display` writes for the error of `from_str`
abbrev pub parse_error_text : {X : Type 0} → (X → Option (List ℕ)) → ParseError X → Option (List ℕ)
parse_error_text output Long = Some (codes "text longer than 256 bytes in UTF-8")
parse_error_text output (Value error) = output error
