-- The surrogate at the start of bytes, whose first two bytes are like those of one.
use Rattle.std.proofs.Common.{◌≡◌, ℕ, ◌+◌, ◌-◌, ◌*◌, ◌/◌, ◌%◌, ◌<◌, ◌≤◌, Bool, true, false, cond, List, [], ◌∷◌, ◌++◌, None, Some, length, slice_index, take, drop, refl, sym, ap, ap₂, ◌∙◌, subst, arith, take-append-drop, le-leb, le-ltb, lt-ltb, true≢false}
use Rattle.std.specs.Prelude.{nat_lt, ◌&&◌}
use Rattle.std.specs.Int.{is_in_range}
use Rattle.std.specs.Str.Lossy.{utf8_error_len}
use Rattle.utf16_units.specs.Unit.{IsTrailing}
use Rattle.utf16_units.proofs.Utf8Lemmas.{three_bytes}
use Rattle.std.proofs.lemmas.Bool.Decides.{nat_tests}
use Rattle.utf16_wtf8.specs.FromWtf8.{BeginsWithSurrogate, IsIllFormedAfter, surrogate_begins, wtf8_error_len}
use Rattle.utf16_wtf8.specs.Wtf8.{IsCodePoint, generalized_utf8}
use Rattle.utf16_wtf8.proofs.CodeLemmas.{point-unique}
use Rattle.utf16_wtf8.proofs.ContinuedLemmas.{begins-from, begins-lead, begins-to, bytes_of_three, surrogate_only}

-- the surrogate of three bytes
abbrev pub surrogate_of : List ℕ → ℕ
surrogate_of rest = 0xD000 + (slice_index rest 1 - 0x80) * 0x40 + (slice_index rest 2 - 0x80)

pub surrogate_spelled : (x y z : ℕ) → x ≡ 0xED → 0xA0 ≤ y → y ≤ 0xBF → 0x80 ≤ z → z ≤ 0xBF
    → generalized_utf8 (0xD000 + (y - 0x80) * 0x40 + (z - 0x80)) ≡ x ∷ y ∷ z ∷ []
surrogate_spelled x y z lead from to least most = grind (arith, nat_tests, three_bytes)

first_three : (rest : List ℕ) → 3 ≤ length rest → take 3 rest ≡ slice_index rest 0 ∷ slice_index rest 1 ∷ slice_index rest 2 ∷ []
first_three [] long = absurd (omega arith)
first_three (x ∷ []) long = absurd (omega arith)
first_three (x ∷ y ∷ []) long = absurd (omega arith)
first_three (x ∷ y ∷ z ∷ more) long = refl

module _ (rest : List ℕ) (leading : Bool) (begins : surrogate_begins rest ≡ true) where
  abbrev unit : ℕ
  unit = surrogate_of rest

  -- only a surrogate can begin here
  module _ (point : ℕ) (more : List ℕ) (below : IsCodePoint point) (e : rest ≡ generalized_utf8 point ++ more) where
    only : (0xD800 ≤ point) × (point ≤ 0xDFFF)
    only = surrogate_only point more below (ap surrogate_begins (sym e) ∙ begins)

    bytes : rest ≡ (224 + point / 4096) ∷ (128 + point / 64 % 64) ∷ (128 + point % 64) ∷ more
    bytes = let from = only.0 in let to = only.1 in e ∙ bytes_of_three point more (omega arith) (omega arith)

    has_three : 3 ≤ length rest
    has_three = omega (arith, ap length bytes)

    third_least : 0x80 ≤ slice_index rest 2
    third_least = omega (arith, ap (λ b. slice_index b 2) bytes)

    third_most : slice_index rest 2 ≤ 0xBF
    third_most = omega (arith, ap (λ b. slice_index b 2) bytes)

  error_len_here : wtf8_error_len rest
      ≡ cond (nat_lt (length rest) 3) None (cond (is_in_range 0x80 0xBF (slice_index rest 2)) (Some 3) (Some 2))
  error_len_here =
      ap (λ t. cond t (cond (nat_lt (length rest) 3) None (cond (is_in_range 0x80 0xBF (slice_index rest 2)) (Some 3) (Some 2))) (utf8_error_len rest)) begins

  -- two bytes are left
  pub cut_off_surrogate : length rest < 3 → IsIllFormedAfter leading rest None
  cut_off_surrogate short = grind (arith, nat_tests, has_three, error_len_here, lt-ltb)

  module _ (long : 3 ≤ length rest) where
    len_by_third : wtf8_error_len rest ≡ cond (is_in_range 0x80 0xBF (slice_index rest 2)) (Some 3) (Some 2)
    len_by_third = error_len_here ∙ ap (λ t. cond t None (cond (is_in_range 0x80 0xBF (slice_index rest 2)) (Some 3) (Some 2))) (le-ltb (length rest) 3 long)

    -- the third byte is not one of a surrogate
    pub no_third : is_in_range 0x80 0xBF (slice_index rest 2) ≡ false → IsIllFormedAfter leading rest (Some 2)
    no_third bad = (
      (λ point more below e.
          let third = ap₂ (λ a b. a && b) (le-leb 0x80 (slice_index rest 2) (third_least point more below e)) (le-leb (slice_index rest 2) 0xBF (third_most point more below e)) in
          absurd (true≢false (sym third ∙ bad))),
      sym (len_by_third ∙ ap (λ t. cond t (Some 3) (Some 2)) bad),
    )

    module _ (good : is_in_range 0x80 0xBF (slice_index rest 2) ≡ true) where
      least : 0x80 ≤ slice_index rest 2
      least = grind (arith, nat_tests)

      most : slice_index rest 2 ≤ 0xBF
      most = grind (arith, nat_tests)

      spelled : take 3 rest ≡ generalized_utf8 unit
      spelled =
          first_three rest long
          ∙ sym (surrogate_spelled (slice_index rest 0) (slice_index rest 1) (slice_index rest 2) (begins-lead rest begins) (begins-from rest begins) (begins-to rest begins) least most)

      range : (0xD800 ≤ unit) × (unit ≤ 0xDFFF)
      range = grind (arith, nat_tests, begins-from, begins-to, most)

      pub len_of_three : wtf8_error_len rest ≡ Some 3
      len_of_three = len_by_third ∙ ap (λ t. cond t (Some 3) (Some 2)) good

      -- it is a surrogate, and makes no pair
      pub surrogate_here : (leading ≡ true → ¬ (IsTrailing unit)) → BeginsWithSurrogate leading rest unit
      surrogate_here unpaired = record { from = range.0; to = range.1; within = long; spelled = spelled; unpaired = unpaired }

      -- it makes a pair
      pub paired_surrogate : leading ≡ true → IsTrailing unit → IsIllFormedAfter leading rest (Some 3)
      paired_surrogate leads trail = (
        (λ point more below e.
            let same = point-unique unit point (drop 3 rest) more (omega arith) below (ap (λ b. b ++ drop 3 rest) (sym spelled) ∙ take-append-drop 3 rest ∙ e) in
            (leads, subst IsTrailing same.0 trail)),
        sym len_of_three,
      )
