-- Text that is appended to bytes, one part after another.
use Rattle.std.proofs.Common.{◌≡◌, ℕ, zero, suc, ◌+◌, ◌-◌, ◌/◌, ◌%◌, ◌^◌, ◌<◌, ◌≤◌, true, cond, List, ◌∷◌, ◌++◌, Result, Ok, Err, length, take, drop, set, refl, ap, ap₂, ◌∙◌, arith, append_assoc, eq-eqb, length-append, sym, take_at, true≢false, vec_capacity, vec_len}
use Rattle.std.proofs.lemmas.Bool.{ne_eqb}
use Rattle.std.proofs.lemmas.Grind.{drop-set_at}
use Rattle.std.proofs.lemmas.List.{take-take}
use Rattle.std.proofs.lemmas.Result.{on_err_weaker, on_ok_weaker}
use Rattle.std.specs.Fmt.{digit_glyph, digits_onto}
use Rattle.std.specs.Prelude.{IsErr, Vec}
use Rattle.utf16_program.specs.Lines.{Appends}

-- bytes that stay in front of more stay in front of that
pub still_kept : (old mid new front : List ℕ) → mid ≡ old ++ front → take (length mid) new ≡ mid → take (length old) new ≡ old
still_kept old mid new front so_far kept =
    sym (take-take (length old) (length mid) new (omega (arith, ap length so_far, length-append old front)))
    ∙ ap (take (length old)) (kept ∙ so_far) ∙ take_at old front (length old) refl

-- `front` was appended, and then `text`
pub Appends-then : {A E : Type 0} (old mid new : Vec ℕ A) (front text : List ℕ) (result : Result (Unit {0}) E) → mid.items ≡ old.items ++ front → vec_capacity old ≤ vec_capacity mid
    → Appends mid new result text → Appends old new result (front ++ text)
Appends-then old mid new front text result so_far grows put = record {
  appended = on_ok_weaker result (λ wrote. wrote ∙ ap (λ b. b ++ text) so_far ∙ append_assoc old.items front text) put.appended;
  kept = still_kept old.items mid.items new.items front so_far put.kept;
  full = on_err_weaker result
      (λ full. omega (arith, grows, full, ap length so_far, length-append old.items front, length-append front text, old.ok.0, mid.ok.0)) put.full;
  grows = omega (arith, grows, put.grows);
}

-- the capacity did not suffice for the text, of which `front` was appended
pub Appends-err : {A E : Type 0} (old new : Vec ℕ A) (front text : List ℕ) (result : Result (Unit {0}) E) → IsErr result → new.items ≡ old.items ++ front → vec_capacity old ≤ vec_capacity new
    → vec_capacity old < vec_len old + length text → Appends old new result text
Appends-err old new front text (Ok done) is so_far grows full = absurd (true≢false (sym is))
Appends-err old new front text (Err error) is so_far grows full =
    record { appended = tt; kept = ap (take (length old.items)) so_far ∙ take_at old.items front (length old.items) refl; full = full; grows = grows }

-- ---- digits in base 16

-- the digits of a number below 16, and of a greater one
pub digits_last : (k n : ℕ) (after : List ℕ) → 0 < k → n / 16 ≡ 0 → digits_onto k 16 true n after ≡ digit_glyph true (n % 16) ∷ after
digits_last zero n after some none = absurd (omega arith)
digits_last (suc k) n after some none = ap (λ t. cond t (digit_glyph true (n % 16) ∷ after) (digits_onto k 16 true (n / 16) (digit_glyph true (n % 16) ∷ after))) (eq-eqb (n / 16) 0 none)

pub digits_step : (k n : ℕ) (after : List ℕ) → (n / 16 ≡ 0 → ⊥) → digits_onto (suc k) 16 true n after ≡ digits_onto k 16 true (n / 16) (digit_glyph true (n % 16) ∷ after)
digits_step k n after more = ap (λ t. cond t (digit_glyph true (n % 16) ∷ after) (digits_onto k 16 true (n / 16) (digit_glyph true (n % 16) ∷ after))) (ne_eqb (n / 16) 0 more)

-- a digit that is written before others
pub digit_before : (buffer : List ℕ) (at digit glyph : ℕ) → 0 < at → at ≤ length buffer → digit ≡ glyph → drop (at - 1) (set buffer (at - 1) digit) ≡ glyph ∷ drop at buffer
digit_before buffer at digit glyph some within is =
    let next : at - 1 + 1 ≡ at = omega (arith, some) in
    drop-set_at buffer (at - 1) (at - 1) digit refl (omega (arith, some, within)) ∙ ap₂ (λ d n. d ∷ drop n buffer) is next

-- a number with a digit more before its last
pub fewer : (k n : ℕ) → n < 16 ^ k → (n / 16 ≡ 0 → ⊥) → (2 ≤ k) × (n / 16 < 16 ^ (k - 1))
fewer (suc (suc k)) n within more =
    let left : suc (suc k) - 1 ≡ suc k = omega arith in
    (omega arith, rw left (omega arith))
fewer k n within more = absurd (more (omega arith))
