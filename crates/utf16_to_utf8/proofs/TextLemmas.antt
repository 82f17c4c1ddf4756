-- A text's bytes block by block, and a last block padded with zeros.
use Rattle.std.proofs.Common.{◌≡◌, ℕ, zero, suc, ◌-◌, ◌/◌, ◌%◌, ◌≤◌, Bool, List, [], ◌∷◌, ◌++◌, length, take, drop, replicate, sym, ap, ap₂, ◌∙◌, arith, append_assoc, encode_utf8_all, length-append, length-take-le, take-append-drop}
use Rattle.std.proofs.lemmas.List.{drop-replicate, length-replicate, take-append-le, take-take, take_all}
use Rattle.utf16_units.specs.Encoding.{IsUtf16, text_of, units_of}
use Rattle.utf16_units.proofs.BlockUnits.{units_of-filled}
use Rattle.utf16_units.proofs.EncodingLemmas.{scalars-text_of}
use Rattle.utf16_units.proofs.UnitsUpTo.{units_of-text}
use Rattle.utf16_to_utf8.specs.Utf8.{unit_utf8, units_utf8}
use Rattle.utf16_to_utf8.proofs.ListLemmas.{units-cons, units-nil}
use Rattle.utf16_to_utf8.proofs.UnitLemmas.{text_utf8, unit-one}

-- no bytes have no units
pub no_units : (big : Bool) {bytes : List ℕ} → bytes ≡ [] → units_of big bytes ≡ []
unfolding units_of
no_units big none = ap (units_of big) none

-- zero units add a zero byte each
pub units-zeros : (before k : ℕ) (units : List ℕ) → units_utf8 before (units ++ replicate k 0) ≡ units_utf8 before units ++ replicate k 0
units-zeros before zero [] = units-nil before ∙ ap (λ bs. bs ++ []) (sym (units-nil before))
units-zeros before (suc k) [] =
    units-cons before 0 (replicate k 0)
    ∙ ap₂ (λ xs ys. xs ++ ys) (unit-one before 0 (omega arith)) (units-zeros 0 k [] ∙ ap (λ bs. bs ++ replicate k 0) (units-nil 0))
    ∙ ap (λ bs. bs ++ replicate (suc k) 0) (sym (units-nil before))
units-zeros before k (u ∷ units) =
    units-cons before u (units ++ replicate k 0) ∙ ap (λ bs. unit_utf8 before u ++ bs) (units-zeros u k units)
    ∙ sym (append_assoc (unit_utf8 before u) (units_utf8 u units) (replicate k 0))
    ∙ ap (λ bs. bs ++ replicate k 0) (sym (units-cons before u units))

-- what was written, less the zeros
pub less-zeros : (new front : List ℕ) (end k : ℕ) → end ≤ length new → take end new ≡ front ++ replicate k 0 → (k ≤ end) × (take (end - k) new ≡ front)
less-zeros new front end k room e =
    let long = sym (length-take-le end new room) ∙ ap length e ∙ length-append front (replicate k 0) in
    let zeros = length-replicate {A = ℕ} k 0 in
    let short : end - k ≡ length front = omega (arith, long, zeros) in (
      omega (arith, long, zeros),
      sym (take-take (end - k) end new (omega arith)) ∙ ap (take (end - k)) e ∙ ap (λ n. take n (front ++ replicate k 0)) short
          ∙ take-append-le (length front) front (replicate k 0) (omega arith) ∙ take_all (length front) front (omega arith),
    )

-- the units of bytes that zeros follow
pub padded-units : (big : Bool) (padded : List ℕ) (len : ℕ) → length padded ≡ 16 → len ≤ 16 → len % 2 ≡ 0 → drop len padded ≡ replicate (16 - len) 0
    → units_of big padded ≡ units_of big (take len padded) ++ replicate (8 - len / 2) 0
padded-units big padded len all few even zeros =
    let raw = take len padded in
    let long : length raw ≡ len = length-take-le len padded (omega (arith, few, all)) in
    let whole : padded ≡ raw ++ drop (length raw) (replicate 16 0) =
    sym (take-append-drop len padded) ∙ ap (λ zs. raw ++ zs) (zeros ∙ ap (λ n. replicate (16 - n) 0) (sym long) ∙ sym (drop-replicate (length raw) 16 0)) in
    ap (units_of big) whole ∙ units_of-filled big 8 raw (omega (arith, long, few)) (omega (arith, long, even)) ∙ ap (λ n. units_of big raw ++ replicate (8 - n / 2) 0) long

-- what a text's units add
pub bytes-utf8 : (big : Bool) (bytes : List ℕ) → IsUtf16 big bytes → units_utf8 0 (units_of big bytes) ≡ encode_utf8_all (text_of big bytes)
bytes-utf8 big bytes t = ap (units_utf8 0) (units_of-text big bytes t) ∙ text_utf8 0 (text_of big bytes) (scalars-text_of big bytes t)
