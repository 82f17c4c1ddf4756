-- The last units of a text, which are paired if they are with zeros after them.
use Rattle.std.proofs.Common.{◌≡◌, ℕ, suc, ◌+◌, ◌-◌, ◌%◌, ◌<◌, Bool, false, List, [], ◌∷◌, ◌++◌, length, replicate, take, drop, slice_index, Fits, w8, refl, ap, sym, subst, arith, take_all}
use Rattle.std.proofs.lemmas.List.{take_rest}
use Rattle.std.specs.Char.Utf16.{is_high_surrogate}
use Rattle.utf16_units.specs.Encoding.{IsUtf16, units_of}
use Rattle.utf16_units.specs.Lanes.{Paired, PairedTo}
use Rattle.utf16_units.proofs.PairLemmas.{PairedTo-next, PairedTo-text}

Paired-zeros : (before after : Bool) (units : List ℕ) (n : ℕ) → Paired before (units ++ replicate (suc n) 0) after → Paired before units false
Paired-zeros before after [] n p = let here : false ≡ before = cc in ap (λ b. b ∷ []) here
Paired-zeros before after (unit ∷ units) n p = grind (arith, Paired-zeros (is_high_surrogate unit) after units n)

pub text_from-last : (big : Bool) (raw : List ℕ) (at n : ℕ) (leading after : Bool) → ((k : ℕ) → Fits w8 (slice_index raw k)) → PairedTo big raw at leading
    → length raw % 2 ≡ 0 → 0 < n → Paired leading (units_of big (drop at raw) ++ replicate n 0) after → IsUtf16 big raw
text_from-last big raw at n leading after fits before even some paired =
    let was = before.even in
    let within = before.within in
    let all : take (length raw - at) (drop at raw) ≡ drop at raw = take_rest raw at in
    let on : at + (length raw - at) ≡ length raw = omega (arith, within) in
    let one : n ≡ suc (n - 1) = omega (arith, some) in
    let last = Paired-zeros leading after (units_of big (drop at raw)) (n - 1) (subst (λ k. Paired leading (units_of big (drop at raw) ++ replicate k 0) after) one paired) in
    let whole = PairedTo-next big raw at (length raw - at) leading false before (omega (arith, was, even)) (omega (arith, within)) (subst (λ bytes. Paired leading (units_of big bytes) false) (sym all) last) in
    subst (IsUtf16 big) (take_all (length raw) raw (omega arith)) (PairedTo-text big raw (length raw) fits false refl (subst (λ k. PairedTo big raw k false) on whole))
