-- The last units of a text, padded with zeros.
use Rattle.std.proofs.Common.{◌≡◌, ℕ, zero, suc, ◌+◌, ◌-◌, ◌/◌, ◌%◌, ◌<◌, Bool, false, List, ◌∷◌, ◌++◌, length, take, drop, slice_index, replicate, refl, sym, ap, ◌∙◌, subst, arith, Fits, w8, length-drop, take_all}
use Rattle.utf16_units.specs.Encoding.{IsUtf16, units_of}
use Rattle.utf16_units.specs.Lanes.{Paired, PairedTo}
use Rattle.utf16_units.proofs.PairLemmas.{Paired-append, PairedTo-next, PairedTo-text}
use Rattle.utf16_to_utf8.proofs.TextLemmas.{padded-units}
use Rattle.utf16_to_utf8.proofs.TextPairs.{rest-paired, zeros-behind}

zeros-paired : (k : ℕ) → Paired false (replicate k 0) false
zeros-paired zero = refl
zeros-paired (suc k) = ap (λ bits. false ∷ bits) (zeros-paired k)

module _ (big : Bool) (raw padded : List ℕ) (at : ℕ) (before : Bool) (done : PairedTo big raw at before) (all : length padded ≡ 16) (few : length raw - at < 16)
    (even : (length raw - at) % 2 ≡ 0) (front : take (length raw - at) padded ≡ drop at raw) (zeros : drop (length raw - at) padded ≡ replicate (16 - (length raw - at)) 0) where
  abbrev len : ℕ
  len = length raw - at

  units : units_of big padded ≡ units_of big (drop at raw) ++ replicate (suc (7 - len / 2)) 0
  units =
      let some : 8 - len / 2 ≡ suc (7 - len / 2) = omega (arith, few, even) in
      padded-units big padded len all (omega (arith, few)) even zeros ∙ ap (λ bs. units_of big bs ++ replicate (8 - len / 2) 0) front
      ∙ ap (λ n. units_of big (drop at raw) ++ replicate n 0) some

  -- if the units up to them are paired, and they are with the zeros, all are a text
  pub last-text : (after : Bool) → ((k : ℕ) → Fits w8 (slice_index raw k)) → Paired before (units_of big padded) after → IsUtf16 big raw
  last-text after fit p =
      let within = done.within in
      let whole : at + len ≡ length raw = omega (arith, within) in
      let last : Paired before (units_of big (drop at raw)) false =
      zeros-behind before after (units_of big (drop at raw)) (7 - len / 2) (subst (λ us. Paired before us after) units p) in
      let same : drop at raw ≡ take len (drop at raw) = sym (take_all len (drop at raw) (omega (arith, length-drop at raw))) in
      subst (IsUtf16 big) (take_all (at + len) raw (omega (arith, whole)))
      (PairedTo-text big raw (at + len) fit false refl (PairedTo-next big raw at len before false done even (omega (arith, whole)) (subst (λ bs. Paired before (units_of big bs) false) same last)))

  -- in a text they are paired with the zeros
  pub last-paired : IsUtf16 big raw → Paired before (units_of big padded) false
  last-paired t =
      subst (λ us. Paired before us false) (sym units)
      (Paired-append before false false (units_of big (drop at raw)) (replicate (suc (7 - len / 2)) 0) (rest-paired big raw at before t done) (zeros-paired (suc (7 - len / 2))))
