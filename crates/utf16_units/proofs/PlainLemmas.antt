-- Bytes whose units are not surrogates are a text.
use Rattle.std.proofs.Common.{◌≡◌, ℕ, ◌-◌, ◌+◌, ◌*◌, ◌%◌, ◌≤◌, ◌↔◌, Bool, false, List, [], ◌∷◌, ◌++◌, length, map, take, drop, slice_index, refl, sym, ap, ap₂, ◌∙◌, subst, arith, take_all, Fits, w8, length-drop, length-take-le}
use Rattle.std.proofs.lemmas.List.{get_or-take, take-take}
use Rattle.std.proofs.lemmas.List.Elements.{All-append, All-cons, All-head, All-nil, All-tail}
use Rattle.std.proofs.lemmas.Simd.{chunk-fits}
use lib.Lanes.{Each1}
use Rattle.std.specs.Char.Utf16.{is_high_surrogate, is_low_surrogate}
use Rattle.utf16_units.specs.Encoding.{IsUtf16, units_of}
use Rattle.utf16_units.specs.Lanes.{HasNoSurrogate, IsNoSurrogate, Paired, PairedTo}
use Rattle.utf16_units.specs.Unit.{unit_of}
use Rattle.utf16_units.proofs.PairLemmas.{PairedTo-next, paired-text}
use Rattle.utf16_units.proofs.UnitsUpTo.{units_of-at, units_of-front, units_of-split}

pub no_surrogate-paired : (units : List ℕ) → HasNoSurrogate units → Paired false units false
no_surrogate-paired [] all = refl
no_surrogate-paired (unit ∷ units) all =
    let here = All-head IsNoSurrogate unit units all in
    ap (λ bit. bit ∷ map is_low_surrogate units ++ false ∷ []) here.1
    ∙ ap (λ bits. false ∷ bits) (no_surrogate-paired units (All-tail IsNoSurrogate unit units all))
    ∙ ap (λ bit. false ∷ bit ∷ map is_high_surrogate units) (sym here.0)

-- one more block without a surrogate
pub PairedTo-plain : (big : Bool) (bytes : List ℕ) (at : ℕ) → PairedTo big bytes at false → at + 64 ≤ length bytes
    → HasNoSurrogate (units_of big (take 64 (drop at bytes))) → PairedTo big bytes (at + 64) false
PairedTo-plain big bytes at before long plain = PairedTo-next big bytes at 64 false false before refl long (no_surrogate-paired _ plain)

no_surrogate-front : (front back : List ℕ) → HasNoSurrogate (front ++ back) → HasNoSurrogate front
no_surrogate-front [] back all = All-nil IsNoSurrogate
no_surrogate-front (unit ∷ front) back all =
    All-cons IsNoSurrogate unit front (All-head IsNoSurrogate unit (front ++ back) all) (no_surrogate-front front back (All-tail IsNoSurrogate unit (front ++ back) all))

no_surrogate-behind : (front back : List ℕ) → HasNoSurrogate (front ++ back) → HasNoSurrogate back
no_surrogate-behind [] back all = all
no_surrogate-behind (unit ∷ front) back all = no_surrogate-behind front back (All-tail IsNoSurrogate unit (front ++ back) all)

-- all units
pub IsUtf16-plain : (big : Bool) (bytes : List ℕ) → ((k : ℕ) → Fits w8 (slice_index bytes k)) → length bytes % 2 ≡ 0 → HasNoSurrogate (units_of big bytes) → IsUtf16 big bytes
IsUtf16-plain big bytes fits even all =
    let fit = subst (Each1 (Fits w8)) (take_all (length bytes) bytes (omega arith)) (chunk-fits w8 0 (length bytes) bytes fits) in
    paired-text big bytes fit even (no_surrogate-paired (units_of big bytes) all)

-- the first units of a block
module _ (big : Bool) (bytes : List ℕ) (n : ℕ) (within : n ≤ length bytes) where
  block_len : length (take n bytes) ≡ n
  block_len = length-take-le n bytes within

  pub no_surrogate-plain_front : (many : ℕ) → 2 * many ≤ n → HasNoSurrogate (take many (units_of big (take n bytes))) → HasNoSurrogate (units_of big (take (2 * many) bytes))
  no_surrogate-plain_front many few all =
      subst HasNoSurrogate (units_of-front big (take n bytes) many (omega (arith, block_len)) ∙ ap (units_of big) (take-take (2 * many) n bytes few)) all

  pub IsUtf16-plain_front : (many : ℕ) → 2 * many ≤ n → ((k : ℕ) → Fits w8 (slice_index bytes k)) → HasNoSurrogate (take many (units_of big (take n bytes)))
      → IsUtf16 big (take (2 * many) bytes)
  IsUtf16-plain_front many few fits all =
      let even : length (take (2 * many) bytes) % 2 ≡ 0 = omega (arith, length-take-le (2 * many) bytes (omega arith)) in
      paired-text big _ (chunk-fits w8 0 (2 * many) bytes fits) even (no_surrogate-paired _ (no_surrogate-plain_front many few all))

  pub unit-in_front : (i : ℕ) → 2 * i + 2 ≤ n → slice_index (units_of big (take n bytes)) i ≡ unit_of big (slice_index bytes (2 * i)) (slice_index bytes (2 * i + 1))
  unit-in_front i within_block =
      units_of-at big (take n bytes) i (omega (arith, block_len))
      ∙ ap₂ (unit_of big) (get_or-take n bytes (2 * i) 0 (omega arith)) (get_or-take n bytes (2 * i + 1) 0 (omega arith))

-- the first and the last n bytes, if there are at most twice as many
module _ (big : Bool) (bytes : List ℕ) (n : ℕ) (even : length bytes % 2 ≡ 0) (even_n : n % 2 ≡ 0)
    (few : n ≤ length bytes) (many : length bytes ≤ n + n) where
  abbrev at : ℕ
  at = length bytes - n

  even_at : at % 2 ≡ 0
  even_at = omega arith

  front : HasNoSurrogate (units_of big (take n bytes)) → HasNoSurrogate (units_of big (take at bytes))
  front all =
      let within : at ≤ length (take n bytes) = omega (arith, length-take-le n bytes few) in
      let split = units_of-split big (take n bytes) at even_at within in
      subst (λ part. HasNoSurrogate (units_of big part)) (take-take at n bytes (omega arith))
      (no_surrogate-front _ _ (subst HasNoSurrogate split all))

  back : take n (drop at bytes) ≡ drop at bytes
  back = take_all n (drop at bytes) (omega (arith, length-drop at bytes))

  pub no_surrogate-ends : (HasNoSurrogate (units_of big (take n bytes)) × HasNoSurrogate (units_of big (take n (drop at bytes)))) ↔ HasNoSurrogate (units_of big bytes)
  no_surrogate-ends =
      let split = units_of-split big bytes at even_at (omega arith) in
      let first = units_of-split big bytes n even_n few in (
        (λ both. subst HasNoSurrogate (sym split) (All-append IsNoSurrogate _ _ (front both.0) (subst (λ part. HasNoSurrogate (units_of big part)) back both.1))),
        (λ all. (
          no_surrogate-front _ _ (subst HasNoSurrogate first all),
          subst (λ part. HasNoSurrogate (units_of big part)) (sym back) (no_surrogate-behind _ _ (subst HasNoSurrogate split all)),
        )),
      )

pub plain-nil : (big : Bool) → HasNoSurrogate (units_of big [])
unfolding units_of
plain-nil big = All-nil IsNoSurrogate

plain-cons : (big : Bool) (first second : ℕ) (bytes : List ℕ) → IsNoSurrogate (unit_of big first second) → HasNoSurrogate (units_of big bytes) → HasNoSurrogate (units_of big (first ∷ second ∷ bytes))
unfolding units_of
plain-cons big first second bytes here others = All-cons IsNoSurrogate (unit_of big first second) (units_of big bytes) here others

plain-head : (big : Bool) (first second : ℕ) (bytes : List ℕ) → HasNoSurrogate (units_of big (first ∷ second ∷ bytes)) → IsNoSurrogate (unit_of big first second)
unfolding units_of
plain-head big first second bytes all = All-head IsNoSurrogate (unit_of big first second) (units_of big bytes) all

plain-tail : (big : Bool) (first second : ℕ) (bytes : List ℕ) → HasNoSurrogate (units_of big (first ∷ second ∷ bytes)) → HasNoSurrogate (units_of big bytes)
unfolding units_of
plain-tail big first second bytes all = All-tail IsNoSurrogate (unit_of big first second) (units_of big bytes) all

-- one, two and three units
pub no_surrogate-one : (big : Bool) (bytes : List ℕ) → length bytes ≡ 2
    → IsNoSurrogate (unit_of big (slice_index bytes 0) (slice_index bytes 1)) ↔ HasNoSurrogate (units_of big bytes)
no_surrogate-one big [] two = absurd (omega (arith, two))
no_surrogate-one big (a ∷ []) two = absurd (omega (arith, two))
no_surrogate-one big (a ∷ b ∷ []) two = ((λ here. plain-cons big a b [] here (plain-nil big)), (λ all. plain-head big a b [] all))
no_surrogate-one big (a ∷ b ∷ c ∷ bytes) two = absurd (omega (arith, two))

no_surrogate-cons : (big : Bool) (a b : ℕ) (bytes : List ℕ) (Others : Type 0) → Others ↔ HasNoSurrogate (units_of big bytes)
    → (IsNoSurrogate (unit_of big a b) × Others) ↔ HasNoSurrogate (units_of big (a ∷ b ∷ bytes))
no_surrogate-cons big a b bytes Others others = (
  (λ both. plain-cons big a b bytes both.0 (others.0 both.1)),
  (λ all. (plain-head big a b bytes all, others.1 (plain-tail big a b bytes all))),
)

pub no_surrogate-two : (big : Bool) (bytes : List ℕ) → length bytes ≡ 4
    → (IsNoSurrogate (unit_of big (slice_index bytes 0) (slice_index bytes 1)) × IsNoSurrogate (unit_of big (slice_index bytes 2) (slice_index bytes 3)))
    ↔ HasNoSurrogate (units_of big bytes)
no_surrogate-two big [] four = absurd (omega (arith, four))
no_surrogate-two big (a ∷ []) four = absurd (omega (arith, four))
no_surrogate-two big (a ∷ b ∷ bytes) four = no_surrogate-cons big a b bytes _ (no_surrogate-one big bytes (omega (arith, four)))

pub no_surrogate-three : (big : Bool) (bytes : List ℕ) → length bytes ≡ 6
    → ((IsNoSurrogate (unit_of big (slice_index bytes 0) (slice_index bytes 1)) × IsNoSurrogate (unit_of big (slice_index bytes 2) (slice_index bytes 3))) × IsNoSurrogate (unit_of big (slice_index bytes 4) (slice_index bytes 5)))
    ↔ HasNoSurrogate (units_of big bytes)
no_surrogate-three big [] six = absurd (omega (arith, six))
no_surrogate-three big (a ∷ []) six = absurd (omega (arith, six))
no_surrogate-three big (a ∷ b ∷ bytes) six =
    let all = no_surrogate-cons big a b bytes _ (no_surrogate-two big bytes (omega (arith, six))) in
    ((λ are. all.0 (are.0.0, (are.0.1, are.1))), (λ plain. let are = all.1 plain in ((are.0, are.1.0), are.1.1)))

pub no_surrogate-none : (big : Bool) (bytes : List ℕ) → length bytes ≡ 0 → HasNoSurrogate (units_of big bytes)
no_surrogate-none big [] none = plain-nil big
no_surrogate-none big (byte ∷ bytes) none = absurd (omega (arith, none))
