-- What a byte adds, by the classes of the byte and of the bytes before it; and what consecutive
-- bytes add.
use Rattle.std.proofs.Common.{◌≡◌, ℕ, zero, suc, ◌+◌, ◌-◌, ◌*◌, ◌/◌, ◌%◌, ◌<◌, ◌≤◌, ◌&&◌, Bool, true, false, cond, ltb, List, [], ◌∷◌, ◌++◌, drop, drop-drop, get_or, length, length-drop, length-take-le, slice_index, take, refl, sym, ap, ap₂, ◌∙◌, arith, flat_map, append_assoc, lt-ltb, le-ltb}
use Rattle.std.proofs.Math.Seq.{take-add}
use Rattle.std.proofs.lemmas.Grind.{flat_map-append}
use Rattle.std.proofs.lemmas.List.{get_or-drop, get_or-take}
use Rattle.std.specs.Simd.Lanes.{chunk}
use Rattle.utf16_units.specs.Unit.{unit_bytes}
use Rattle.utf16_from_utf8.specs.Added.{added, added_bytes, all_added, unit_after}

-- ---- one byte

pub adds-one : (b2 b1 b0 : ℕ) → b0 < 0xC0 → b1 < 0xE0 → added b2 b1 b0 ≡ unit_after b2 b1 b0 ∷ []
adds-one b2 b1 b0 low behind = ap₂ (λ (x y : Bool). cond (x && y) (unit_after b2 b1 b0 ∷ []) []) (lt-ltb b0 0xC0 low) (lt-ltb b1 0xE0 behind)

pub adds-none-first : (b2 b1 b0 : ℕ) → 0xC0 ≤ b0 → added b2 b1 b0 ≡ []
adds-none-first b2 b1 b0 first = ap (λ (x : Bool). cond (x && ltb b1 0xE0) (unit_after b2 b1 b0 ∷ []) []) (le-ltb b0 0xC0 first)

pub adds-none-behind : (b2 b1 b0 : ℕ) → 0xE0 ≤ b1 → added b2 b1 b0 ≡ []
adds-none-behind b2 b1 b0 first = ap (λ (y : Bool). cond (ltb b0 0xC0 && y) (unit_after b2 b1 b0 ∷ []) []) (le-ltb b1 0xE0 first) ∙ neither (ltb b0 0xC0)
  where
    neither : (x : Bool) → cond (x && false) (unit_after b2 b1 b0 ∷ []) [] ≡ []
    neither true = refl
    neither false = refl

pub unit-one : (b2 b1 b0 : ℕ) → b0 < 0x80 → unit_after b2 b1 b0 ≡ b0
unfolding unit_after
unit-one b2 b1 b0 a = rw (lt-ltb b0 0x80 a) refl

pub unit-two : (b2 b1 b0 : ℕ) → 0x80 ≤ b0 → 0xC0 ≤ b1 → unit_after b2 b1 b0 ≡ b1 % 32 * 64 + b0 % 64
unfolding unit_after
unit-two b2 b1 b0 a b = rw (le-ltb b0 0x80 a, le-ltb b1 0xC0 b) refl

pub unit-three : (b2 b1 b0 : ℕ) → 0x80 ≤ b0 → b1 < 0xC0 → 0xE0 ≤ b2 → b2 < 0xF0 → unit_after b2 b1 b0 ≡ b2 % 16 * 4096 + (b1 % 64 * 64 + b0 % 64)
unfolding unit_after
unit-three b2 b1 b0 a b c d = rw (le-ltb b0 0x80 a, lt-ltb b1 0xC0 b, le-ltb b2 0xE0 c, lt-ltb b2 0xF0 d) refl

pub unit-leading : (b2 b1 b0 : ℕ) → 0x80 ≤ b0 → b1 < 0xC0 → 0xF0 ≤ b2 → unit_after b2 b1 b0 ≡ 0xD7C0 + (b2 % 8 * 256 + (b1 % 64 * 4 + b0 % 64 / 16))
unfolding unit_after
unit-leading b2 b1 b0 a b c =
    let d : 0xE0 ≤ b2 = omega arith in
    rw (le-ltb b0 0x80 a, lt-ltb b1 0xC0 b, le-ltb b2 0xE0 d, le-ltb b2 0xF0 c) refl

pub unit-trailing : (b2 b1 b0 : ℕ) → 0x80 ≤ b0 → b1 < 0xC0 → b2 < 0xE0 → unit_after b2 b1 b0 ≡ 0xDC00 + (b1 % 16 * 64 + b0 % 64)
unfolding unit_after
unit-trailing b2 b1 b0 a b c = rw (le-ltb b0 0x80 a, lt-ltb b1 0xC0 b, lt-ltb b2 0xE0 c) refl

-- ---- several

pub all_added-nil : (b2 b1 : ℕ) → all_added b2 b1 [] ≡ []
unfolding all_added
all_added-nil b2 b1 = refl

pub all_added-cons : (b2 b1 b0 : ℕ) (bytes : List ℕ) → all_added b2 b1 (b0 ∷ bytes) ≡ added b2 b1 b0 ++ all_added b1 b0 bytes
unfolding all_added
all_added-cons b2 b1 b0 bytes = refl

-- the bytes of what one byte adds
abbrev pub byte_adds : Bool → ℕ → ℕ → ℕ → List ℕ
byte_adds big b2 b1 b0 = flat_map (unit_bytes big) (added b2 b1 b0)

pub added_bytes-nil : (big : Bool) (b2 b1 : ℕ) → added_bytes big b2 b1 [] ≡ []
added_bytes-nil big b2 b1 = ap (flat_map (unit_bytes big)) (all_added-nil b2 b1)

pub added_bytes-cons : (big : Bool) (b2 b1 b0 : ℕ) (bytes : List ℕ) → added_bytes big b2 b1 (b0 ∷ bytes) ≡ byte_adds big b2 b1 b0 ++ added_bytes big b1 b0 bytes
added_bytes-cons big b2 b1 b0 bytes =
    ap (flat_map (unit_bytes big)) (all_added-cons b2 b1 b0 bytes) ∙ flat_map-append (unit_bytes big) (added b2 b1 b0) (all_added b1 b0 bytes)

-- the last byte of bytes after one other byte, and the last but one of bytes after two
abbrev pub last_of : ℕ → List ℕ → ℕ
last_of b1 [] = b1
last_of b1 (b0 ∷ bytes) = last_of b0 bytes

abbrev pub last_but_one : ℕ → ℕ → List ℕ → ℕ
last_but_one b2 b1 [] = b2
last_but_one b2 b1 (b0 ∷ bytes) = last_but_one b1 b0 bytes

pub last_of-get : (b1 n : ℕ) (bytes : List ℕ) → length bytes ≡ suc n → last_of b1 bytes ≡ get_or bytes n 0
last_of-get b1 n [] e = absurd (omega arith)
last_of-get b1 zero (b0 ∷ []) e = refl
last_of-get b1 (suc n) (b0 ∷ []) e = absurd (omega arith)
last_of-get b1 zero (b0 ∷ next ∷ bytes) e = absurd (omega arith)
last_of-get b1 (suc n) (b0 ∷ next ∷ bytes) e = last_of-get b0 n (next ∷ bytes) (omega arith)

pub last_but_one-get : (b2 b1 n : ℕ) (bytes : List ℕ) → length bytes ≡ suc (suc n) → last_but_one b2 b1 bytes ≡ get_or bytes n 0
last_but_one-get b2 b1 n [] e = absurd (omega arith)
last_but_one-get b2 b1 n (b0 ∷ []) e = absurd (omega arith)
last_but_one-get b2 b1 zero (b0 ∷ next ∷ []) e = refl
last_but_one-get b2 b1 zero (b0 ∷ next ∷ more ∷ bytes) e = absurd (omega arith)
last_but_one-get b2 b1 (suc n) (b0 ∷ next ∷ bytes) e = last_but_one-get b1 b0 n (next ∷ bytes) (omega arith)

pub added_bytes-append : (big : Bool) (b2 b1 : ℕ) (bytes more : List ℕ)
    → added_bytes big b2 b1 (bytes ++ more) ≡ added_bytes big b2 b1 bytes ++ added_bytes big (last_but_one b2 b1 bytes) (last_of b1 bytes) more
added_bytes-append big b2 b1 [] more = ap (λ t. t ++ added_bytes big b2 b1 more) (sym (added_bytes-nil big b2 b1))
added_bytes-append big b2 b1 (b0 ∷ bytes) more =
    added_bytes-cons big b2 b1 b0 (bytes ++ more)
    ∙ ap (λ t. byte_adds big b2 b1 b0 ++ t) (added_bytes-append big b1 b0 bytes more)
    ∙ sym (append_assoc (byte_adds big b2 b1 b0) (added_bytes big b1 b0 bytes) (added_bytes big (last_but_one b1 b0 bytes) (last_of b0 bytes) more))
    ∙ ap (λ t. t ++ added_bytes big (last_but_one b1 b0 bytes) (last_of b0 bytes) more) (sym (added_bytes-cons big b2 b1 b0 bytes))

-- ---- sixteen more bytes

pub added-more : (big : Bool) (bytes : List ℕ) (at k : ℕ) → 2 ≤ k → at + k + 16 ≤ length bytes
    → added_bytes big 0 0 (take (k + 16) (drop at bytes))
    ≡ added_bytes big 0 0 (take k (drop at bytes)) ++ added_bytes big (slice_index bytes (at + k - 2)) (slice_index bytes (at + k - 1)) (chunk (at + k) 16 bytes)
added-more big bytes at zero some more = absurd (omega (arith, some))
added-more big bytes at (suc zero) some more = absurd (omega (arith, some))
added-more big bytes at (suc (suc k)) some more =
    let n = suc (suc k) in
    let rest = drop at bytes in
    let front = take n rest in
    let next = chunk (at + n) 16 bytes in
    let long : length front ≡ n = length-take-le n rest (omega (arith, more, length-drop at bytes)) in
    let one : last_of 0 front ≡ slice_index bytes (at + n - 1) =
    last_of-get 0 (suc k) front long ∙ get_or-take n rest (suc k) 0 (omega arith) ∙ get_or-drop at bytes (suc k) 0 ∙ ap (slice_index bytes) (omega arith) in
    let two : last_but_one 0 0 front ≡ slice_index bytes (at + n - 2) =
    last_but_one-get 0 0 k front long ∙ get_or-take n rest k 0 (omega arith) ∙ get_or-drop at bytes k 0 ∙ ap (slice_index bytes) (omega arith) in
    ap (added_bytes big 0 0) (take-add n 16 rest ∙ ap (λ t. front ++ take 16 t) (drop-drop n at bytes))
    ∙ added_bytes-append big 0 0 front next
    ∙ ap₂ (λ x y. added_bytes big 0 0 front ++ added_bytes big x y next) two one

-- they are written after what was written before
pub written-more : (big : Bool) (bytes old done more : List ℕ) (at k : ℕ) → 2 ≤ k → at + k + 16 ≤ length bytes → done ≡ old ++ added_bytes big 0 0 (take k (drop at bytes))
    → more ≡ done ++ added_bytes big (slice_index bytes (at + k - 2)) (slice_index bytes (at + k - 1)) (chunk (at + k) 16 bytes) → more ≡ old ++ added_bytes big 0 0 (take (k + 16) (drop at bytes))
written-more big bytes old done more at k some within before step =
    let next = added_bytes big (slice_index bytes (at + k - 2)) (slice_index bytes (at + k - 1)) (chunk (at + k) 16 bytes) in
    step
    ∙ ap (λ t. t ++ next) before
    ∙ append_assoc old (added_bytes big 0 0 (take k (drop at bytes))) next
    ∙ ap (λ t. old ++ t) (sym (added-more big bytes at k some within))
