-- How many of the next n bytes are of whole characters, and what they add.
use Rattle.std.proofs.Common.{◌≡◌, ℕ, suc, ◌+◌, ◌-◌, ◌<◌, ◌≤◌, ◌⊎◌, ⊎_elim, inl, inr, Bool, List, [], ◌∷◌, ◌++◌, append-nil, append_assoc, drop-cons, length, length-append, length-drop, length-take-le, take, drop, slice_index, subst, refl, sym, ap, ap₂, ◌∙◌, arith}
use Rattle.std.proofs.Math.Seq.{take-add}
use Rattle.std.proofs.lemmas.Bool.{cases_lt}
use Rattle.std.proofs.lemmas.List.{get_or-drop, get_or-take, take-take, take_at}
use Rattle.std.specs.Str.{IsUtf8}
use Rattle.utf16_units.specs.Unit.{unit_bytes}
use Rattle.utf16_units.proofs.UnitLemmas.{length-unit_bytes}
use Rattle.utf16_from_utf8.specs.Added.{added_bytes, unit_after}
use Rattle.utf16_from_utf8.proofs.AddedLemmas.{added_bytes-append, added_bytes-cons, last_but_one, last_of}
use Rattle.utf16_from_utf8.proofs.BlockLemmas.{added-bound, added_bytes-one, byte-adds-behind, byte-adds-first, byte-adds-one}
use Rattle.utf16_from_utf8.proofs.TextLemmas.{added_bytes-text}
use Rattle.utf16_from_utf8.specs.Follow.{AreUsed, FollowTo}
use Rattle.utf16_from_utf8.specs.Written.{IsWritten}
use Rattle.utf16_from_utf8.proofs.FollowLemmas.{behind-at, behind-take, follows-at}
use Rattle.utf16_from_utf8.proofs.WellFormedLemmas.{text-utf8}
use Rattle.utf16_from_utf8.proofs.WrittenLemmas.{more-written}

-- the next `used` bytes are a text, and all n add `over` bytes more than these
pub record Uses (big : Bool) (n : ℕ) (bytes : List ℕ) (at used over : ℕ) : Type 0 where
  pub well_formed : IsUtf8 (take used (drop at bytes))
  pub more : List ℕ
  pub more_len : length more ≡ over
  pub adds : added_bytes big 0 0 (take n (drop at bytes)) ≡ added_bytes big 0 0 (take used (drop at bytes)) ++ more

module _ (bytes : List ℕ) (at n : ℕ) (within : at + n ≤ length bytes) (follow : FollowTo n bytes at) where
  abbrev front : List ℕ
  front = take n (drop at bytes)

  long : length front ≡ n
  long = length-take-le n (drop at bytes) (omega (arith, within, length-drop at bytes))

  here : (i : ℕ) → i < n → slice_index front i ≡ slice_index bytes (at + i)
  here i b = get_or-take n (drop at bytes) i 0 b ∙ get_or-drop at bytes i 0

  pub front-utf8 : 3 ≤ n → slice_index bytes (at + n - 1) < 0xC0 → slice_index bytes (at + n - 2) < 0xE0 → slice_index bytes (at + n - 3) < 0xF0 → IsUtf8 front
  front-utf8 some last second third =
      text-utf8 front
      (λ i b.
      let below : i < n = omega (arith, b, long) in
      follows-at _ _ _ _ _ _ _ _ (behind-take 3 n bytes at i below) (behind-take 2 n bytes at i below) (behind-take 1 n bytes at i below) (here i below) (follow i below))
      record {
        one = λ i e. omega (arith, last, here i (omega (arith, e, long)), ap (slice_index bytes) (end i 1 (omega (arith, e, long))));
        two = λ i e. omega (arith, second, here i (omega (arith, e, long)), ap (slice_index bytes) (end i 2 (omega (arith, e, long))));
        three = λ i e. omega (arith, third, here i (omega (arith, e, long)), ap (slice_index bytes) (end i 3 (omega (arith, e, long))));
      }
    where
      end : (i d : ℕ) → d + i ≡ n → at + n - d ≡ at + i
      end i d e = omega (arith, e)

module _ (big : Bool) (n : ℕ) (many : 16 ≤ n) (bytes : List ℕ) (at : ℕ) (more : at + n ≤ length bytes) (follow : FollowTo n bytes at) where
  abbrev rest : List ℕ
  rest = drop at bytes

  abbrev byte : ℕ → ℕ
  byte i = slice_index bytes (at + i)

  byte-first : (k i : ℕ) → i < n → take (suc k) (drop i rest) ≡ byte i ∷ take k (drop (suc i) rest)
  byte-first k i b =
      ap (take (suc k)) (drop-cons rest i 0 (omega (arith, b, more, length-drop at bytes))) ∙ ap (λ x. x ∷ take k (drop (suc i) rest)) (get_or-drop at bytes i 0)

  -- the bytes before a byte that begins a character are a text
  before-utf8 : (i : ℕ) → i < n → 3 ≤ i → 0xC0 ≤ byte i → IsUtf8 (take i rest)
  before-utf8 i b some lead =
      front-utf8 bytes at i (omega (arith, more, b)) (λ j below. follow j (omega (arith, below, b))) some
      (⊎_elim (λ (a : slice_index (0 ∷ rest) i < 0xC0). omega (arith, a, behind-at 1 bytes at i (omega (arith, some)))) (λ (a : 0xC0 ≤ slice_index (0 ∷ rest) i). none (inl a)) (cases_lt (slice_index (0 ∷ rest) i) 0xC0))
      (⊎_elim (λ (a : slice_index (0 ∷ 0 ∷ rest) i < 0xE0). omega (arith, a, behind-at 2 bytes at i (omega (arith, some)))) (λ (a : 0xE0 ≤ slice_index (0 ∷ 0 ∷ rest) i). none (inr (inl a))) (cases_lt (slice_index (0 ∷ 0 ∷ rest) i) 0xE0))
      (⊎_elim (λ (a : slice_index (0 ∷ 0 ∷ 0 ∷ rest) i < 0xF0). omega (arith, a, behind-at 3 bytes at i (omega (arith, some)))) (λ (a : 0xF0 ≤ slice_index (0 ∷ 0 ∷ 0 ∷ rest) i). none (inr (inr a))) (cases_lt (slice_index (0 ∷ 0 ∷ 0 ∷ rest) i) 0xF0))
    where
      none : {A : Type 0} → ((0xC0 ≤ slice_index (0 ∷ rest) i) ⊎ (0xE0 ≤ slice_index (0 ∷ 0 ∷ rest) i) ⊎ (0xF0 ≤ slice_index (0 ∷ 0 ∷ 0 ∷ rest) i)) → A
      none behind = absurd (omega (arith, lead, ((follow i b).continues.0 behind).1))

  -- what the last bytes add after the other bytes
  last-add : (k i : ℕ) (tail added : List ℕ) → i + k ≡ n → take k (drop i rest) ≡ tail → added_bytes big (last_but_one 0 0 (take i rest)) (last_of 0 (take i rest)) tail ≡ added
      → added_bytes big 0 0 (take n rest) ≡ added_bytes big 0 0 (take i rest) ++ added
  last-add k i tail added all are adds =
      ap (λ m. added_bytes big 0 0 (take m rest)) (sym all) ∙ ap (added_bytes big 0 0) (take-add i k rest ∙ ap (λ t. take i rest ++ t) are)
      ∙ added_bytes-append big 0 0 (take i rest) tail ∙ ap (λ t. added_bytes big 0 0 (take i rest) ++ t) adds

  uses-all : byte (n - 1) < 0xC0 → byte (n - 2) < 0xE0 → byte (n - 3) < 0xF0 → Uses big n bytes at n 0
  uses-all a b d = record {
    well_formed = front-utf8 bytes at n more follow (omega (arith, many)) (omega (arith, a, ap (slice_index bytes) (place 1 (omega arith)))) (omega (arith, b, ap (slice_index bytes) (place 2 (omega arith)))) (omega (arith, d, ap (slice_index bytes) (place 3 (omega arith))));
    more = [];
    more_len = refl;
    adds = sym (append-nil (added_bytes big 0 0 (take n rest)));
  }
    where
      place : (d : ℕ) → d ≤ 3 → at + n - d ≡ at + (n - d)
      place d e = omega (arith, e, many)

  uses-but-one : (used : ℕ) → used + 1 ≡ n → 0xC0 ≤ byte used → Uses big n bytes at used 0
  uses-but-one used is lead = record {
    well_formed = before-utf8 used (omega (arith, is)) (omega (arith, is, many)) lead;
    more = [];
    more_len = refl;
    adds = last-add 1 used (byte used ∷ []) [] is (byte-first 0 used (omega (arith, is))) (added_bytes-one big _ _ _ ∙ byte-adds-first big _ _ _ lead);
  }

  uses-but-two : (used : ℕ) → used + 2 ≡ n → 0xE0 ≤ byte used → Uses big n bytes at used 0
  uses-but-two used is lead =
      let x = byte used in
      let y = byte (suc used) in
      record {
        well_formed = before-utf8 used (omega (arith, is)) (omega (arith, is, many)) (omega (arith, lead));
        more = [];
        more_len = refl;
        adds =
            last-add 2 used (x ∷ y ∷ []) [] is (byte-first 1 used (omega (arith, is)) ∙ ap (λ t. x ∷ t) (byte-first 0 (suc used) (omega (arith, is))))
            (added_bytes-cons big _ _ x (y ∷ [])
            ∙ ap₂ (λ s t. s ++ t) (byte-adds-first big _ _ x (omega (arith, lead))) (added_bytes-one big _ x y ∙ byte-adds-behind big _ x y lead));
      }

  -- three bytes of four add the leading surrogate
  uses-but-three : (used : ℕ) → used + 3 ≡ n → 0xF0 ≤ byte used → Uses big n bytes at used 2
  uses-but-three used is lead =
      let x = byte used in
      let y = byte (suc used) in
      let z = byte (suc (suc used)) in
      let here = get_or-drop at bytes used 0 in
      let second : y < 0xC0 = ((follow (suc used) (omega (arith, is))).continues.0 (inl (omega (arith, lead, here)))).1 in
      let third : z < 0xC0 = ((follow (suc (suc used)) (omega (arith, is))).continues.0 (inr (inl (omega (arith, lead, here))))).1 in
      record {
        well_formed = before-utf8 used (omega (arith, is)) (omega (arith, is, many)) (omega (arith, lead));
        more = unit_bytes big (unit_after x y z);
        more_len = length-unit_bytes big (unit_after x y z);
        adds =
            last-add 3 used (x ∷ y ∷ z ∷ []) (unit_bytes big (unit_after x y z)) is
            (byte-first 2 used (omega (arith, is)) ∙ ap (λ t. x ∷ t) (byte-first 1 (suc used) (omega (arith, is)) ∙ ap (λ t. y ∷ t) (byte-first 0 (suc (suc used)) (omega (arith, is)))))
            (added_bytes-cons big _ _ x (y ∷ z ∷ [])
            ∙ ap₂ (λ s t. s ++ t) (byte-adds-first big _ _ x (omega (arith, lead)))
            (added_bytes-cons big _ x y (z ∷ [])
            ∙ ap₂ (λ s t. s ++ t) (byte-adds-behind big _ x y (omega (arith, lead))) (added_bytes-one big x y z ∙ byte-adds-one big x y z third (omega (arith, second)))));
      }

  pub uses-begun : (used : ℕ) → used + 3 ≡ n → AreUsed n bytes at used → Uses big n bytes at used 2
  uses-begun used is are = ⊎_elim
      (λ (a : (used + 3 ≡ n) × (0xF0 ≤ byte used)). uses-but-three used a.0 a.1)
      (λ others. ⊎_elim
      (λ (a : (used + 2 ≡ n) × (0xE0 ≤ byte used)). absurd (omega (arith, is, a.0)))
      (λ others. ⊎_elim
      (λ (a : (used + 1 ≡ n) × (0xC0 ≤ byte used)). absurd (omega (arith, is, a.0)))
      (λ a. absurd (omega (arith, is, a.0)))
      others)
      others)
      are

  pub uses-others : (used : ℕ) → ¬ (used + 3 ≡ n) → AreUsed n bytes at used → Uses big n bytes at used 0
  uses-others used none are = ⊎_elim
      (λ (a : (used + 3 ≡ n) × (0xF0 ≤ byte used)). absurd (none a.0))
      (λ others. ⊎_elim
      (λ (a : (used + 2 ≡ n) × (0xE0 ≤ byte used)). uses-but-two used a.0 a.1)
      (λ others. ⊎_elim
      (λ (a : (used + 1 ≡ n) × (0xC0 ≤ byte used)). uses-but-one used a.0 a.1)
      (λ a. subst (λ m. Uses big n bytes at m 0) (sym a.0) (uses-all a.1 a.2 a.3))
      others)
      others)
      are

pub used-bounds : (n : ℕ) (bytes : List ℕ) (at used : ℕ) → AreUsed n bytes at used → (n ≤ used + 3) × (used ≤ n)
used-bounds n bytes at used is = ⊎_elim (λ a. (omega (arith, a.0), omega (arith, a.0))) (λ b. ⊎_elim (λ a. (omega (arith, a.0), omega (arith, a.0))) (λ b. ⊎_elim (λ a. (omega (arith, a.0), omega (arith, a.0))) (λ a. (omega (arith, a.0), omega (arith, a.0))) b) b) is

-- written after what was written
module _ (big : Bool) (n : ℕ) (bytes old new : List ℕ) (at written used over to : ℕ) (is : AreUsed n bytes at used) (more : at + n ≤ length bytes) (uses : Uses big n bytes at used over)
    (p : written ≤ length old) (q : to ≤ length new) (wrote : take to new ≡ take written old ++ added_bytes big 0 0 (take n (drop at bytes))) where
  abbrev block : List ℕ
  block = take used (drop at bytes)

  abbrev start : List ℕ
  start = take written old ++ added_bytes big 0 0 block

  all : take to new ≡ start ++ uses.more
  all = wrote ∙ ap (λ t. take written old ++ t) uses.adds ∙ sym (append_assoc (take written old) (added_bytes big 0 0 block) uses.more)

  length-all : length start + over ≡ to
  length-all = ap (λ k. length start + k) (sym uses.more_len) ∙ sym (length-append start uses.more) ∙ ap length (sym all) ∙ length-take-le to new q

  pub uses-over : over ≤ to
  uses-over = omega (arith, length-all)

  pub uses-written : (end : ℕ) → end + over ≡ to → IsWritten big bytes old at written → IsWritten big bytes new (at + used) end
  uses-written end ends done =
      let adds : take end new ≡ start = sym (take-take end to new (omega (arith, ends))) ∙ ap (take end) all ∙ take_at start uses.more end (omega (arith, length-all, ends)) in
      let most = (used-bounds n bytes at used is).1 in
      let long : length block ≡ used = length-take-le used (drop at bytes) (omega (arith, most, more, length-drop at bytes)) in
      more-written big bytes old new at written used end done (omega (arith, most, more)) uses.well_formed
      (adds ∙ ap (λ t. take written old ++ t) (added_bytes-text big block uses.well_formed))
      (omega (arith, added-bound big 0 0 old new block written end p (omega (arith, q, ends)) adds, long)) (omega (arith, q, ends))
