-- Bytes begin a well-formed text if each of them may follow the bytes before it.
use Rattle.std.proofs.Common.{◌≡◌, ℕ, zero, suc, ◌+◌, ◌-◌, ◌*◌, ◌/◌, ◌%◌, ◌<◌, ◌≤◌, ◌⊎◌, ◌↔◌, ⊎_elim, inl, inr, List, [], ◌∷◌, ◌++◌, append_assoc, drop, length, length-append, length-drop, length-take-le, refl, slice_index, subst, sym, ap, ap₂, ◌∙◌, take, arith}
use Rattle.std.proofs.lemmas.Bool.{cases_lt}
use Rattle.std.proofs.lemmas.List.{get_or-drop, get_or_append_left}
use Rattle.std.proofs.lemmas.Str.{IsUtf8-append, IsUtf8-encode, IsUtf8-nil}
use Rattle.std.specs.Char.{IsScalar}
use Rattle.std.specs.Str.{IsUtf8}
use lib.Utf8.{low_scalar}
use Rattle.utf16_units.proofs.FirstChar.{high_scalar}
use Rattle.utf16_units.proofs.Utf8Lemmas.{three_bytes, two_bytes}
use Rattle.utf16_from_utf8.specs.Follow.{FollowTo, Follows, IsBlock, behind}
use Rattle.utf16_from_utf8.proofs.FollowLemmas.{behind-take, follows-at}
use Rattle.utf16_from_utf8.proofs.WellFormedLemmas.{FollowAll, four-utf8, one-utf8, text-follows}
use Rattle.uses_buffers.specs.Block.{BeginsText}

-- ---- a text that begins with these bytes

module _ (xs ys : List ℕ) where
  behind-append : (d i : ℕ) → i < length xs → slice_index (behind d (xs ++ ys)) i ≡ slice_index (behind d xs) i
  behind-append zero i below = get_or_append_left xs ys 0 i below
  behind-append (suc d) zero below = refl
  behind-append (suc d) (suc i) below = behind-append d i (omega (arith, below))

follow-of-text : (bytes : List ℕ) (at n : ℕ) → at + n ≤ length bytes → BeginsText (take n (drop at bytes)) → FollowTo n bytes at
follow-of-text bytes at n within (more, text) i below =
    let front = take n (drop at bytes) in
    let long : length front ≡ n = length-take-le n (drop at bytes) (omega (arith, within, length-drop at bytes)) in
    let inside : i < length front = omega (arith, below, long) in
    let all = text-follows (front ++ more) 0 n text (omega (arith, long, length-append front more)) i below in
    let here : 0 + i ≡ i = omega arith in
    follows-at _ _ _ _ _ _ _ _
    (sym (behind-append front more 3 i inside ∙ behind-take 3 n bytes at i below))
    (sym (behind-append front more 2 i inside ∙ behind-take 2 n bytes at i below))
    (sym (behind-append front more 1 i inside ∙ behind-take 1 n bytes at i below))
    (sym (ap (slice_index (front ++ more)) here ∙ behind-append front more 0 i inside ∙ behind-take 0 n bytes at i below ∙ get_or-drop at bytes i 0))
    all

-- ---- the bytes of one character

abbrev IsContinuation : ℕ → Type 0
IsContinuation y = (0x80 ≤ y) × (y < 0xC0)

two-utf8 : (x y : ℕ) → 0xC2 ≤ x → x < 0xE0 → IsContinuation y → IsUtf8 (x ∷ y ∷ [])
two-utf8 x y a b cy =
    let char = (x - 0xC0) * 64 + (y - 0x80) in
    let first : 192 + char / 64 ≡ x = omega (arith, a, b, cy) in
    let second : 128 + char % 64 ≡ y = omega (arith, a, cy) in
    subst IsUtf8 (two_bytes char (omega (arith, a)) (omega (arith, b, cy)) ∙ ap₂ (λ s t. s ∷ t ∷ []) first second) (IsUtf8-encode char (low_scalar char (omega (arith, b, cy))))

three-utf8 : (x y z : ℕ) → 0xE0 ≤ x → x < 0xF0 → IsContinuation y → IsContinuation z → (x ≡ 0xE0 → 0xA0 ≤ y) → (x ≡ 0xED → y < 0xA0) → IsUtf8 (x ∷ y ∷ z ∷ [])
three-utf8 x y z a b cy cz least most =
    let char = (x - 0xE0) * 4096 + ((y - 0x80) * 64 + (z - 0x80)) in
    let below : char < 0x1_0000 = omega (arith, b, cy, cz) in
    let from : 0x800 ≤ char = ⊎_elim
    (λ (first : x < 0xE1). omega (arith, least (omega (arith, a, first)), cz))
    (λ (others : 0xE1 ≤ x). omega (arith, others))
    (cases_lt x 0xE1) in
    let scalar : IsScalar char = ⊎_elim
    (λ (low : x < 0xED). low_scalar char (omega (arith, low, cy, cz)))
    (λ (high : 0xED ≤ x). ⊎_elim
    (λ (ed : x < 0xEE). low_scalar char (omega (arith, ed, most (omega (arith, high, ed)), cz)))
    (λ (above : 0xEE ≤ x). high_scalar char (omega (arith, above)) (omega (arith, below)))
    (cases_lt x 0xEE))
    (cases_lt x 0xED) in
    let first : 224 + char / 4096 ≡ x = omega (arith, a, cy, cz) in
    let second : 128 + char / 64 % 64 ≡ y = omega (arith, cy, cz) in
    let third : 128 + char % 64 ≡ z = omega (arith, cz) in
    subst IsUtf8 (three_bytes char from below ∙ ap₂ (λ s t. s ∷ t) first (ap₂ (λ s t. s ∷ t ∷ []) second third)) (IsUtf8-encode char scalar)

least : IsContinuation 0x80
least = (omega arith, omega arith)

-- ---- the rest of the last character

-- after a text
begin-append : (front bytes : List ℕ) → IsUtf8 front → BeginsText bytes → BeginsText (front ++ bytes)
begin-append front bytes text (more, all) = (more, subst IsUtf8 (sym (append_assoc front bytes more)) (IsUtf8-append front (bytes ++ more) text all))

complete-one : (x : ℕ) → 0xC2 ≤ x → x < 0xF5 → BeginsText (x ∷ [])
complete-one x a b = ⊎_elim
    (λ (low : x < 0xE0). (0x80 ∷ [], two-utf8 x 0x80 a low least))
    (λ (three : 0xE0 ≤ x). ⊎_elim
    (λ (low : x < 0xF0). ⊎_elim
    (λ (first : x < 0xE1). (0xA0 ∷ 0x80 ∷ [], three-utf8 x 0xA0 0x80 three low (omega arith, omega arith) least (λ e. omega arith) (λ e. absurd (omega (arith, e, first)))))
    (λ (others : 0xE1 ≤ x). (0x80 ∷ 0x80 ∷ [], three-utf8 x 0x80 0x80 three low least least (λ e. absurd (omega (arith, e, others))) (λ e. omega arith)))
    (cases_lt x 0xE1))
    (λ (four : 0xF0 ≤ x). ⊎_elim
    (λ (first : x < 0xF1). (0x90 ∷ 0x80 ∷ 0x80 ∷ [], four-utf8 x 0x90 0x80 0x80 four b (omega arith, omega arith) least least (λ e. omega arith) (λ e. absurd (omega (arith, e, first)))))
    (λ (others : 0xF1 ≤ x). (0x80 ∷ 0x80 ∷ 0x80 ∷ [], four-utf8 x 0x80 0x80 0x80 four b least least least (λ e. absurd (omega (arith, e, others))) (λ e. omega arith)))
    (cases_lt x 0xF1))
    (cases_lt x 0xF0))
    (cases_lt x 0xE0)

complete-two : (b2 b1 x y : ℕ) → 0xE0 ≤ x → x < 0xF5 → IsContinuation y → Follows b2 b1 x y → BeginsText (x ∷ y ∷ [])
complete-two b2 b1 x y a b cy second = ⊎_elim
    (λ (low : x < 0xF0). (0x80 ∷ [], three-utf8 x y 0x80 a low cy least second.after_E0 second.after_ED))
    (λ (high : 0xF0 ≤ x). (0x80 ∷ 0x80 ∷ [], four-utf8 x y 0x80 0x80 high b cy least least second.after_F0 second.after_F4))
    (cases_lt x 0xF0)

complete-three : (b2 b1 x y z : ℕ) → 0xF0 ≤ x → x < 0xF5 → IsContinuation y → IsContinuation z → Follows b2 b1 x y → BeginsText (x ∷ y ∷ z ∷ [])
complete-three b2 b1 x y z a b cy cz second = (0x80 ∷ [], four-utf8 x y z 0x80 a b cy cz least second.after_F0 second.after_F4)

-- after the end of a character the next byte is ASCII or begins a character
begins : (b3 b2 b1 x : ℕ) → b3 < 0xF0 → b2 < 0xE0 → b1 < 0xC0 → Follows b3 b2 b1 x → (x < 0x80) ⊎ ((0xC2 ≤ x) × (x < 0xF5))
begins b3 b2 b1 x three two one follows = ⊎_elim
    (λ (a : x < 0x80). inl a)
    (λ (a : 0x80 ≤ x). ⊎_elim
    (λ (b : x < 0xC0). absurd (⊎_elim
    (λ (d : 0xC0 ≤ b1). omega (arith, one, d))
    (λ d. ⊎_elim (λ (d : 0xE0 ≤ b2). omega (arith, two, d)) (λ (d : 0xF0 ≤ b3). omega (arith, three, d)) d)
    (follows.continues.1 (a, b))))
    (λ b. inr b)
    follows.begins)
    (cases_lt x 0x80)

behind-one : (b3 b2 b1 y : ℕ) (bytes : List ℕ) → FollowAll b3 b2 b1 (y ∷ bytes) → FollowAll b2 b1 y bytes
behind-one b3 b2 b1 y bytes follow i below = follow (suc i) (omega arith)

-- the bytes after a whole character, and after one, two and three bytes of another
record Rest (bytes : List ℕ) : Type 0 where
  none : (b3 b2 b1 : ℕ) → b3 < 0xF0 → b2 < 0xE0 → b1 < 0xC0 → FollowAll b3 b2 b1 bytes → BeginsText bytes
  one : (b2 b1 x : ℕ) → b1 < 0xF0 → 0xC2 ≤ x → x < 0xF5 → FollowAll b2 b1 x bytes → BeginsText (x ∷ bytes)
  two : (b2 b1 x y : ℕ) → 0xE0 ≤ x → x < 0xF5 → IsContinuation y → Follows b2 b1 x y → FollowAll b1 x y bytes → BeginsText (x ∷ y ∷ bytes)
  three : (b2 b1 x y z : ℕ) → 0xF0 ≤ x → x < 0xF5 → IsContinuation y → IsContinuation z → Follows b2 b1 x y → FollowAll x y z bytes → BeginsText (x ∷ y ∷ z ∷ bytes)

rest : (bytes : List ℕ) → Rest bytes
rest [] = record {
  none = λ b3 b2 b1 p q r follow. ([], IsUtf8-nil);
  one = λ b2 b1 x p a b follow. complete-one x a b;
  two = λ b2 b1 x y a b cy second follow. complete-two b2 b1 x y a b cy second;
  three = λ b2 b1 x y z a b cy cz second follow. complete-three b2 b1 x y z a b cy cz second;
}
rest (w ∷ bytes) =
    let more = rest bytes in
    record {
      none = λ b3 b2 b1 p q r follow. ⊎_elim
          (λ (a : w < 0x80). begin-append (w ∷ []) bytes (one-utf8 w a)
          (more.none b2 b1 w (omega (arith, q)) (omega (arith, r)) (omega (arith, a)) (behind-one b3 b2 b1 w bytes follow)))
          (λ (a : (0xC2 ≤ w) × (w < 0xF5)). more.one b2 b1 w (omega (arith, r)) a.0 a.1 (behind-one b3 b2 b1 w bytes follow))
          (begins b3 b2 b1 w p q r (follow 0 (omega arith)));
      one = λ b2 b1 x p a b follow.
          let here = follow 0 (omega arith) in
          let cont : IsContinuation w = here.continues.0 (inl (omega (arith, a))) in
          let next = behind-one b2 b1 x w bytes follow in
          ⊎_elim
          (λ (low : x < 0xE0). begin-append (x ∷ w ∷ []) bytes (two-utf8 x w a low cont) (more.none b1 x w p low cont.1 next))
          (λ (high : 0xE0 ≤ x). more.two b2 b1 x w high b cont here next)
          (cases_lt x 0xE0);
      two = λ b2 b1 x y a b cy second follow.
          let cont : IsContinuation w = (follow 0 (omega arith)).continues.0 (inr (inl a)) in
          let next = behind-one b1 x y w bytes follow in
          ⊎_elim
          (λ (low : x < 0xF0). begin-append (x ∷ y ∷ w ∷ []) bytes (three-utf8 x y w a low cy cont second.after_E0 second.after_ED)
          (more.none x y w low (omega (arith, cy)) cont.1 next))
          (λ (high : 0xF0 ≤ x). more.three b2 b1 x y w high b cy cont second next)
          (cases_lt x 0xF0);
      three = λ b2 b1 x y z a b cy cz second follow.
          let cont : IsContinuation w = (follow 0 (omega arith)).continues.0 (inr (inr a)) in
          begin-append (x ∷ y ∷ z ∷ w ∷ []) bytes (four-utf8 x y z w a b cy cz cont second.after_F0 second.after_F4)
          (more.none y z w (omega (arith, cy)) (omega (arith, cz)) cont.1 (behind-one x y z w bytes follow));
    }

text-of-follow : (bytes : List ℕ) (at n : ℕ) → at + n ≤ length bytes → FollowTo n bytes at → BeginsText (take n (drop at bytes))
text-of-follow bytes at n within follow =
    let front = take n (drop at bytes) in
    let long : length front ≡ n = length-take-le n (drop at bytes) (omega (arith, within, length-drop at bytes)) in
    (rest front).none 0 0 0 (omega arith) (omega arith) (omega arith)
    (λ i b.
    let below : i < n = omega (arith, b, long) in
    follows-at _ _ _ _ _ _ _ _ (behind-take 3 n bytes at i below) (behind-take 2 n bytes at i below) (behind-take 1 n bytes at i below)
    (behind-take 0 n bytes at i below ∙ get_or-drop at bytes i 0) (follow i below))

pub block_is_text : (bytes : List ℕ) (at : ℕ) → IsBlock bytes at ↔ ((at + 64 ≤ length bytes) × BeginsText (take 64 (drop at bytes)))
block_is_text bytes at = (
  (λ block. (block.0, text-of-follow bytes at 64 block.0 block.1)),
  (λ text. (text.0, follow-of-text bytes at 64 text.0 text.1)),
)
