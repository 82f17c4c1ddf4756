-- Bytes are well formed exactly if each may follow the bytes before it, and they end with a
-- character.
use Rattle.std.proofs.Common.{◌≡◌, ℕ, zero, suc, ◌+◌, ◌-◌, ◌*◌, ◌/◌, ◌%◌, ◌<◌, ◌≤◌, ◌⊎◌, ⊎_elim, inl, inr, All, List, [], ◌∷◌, ◌++◌, drop, encode_utf8_all, length, length-drop, slice_index, take, subst, refl, sym, ap₂, ◌∙◌, arith}
use Rattle.std.proofs.lemmas.Bool.{cases_lt}
use Rattle.std.proofs.lemmas.List.{get_or-drop}
use Rattle.std.proofs.lemmas.List.Elements.{All-head, All-tail}
use Rattle.std.proofs.lemmas.Str.{IsCharBoundary-from_take, IsUtf8-append, IsUtf8-drop, IsUtf8-encode, IsUtf8-nil, encodes-chars}
use Rattle.std.specs.Char.{IsScalar}
use Rattle.std.specs.Str.{IsUtf8, chars}
use lib.Utf8.{encode, low_scalar}
use Rattle.utf16_units.proofs.CharLemmas.{no_surrogate}
use Rattle.utf16_units.proofs.FirstChar.{high_scalar}
use Rattle.utf16_units.proofs.SizeLemmas.{scalars-of}
use Rattle.utf16_units.proofs.Utf8Lemmas.{four_bytes, one_byte, three_bytes, two_bytes}
use Rattle.utf16_from_utf8.specs.Follow.{FollowTo, Follows, FollowsAny}
use Rattle.utf16_from_utf8.proofs.FollowLemmas.{follows-any, follows-at}

-- ---- a character

abbrev IsContinuation : ℕ → Type 0
IsContinuation y = (0x80 ≤ y) × (y < 0xC0)

pub one-utf8 : (x : ℕ) → x < 0x80 → IsUtf8 (x ∷ [])
one-utf8 x a = subst IsUtf8 (one_byte x a) (IsUtf8-encode x (low_scalar x (omega (arith, a))))

two-utf8 : (x y : ℕ) → 0xC2 ≤ x → x < 0xE0 → IsContinuation y → IsUtf8 (x ∷ y ∷ [])
two-utf8 x y a b cy =
    let char = (x - 0xC0) * 64 + (y - 0x80) in
    let first : 192 + char / 64 ≡ x = omega (arith, a, b, cy) in
    let second : 128 + char % 64 ≡ y = omega (arith, a, cy) in
    subst IsUtf8 (two_bytes char (omega (arith, a)) (omega (arith, b, cy)) ∙ ap₂ (λ s t. s ∷ t ∷ []) first second) (IsUtf8-encode char (low_scalar char (omega (arith, b, cy))))

three-utf8 : (x y z : ℕ) → 0xE0 ≤ x → x < 0xF0 → IsContinuation y → IsContinuation z → (x ≡ 0xE0 → 0xA0 ≤ y) → (x ≡ 0xED → y < 0xA0) → IsUtf8 (x ∷ y ∷ z ∷ [])
three-utf8 x y z a b cy cz least most =
    let char = (x - 0xE0) * 4096 + ((y - 0x80) * 64 + (z - 0x80)) in
    let below : char < 0x1_0000 = omega (arith, b, cy, cz) in
    let from : 0x800 ≤ char = ⊎_elim
    (λ (first : x < 0xE1). omega (arith, least (omega (arith, a, first)), cz))
    (λ (others : 0xE1 ≤ x). omega (arith, others))
    (cases_lt x 0xE1) in
    let scalar : IsScalar char = ⊎_elim
    (λ (low : x < 0xED). low_scalar char (omega (arith, low, cy, cz)))
    (λ (high : 0xED ≤ x). ⊎_elim
    (λ (ed : x < 0xEE). low_scalar char (omega (arith, ed, most (omega (arith, high, ed)), cz)))
    (λ (above : 0xEE ≤ x). high_scalar char (omega (arith, above)) (omega (arith, below)))
    (cases_lt x 0xEE))
    (cases_lt x 0xED) in
    let first : 224 + char / 4096 ≡ x = omega (arith, a, cy, cz) in
    let second : 128 + char / 64 % 64 ≡ y = omega (arith, cy, cz) in
    let third : 128 + char % 64 ≡ z = omega (arith, cz) in
    subst IsUtf8 (three_bytes char from below ∙ ap₂ (λ s t. s ∷ t) first (ap₂ (λ s t. s ∷ t ∷ []) second third)) (IsUtf8-encode char scalar)

pub four-utf8 : (x y z w : ℕ) → 0xF0 ≤ x → x < 0xF5 → IsContinuation y → IsContinuation z → IsContinuation w → (x ≡ 0xF0 → 0x90 ≤ y) → (x ≡ 0xF4 → y < 0x90) → IsUtf8 (x ∷ y ∷ z ∷ w ∷ [])
four-utf8 x y z w a b cy cz cw least most =
    let char = (x - 0xF0) * 262144 + ((y - 0x80) * 4096 + ((z - 0x80) * 64 + (w - 0x80))) in
    let from : 0x1_0000 ≤ char = ⊎_elim
    (λ (first : x < 0xF1). omega (arith, least (omega (arith, a, first)), cz))
    (λ (others : 0xF1 ≤ x). omega (arith, others))
    (cases_lt x 0xF1) in
    let below : char < 0x11_0000 = ⊎_elim
    (λ (others : x < 0xF4). omega (arith, others, cy, cz, cw))
    (λ (last : 0xF4 ≤ x). omega (arith, b, most (omega (arith, b, last)), cz, cw))
    (cases_lt x 0xF4) in
    let first : 240 + char / 262144 ≡ x = omega (arith, a, cy, cz, cw) in
    let second : 128 + char / 4096 % 64 ≡ y = omega (arith, cy, cz, cw) in
    let third : 128 + char / 64 % 64 ≡ z = omega (arith, cz, cw) in
    let fourth : 128 + char % 64 ≡ w = omega (arith, cw) in
    subst IsUtf8
    (four_bytes char from ∙ ap₂ (λ s t. s ∷ t) first (ap₂ (λ s t. s ∷ t) second (ap₂ (λ s t. s ∷ t ∷ []) third fourth)))
    (IsUtf8-encode char (high_scalar char (omega (arith, from)) below))

-- ---- a text

-- each may follow the three before it, of which b3, b2 and b1 come before all
abbrev pub FollowAll : ℕ → ℕ → ℕ → List ℕ → Type 0
FollowAll b3 b2 b1 bytes =
    (i : ℕ) → i < length bytes → Follows (slice_index (b3 ∷ b2 ∷ b1 ∷ bytes) i) (slice_index (b2 ∷ b1 ∷ bytes) i) (slice_index (b1 ∷ bytes) i) (slice_index bytes i)

-- every character that begins in the last three bytes ends there
pub record EndsWhole (bytes : List ℕ) : Type 0 where
  pub one : (i : ℕ) → suc i ≡ length bytes → slice_index bytes i < 0xC0
  pub two : (i : ℕ) → suc (suc i) ≡ length bytes → slice_index bytes i < 0xE0
  pub three : (i : ℕ) → suc (suc (suc i)) ≡ length bytes → slice_index bytes i < 0xF0

rest-whole : (x : ℕ) (bytes : List ℕ) → EndsWhole (x ∷ bytes) → EndsWhole bytes
rest-whole x bytes whole = record {
  one = λ i e. whole.one (suc i) (omega (arith, e));
  two = λ i e. whole.two (suc i) (omega (arith, e));
  three = λ i e. whole.three (suc i) (omega (arith, e));
}

-- after the end of a character the next byte is ASCII or begins a character
begins : (b3 b2 b1 x : ℕ) → b3 < 0xF0 → b2 < 0xE0 → b1 < 0xC0 → Follows b3 b2 b1 x → (x < 0x80) ⊎ ((0xC2 ≤ x) × (x < 0xF5))
begins b3 b2 b1 x three two one follows = ⊎_elim
    (λ (a : x < 0x80). inl a)
    (λ (a : 0x80 ≤ x). ⊎_elim
    (λ (b : x < 0xC0). absurd (⊎_elim
    (λ (d : 0xC0 ≤ b1). omega (arith, one, d))
    (λ d. ⊎_elim (λ (d : 0xE0 ≤ b2). omega (arith, two, d)) (λ (d : 0xF0 ≤ b3). omega (arith, three, d)) d)
    (follows.continues.1 (a, b))))
    (λ b. inr b)
    follows.begins)
    (cases_lt x 0x80)

behind-one : (b3 b2 b1 : ℕ) (y : ℕ) (bytes : List ℕ) → FollowAll b3 b2 b1 (y ∷ bytes) → FollowAll b2 b1 y bytes
behind-one b3 b2 b1 y bytes follow i below = follow (suc i) (omega arith)

-- the bytes after a whole character, and after one, two and three bytes of another
record Rest (bytes : List ℕ) : Type 0 where
  none : (b3 b2 b1 : ℕ) → b3 < 0xF0 → b2 < 0xE0 → b1 < 0xC0 → FollowAll b3 b2 b1 bytes → EndsWhole bytes → IsUtf8 bytes
  one : (b2 b1 x : ℕ) → b1 < 0xF0 → 0xC2 ≤ x → x < 0xF5 → FollowAll b2 b1 x bytes → EndsWhole (x ∷ bytes) → IsUtf8 (x ∷ bytes)
  two : (b2 b1 x y : ℕ) → 0xE0 ≤ x → x < 0xF5 → IsContinuation y → Follows b2 b1 x y → FollowAll b1 x y bytes → EndsWhole (x ∷ y ∷ bytes) → IsUtf8 (x ∷ y ∷ bytes)
  three : (b2 b1 x y z : ℕ) → 0xF0 ≤ x → x < 0xF5 → IsContinuation y → IsContinuation z → Follows b2 b1 x y → FollowAll x y z bytes → EndsWhole (x ∷ y ∷ z ∷ bytes)
      → IsUtf8 (x ∷ y ∷ z ∷ bytes)

rest : (bytes : List ℕ) → Rest bytes
rest [] = record {
  none = λ b3 b2 b1 p q r follow whole. IsUtf8-nil;
  one = λ b2 b1 x p a b follow whole. absurd (omega (arith, a, whole.one 0 refl));
  two = λ b2 b1 x y a b cy second follow whole. absurd (omega (arith, a, whole.two 0 refl));
  three = λ b2 b1 x y z a b cy cz second follow whole. absurd (omega (arith, a, whole.three 0 refl));
}
rest (w ∷ bytes) =
    let more = rest bytes in
    record {
      none = λ b3 b2 b1 p q r follow whole. ⊎_elim
          (λ (a : w < 0x80). IsUtf8-append (w ∷ []) bytes (one-utf8 w a)
          (more.none b2 b1 w (omega (arith, q)) (omega (arith, r)) (omega (arith, a)) (behind-one b3 b2 b1 w bytes follow) (rest-whole w bytes whole)))
          (λ (a : (0xC2 ≤ w) × (w < 0xF5)). more.one b2 b1 w (omega (arith, r)) a.0 a.1 (behind-one b3 b2 b1 w bytes follow) whole)
          (begins b3 b2 b1 w p q r (follow 0 (omega arith)));
      one = λ b2 b1 x p a b follow whole.
          let here = follow 0 (omega arith) in
          let cont : IsContinuation w = here.continues.0 (inl (omega (arith, a))) in
          let next = behind-one b2 b1 x w bytes follow in
          ⊎_elim
          (λ (low : x < 0xE0). IsUtf8-append (x ∷ w ∷ []) bytes (two-utf8 x w a low cont)
          (more.none b1 x w p low cont.1 next (rest-whole w bytes (rest-whole x (w ∷ bytes) whole))))
          (λ (high : 0xE0 ≤ x). more.two b2 b1 x w high b cont here next whole)
          (cases_lt x 0xE0);
      two = λ b2 b1 x y a b cy second follow whole.
          let cont : IsContinuation w = (follow 0 (omega arith)).continues.0 (inr (inl a)) in
          let next = behind-one b1 x y w bytes follow in
          ⊎_elim
          (λ (low : x < 0xF0). IsUtf8-append (x ∷ y ∷ w ∷ []) bytes (three-utf8 x y w a low cy cont second.after_E0 second.after_ED)
          (more.none x y w low (omega (arith, cy)) cont.1 next (rest-whole w bytes (rest-whole y (w ∷ bytes) (rest-whole x (y ∷ w ∷ bytes) whole)))))
          (λ (high : 0xF0 ≤ x). more.three b2 b1 x y w high b cy cont second next whole)
          (cases_lt x 0xF0);
      three = λ b2 b1 x y z a b cy cz second follow whole.
          let cont : IsContinuation w = (follow 0 (omega arith)).continues.0 (inr (inr a)) in
          IsUtf8-append (x ∷ y ∷ z ∷ w ∷ []) bytes (four-utf8 x y z w a b cy cz cont second.after_F0 second.after_F4)
          (more.none y z w (omega (arith, cy)) (omega (arith, cz)) cont.1 (behind-one x y z w bytes follow)
          (rest-whole w bytes (rest-whole z (w ∷ bytes) (rest-whole y (z ∷ w ∷ bytes) (rest-whole x (y ∷ z ∷ w ∷ bytes) whole)))));
    }

pub text-utf8 : (bytes : List ℕ) → FollowAll 0 0 0 bytes → EndsWhole bytes → IsUtf8 bytes
text-utf8 bytes follow whole = (rest bytes).none 0 0 0 (omega arith) (omega arith) (omega arith) follow whole

-- ---- the bytes of a text

-- the first byte of a character, after the end of another
follow-first : (b3 b2 b1 x : ℕ) → b3 < 0xF0 → b2 < 0xE0 → b1 < 0xC0 → (x < 0x80) ⊎ ((0xC2 ≤ x) × (x < 0xF5)) → Follows b3 b2 b1 x
follow-first b3 b2 b1 x three two one is = record {
  continues = (
    (λ lead. absurd (⊎_elim
        (λ (d : 0xC0 ≤ b1). omega (arith, one, d))
        (λ d. ⊎_elim (λ (d : 0xE0 ≤ b2). omega (arith, two, d)) (λ (d : 0xF0 ≤ b3). omega (arith, three, d)) d)
        lead)),
    (λ cont. absurd (⊎_elim (λ (a : x < 0x80). omega (arith, a, cont.0)) (λ (a : (0xC2 ≤ x) × (x < 0xF5)). omega (arith, a.0, cont.1)) is)),
  );
  begins = ⊎_elim (λ (a : x < 0x80). inl (omega (arith, a))) (λ a. inr a) is;
  after_E0 = λ e. absurd (omega (arith, one, e));
  after_ED = λ e. absurd (omega (arith, one, e));
  after_F0 = λ e. absurd (omega (arith, one, e));
  after_F4 = λ e. absurd (omega (arith, one, e));
}

-- the second byte, and a later one
follow-second : (b3 b2 x y : ℕ) → 0xC0 ≤ x → IsContinuation y → (x ≡ 0xE0 → 0xA0 ≤ y) → (x ≡ 0xED → y < 0xA0) → (x ≡ 0xF0 → 0x90 ≤ y) → (x ≡ 0xF4 → y < 0x90) → Follows b3 b2 x y
follow-second b3 b2 x y lead cont e0 ed f0 f4 = record {
  continues = ((λ some. cont), (λ is. inl lead));
  begins = inl cont.1;
  after_E0 = e0;
  after_ED = ed;
  after_F0 = f0;
  after_F4 = f4;
}

follow-later : (b3 b2 b1 y : ℕ) → b1 < 0xC0 → (0xE0 ≤ b2) ⊎ (0xF0 ≤ b3) → IsContinuation y → Follows b3 b2 b1 y
follow-later b3 b2 b1 y one lead cont = record {
  continues = ((λ some. cont), (λ is. inr lead));
  begins = inl cont.1;
  after_E0 = λ e. absurd (omega (arith, one, e));
  after_ED = λ e. absurd (omega (arith, one, e));
  after_F0 = λ e. absurd (omega (arith, one, e));
  after_F4 = λ e. absurd (omega (arith, one, e));
}

follow-cons : (b3 b2 b1 x : ℕ) (bytes : List ℕ) → Follows b3 b2 b1 x → FollowAll b2 b1 x bytes → FollowAll b3 b2 b1 (x ∷ bytes)
follow-cons b3 b2 b1 x bytes first rest zero below = first
follow-cons b3 b2 b1 x bytes first rest (suc i) below = rest i (omega (arith, below))

-- after the end of any character
abbrev FollowEnd : List ℕ → Type 0
FollowEnd bytes = (b3 b2 b1 : ℕ) → b3 < 0xF0 → b2 < 0xE0 → b1 < 0xC0 → FollowAll b3 b2 b1 bytes

follow-char : (c : ℕ) (bytes : List ℕ) → IsScalar c → FollowEnd bytes → FollowEnd (encode c ++ bytes)
follow-char c bytes scalar more b3 b2 b1 three two one = ⊎_elim
    (λ (a : c < 0x80).
    subst (λ t. FollowAll b3 b2 b1 (t ++ bytes)) (sym (one_byte c a))
    (follow-cons b3 b2 b1 c bytes (follow-first b3 b2 b1 c three two one (inl a)) (more b2 b1 c (omega (arith, two)) (omega (arith, one)) (omega (arith, a)))))
    (λ (a : 0x80 ≤ c). ⊎_elim
    (λ (b : c < 0x800).
    let x = 192 + c / 64 in
    let y = 128 + c % 64 in
    subst (λ t. FollowAll b3 b2 b1 (t ++ bytes)) (sym (two_bytes c a b))
    (follow-cons b3 b2 b1 x (y ∷ bytes) (follow-first b3 b2 b1 x three two one (inr (omega (arith, a), omega (arith, b))))
    (follow-cons b2 b1 x y bytes
    (follow-second b2 b1 x y (omega arith) (omega arith, omega arith) (λ e. absurd (omega (arith, b, e))) (λ e. absurd (omega (arith, b, e))) (λ e. absurd (omega (arith, b, e))) (λ e. absurd (omega (arith, b, e))))
    (more b1 x y (omega (arith, one)) (omega (arith, b)) (omega arith)))))
    (λ (b : 0x800 ≤ c). ⊎_elim
    (λ (d : c < 0x1_0000).
    let x = 224 + c / 4096 in
    let y = 128 + c / 64 % 64 in
    let z = 128 + c % 64 in
    let most : x ≡ 0xED → y < 0xA0 = λ e. ⊎_elim (λ (low : c < 0xD800). omega (arith, e, low)) (λ (high : (0xE000 ≤ c) × (c < 0x11_0000)). omega (arith, e, high.0)) (no_surrogate c scalar) in
    subst (λ t. FollowAll b3 b2 b1 (t ++ bytes)) (sym (three_bytes c b d))
    (follow-cons b3 b2 b1 x (y ∷ z ∷ bytes) (follow-first b3 b2 b1 x three two one (inr (omega arith, omega (arith, d))))
    (follow-cons b2 b1 x y (z ∷ bytes)
    (follow-second b2 b1 x y (omega arith) (omega arith, omega arith) (λ e. omega (arith, b, e)) most (λ e. absurd (omega (arith, d, e))) (λ e. absurd (omega (arith, d, e))))
    (follow-cons b1 x y z bytes (follow-later b1 x y z (omega arith) (inl (omega arith)) (omega arith, omega arith))
    (more x y z (omega (arith, d)) (omega arith) (omega arith))))))
    (λ (d : 0x1_0000 ≤ c).
    let top : c < 0x11_0000 = ⊎_elim (λ (low : c < 0xD800). omega (arith, low)) (λ (high : (0xE000 ≤ c) × (c < 0x11_0000)). high.1) (no_surrogate c scalar) in
    let x = 240 + c / 262144 in
    let y = 128 + c / 4096 % 64 in
    let z = 128 + c / 64 % 64 in
    let w = 128 + c % 64 in
    subst (λ t. FollowAll b3 b2 b1 (t ++ bytes)) (sym (four_bytes c d))
    (follow-cons b3 b2 b1 x (y ∷ z ∷ w ∷ bytes) (follow-first b3 b2 b1 x three two one (inr (omega arith, omega (arith, top))))
    (follow-cons b2 b1 x y (z ∷ w ∷ bytes)
    (follow-second b2 b1 x y (omega arith) (omega arith, omega arith) (λ e. absurd (omega (arith, e))) (λ e. absurd (omega (arith, e))) (λ e. omega (arith, d, e)) (λ e. omega (arith, top, e)))
    (follow-cons b1 x y z (w ∷ bytes) (follow-later b1 x y z (omega arith) (inl (omega arith)) (omega arith, omega arith))
    (follow-cons x y z w bytes (follow-later x y z w (omega arith) (inr (omega arith)) (omega arith, omega arith))
    (more y z w (omega arith) (omega arith) (omega arith)))))))
    (cases_lt c 0x1_0000))
    (cases_lt c 0x800))
    (cases_lt c 0x80)

follow-text : (text : List ℕ) → All IsScalar text → FollowEnd (encode_utf8_all text)
follow-text [] scalars b3 b2 b1 three two one = λ i below. absurd (omega (arith, below))
follow-text (c ∷ text) scalars b3 b2 b1 three two one = follow-char c (encode_utf8_all text) (All-head IsScalar c text scalars) (follow-text text (All-tail IsScalar c text scalars)) b3 b2 b1 three two one

-- the next bytes of a text that is left
pub text-follows : (bytes : List ℕ) (at n : ℕ) → IsUtf8 (drop at bytes) → at + n ≤ length bytes → FollowTo n bytes at
text-follows bytes at n utf8 within i below =
    let all : FollowAll 0 0 0 (drop at bytes) =
    subst (FollowAll 0 0 0) (encodes-chars (drop at bytes) utf8) (follow-text (chars (drop at bytes)) (scalars-of (drop at bytes) utf8) 0 0 0 (omega arith) (omega arith) (omega arith)) in
    follows-at _ _ _ _ _ _ _ _ refl refl refl (sym (get_or-drop at bytes i 0)) (all i (omega (arith, within, below, length-drop at bytes)))

-- the bytes of a text after the start of it that is a text
pub rest-follows : (bytes : List ℕ) (at n : ℕ) → IsUtf8 bytes → IsUtf8 (take at bytes) → at + n ≤ length bytes → FollowTo n bytes at
rest-follows bytes at n utf8 begun within = text-follows bytes at n (IsUtf8-drop bytes at utf8 (IsCharBoundary-from_take bytes at utf8 (omega (arith, within)) begun)) within
