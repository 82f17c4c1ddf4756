-- A text and its bytes repeated.
use Rattle.std.proofs.Common.{◌≡◌, ℕ, zero, suc, ◌+◌, ◌*◌, Bool, List, [], ◌∷◌, ◌++◌, length, refl, ap, ◌∙◌, arith, length-append}
use Rattle.std.proofs.lemmas.List.Elements.{All-nil}
use Rattle.std.specs.Char.{IsScalar}
use Rattle.std.specs.List.{repeat}
use Rattle.utf16_units.specs.Encoding.{Encodes, size}
use Rattle.utf16_units.proofs.BoundaryLemmas.{char_size-pos}
use Rattle.utf16_str.proofs.TrimMatches.{repeat-push}
use Rattle.utf16_units.proofs.EncodingLemmas.{Encodes-append, encode-nil, size-cons}

pub Encodes-repeat : (big : Bool) (text bytes : List ℕ) (n : ℕ) → Encodes big text bytes → Encodes big (repeat n text) (repeat n bytes)
Encodes-repeat big text bytes zero e = record { scalars = All-nil IsScalar; spelled = encode-nil big }
Encodes-repeat big text bytes (suc n) e = Encodes-append big text (repeat n text) bytes (repeat n bytes) e (Encodes-repeat big text bytes n e)

pub repeat-more : (n : ℕ) (xs : List ℕ) → repeat n xs ++ xs ≡ repeat (n + 1) xs
repeat-more n xs = let more : suc n ≡ n + 1 = omega arith in repeat-push n xs ∙ ap (λ k. repeat k xs) more

repeat-nil : (n : ℕ) → ◌≡◌ {A = List ℕ} [] (repeat n [])
repeat-nil zero = refl
repeat-nil (suc n) = repeat-nil n

-- an empty text, or none of it
pub repeat-none : (n : ℕ) (text : List ℕ) → size text * n ≡ 0 → [] ≡ repeat n text
repeat-none zero text none = refl
repeat-none (suc n) [] none = repeat-nil (suc n)
repeat-none (suc n) (c ∷ text) none = absurd (omega (arith, none, size-cons c text, char_size-pos c))
