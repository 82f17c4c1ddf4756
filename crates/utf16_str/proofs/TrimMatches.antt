-- A part taken off the ends of a text, as often as it is there.
use Rattle.std.proofs.Common.{◌≡◌, ℕ, zero, suc, ◌<◌, List, ◌++◌, length, length-append, refl, sym, ap, ◌∙◌, arith, append_assoc, append-nil}
use Rattle.std.specs.List.{repeat}

-- the part was taken off a number of times
pub record IsTakenStart (part text left : List ℕ) : Type 0 where
  pub times : ℕ
  pub split : text ≡ repeat times part ++ left

pub record IsTakenEnd (part text left : List ℕ) : Type 0 where
  pub times : ℕ
  pub split : text ≡ left ++ repeat times part

pub taken-start : (part text : List ℕ) → IsTakenStart part text text
taken-start part text = record { times = 0; split = refl }

pub taken-end : (part text : List ℕ) → IsTakenEnd part text text
taken-end part text = record { times = 0; split = sym (append-nil text) }

pub repeat-push : (n : ℕ) (part : List ℕ) → repeat n part ++ part ≡ part ++ repeat n part
repeat-push zero part = sym (append-nil part)
repeat-push (suc n) part = append_assoc part (repeat n part) part ∙ ap (λ t. part ++ t) (repeat-push n part)

pub taken-start-more : (part text left rest : List ℕ) → IsTakenStart part text left → left ≡ part ++ rest → IsTakenStart part text rest
taken-start-more part text left rest taken is = record {
  times = suc taken.times;
  split = taken.split ∙ ap (λ t. repeat taken.times part ++ t) is ∙ sym (append_assoc (repeat taken.times part) part rest)
      ∙ ap (λ t. t ++ rest) (repeat-push taken.times part);
}

pub taken-end-more : (part text left front : List ℕ) → IsTakenEnd part text left → left ≡ front ++ part → IsTakenEnd part text front
taken-end-more part text left front taken is = record {
  times = suc taken.times;
  split = taken.split ∙ ap (λ t. t ++ repeat taken.times part) is ∙ append_assoc front part (repeat taken.times part);
}

-- what is left is shorter, if the part is not empty
pub shorter : (part rest text : List ℕ) → text ≡ part ++ rest → 0 < length part → length rest < length text
shorter part rest text is some = omega (arith, ap length is, length-append part rest, some)

pub shorter_front : (part front text : List ℕ) → text ≡ front ++ part → 0 < length part → length front < length text
shorter_front part front text is some = omega (arith, ap length is, length-append front part, some)
