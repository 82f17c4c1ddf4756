-- Boundaries and substrings of a text: of one text, of one with more appended, and of one in which
-- a part was found.
use Rattle.std.proofs.Common.{◌≡◌, ℕ, ◌+◌, ◌-◌, ◌%◌, ◌≤◌, List, [], ◌++◌, refl, sym, ap, ap₂, ◌∙◌, arith, append_assoc, append-nil}
use Rattle.utf16_units.specs.Boundary.{CutAt, IsBoundary, text_between, text_from, text_to}
use Rattle.utf16_units.specs.Encoding.{size}
use Rattle.utf16_units.proofs.BackChar.{size-even}
use Rattle.utf16_units.proofs.BoundaryLemmas.{IsBoundary-rest, IsBoundary-start, IsBoundary-within, size-text_to, text_between-end, text_from-at, text_from-back, text_to-at, text_to-front, text_to-text_from}
use Rattle.utf16_units.proofs.EncodingLemmas.{size-append, size-nil}

-- the substring from the start to an offset is the prefix before it
pub text_between-start : (text : List ℕ) (i : ℕ) → text_between text 0 i ≡ text_to text i
text_between-start text i = ap₂ text_to (text_from-at [] text 0 size-nil) (omega arith)

pub text_between-whole : (text : List ℕ) → text_between text 0 (size text) ≡ text
text_between-whole text = text_between-end text 0 (IsBoundary-start text) ∙ text_from-at [] text 0 size-nil

pub IsBoundary-even : (text : List ℕ) (i : ℕ) → IsBoundary text i → i % 2 ≡ 0
IsBoundary-even text i b = omega (arith, b.offset, size-even b.front)

pub cut_at : (text : List ℕ) (i : ℕ) → IsBoundary text i → CutAt text i
cut_at text i b =
    let joined = text_to-text_from text i in
    let front_size = size-text_to text i b in
    record {
      even = IsBoundary-even text i b;
      within = IsBoundary-within text i b;
      joined = joined;
      front_size = front_size;
      back_size = omega (arith, ap size joined, size-append (text_to text i) (text_from text i), front_size);
      front_between = text_between-start text i;
      back_between = text_between-end text i b;
    }

-- ---- with more appended

pub IsBoundary-append : (text more : List ℕ) (i : ℕ) → IsBoundary text i → IsBoundary (text ++ more) i
IsBoundary-append text more i b = record {
  front = b.front;
  back = b.back ++ more;
  split = sym (append_assoc b.front b.back more) ∙ ap (λ t. t ++ more) b.split;
  offset = b.offset;
}

pub IsBoundary-seam : (text more : List ℕ) → IsBoundary (text ++ more) (size text)
IsBoundary-seam text more = record { front = text; back = more; split = refl; offset = refl }

pub text_to-append : (text more : List ℕ) (i : ℕ) → IsBoundary text i → text_to (text ++ more) i ≡ text_to text i
unfolding IsBoundary-append
text_to-append text more i b = text_to-front (text ++ more) i (IsBoundary-append text more i b) ∙ sym (text_to-front text i b)

pub text_from-append : (text more : List ℕ) (i : ℕ) → IsBoundary text i → text_from (text ++ more) i ≡ text_from text i ++ more
unfolding IsBoundary-append
text_from-append text more i b =
    text_from-back (text ++ more) i (IsBoundary-append text more i b) ∙ ap (λ t. t ++ more) (sym (text_from-back text i b))

pub text_between-append : (text more : List ℕ) (i j : ℕ) → i ≤ j → IsBoundary text i → IsBoundary text j
    → text_between (text ++ more) i j ≡ text_between text i j
text_between-append text more i j le a b =
    ap (λ t. text_to t (j - i)) (text_from-append text more i a)
    ∙ text_to-append (text_from text i) more (j - i) (IsBoundary-rest text i j le a b)

-- what was appended is the substring after the text
pub text_between-behind : (text more : List ℕ) → text_between (text ++ more) (size text) (size text + size more) ≡ more
text_between-behind text more =
    let cut : size more ≡ size text + size more - size text = omega arith in
    ap (λ t. text_to t (size text + size more - size text)) (text_from-at text more (size text) refl ∙ sym (append-nil more))
    ∙ text_to-at more [] (size text + size more - size text) cut
