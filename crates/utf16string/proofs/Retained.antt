-- A text of which a predicate keeps some characters, while their bytes are moved down in place.
use Rattle.std.proofs.Common.{◌≡◌, ℕ, ◌+◌, ◌-◌, ◌<◌, ◌≤◌, All, Bool, List, [], ◌++◌, length, take, drop, refl, sym, ap, ◌∙◌, subst, arith, append_assoc, append-nil}
use Rattle.std.proofs.lemmas.List.Elements.{All-append, All-nil}
use Rattle.std.proofs.lemmas.List.Folds.{drop_split}
use Rattle.std.specs.Char.{IsScalar}
use Rattle.std.specs.Fn.{Mut}
use Rattle.std.specs.List.{slice_range}
use Rattle.utf16_units.specs.Encoding.{Encodes, IsUtf16, encode, text_of}
use Rattle.utf16_units.proofs.EncodingLemmas.{IsUtf16-from_Encodes, IsUtf16-rest, encode-append, encode-nil, scalars-text_of, text_of-Encodes, text_of-append, text_of-nil}
use Rattle.utf16string.specs.Kept.{KeepsNext}
use Rattle.utf16string.specs.Retain.{MayBeAsked, RetainsTo}
use Rattle.utf16string.proofs.Asked.{All-kept, MayBeAsked-back, MayBeAsked-front, RetainsTo-append}

-- the bytes from `read` on, of which the bytes before `next` are well-formed
module _ (big : Bool) (bytes : List ℕ) (read next : ℕ) (onward : read ≤ next) (whole : IsUtf16 big (slice_range bytes read next)) where
  text_of-drop : text_of big (drop read bytes) ≡ text_of big (slice_range bytes read next) ++ text_of big (drop next bytes)
  text_of-drop = ap (text_of big) (drop_split bytes read next onward) ∙ text_of-append big _ (drop next bytes) whole

  IsUtf16-drop : IsUtf16 big (drop read bytes) → IsUtf16 big (drop next bytes)
  IsUtf16-drop ahead = IsUtf16-rest big _ (drop next bytes) whole (subst (IsUtf16 big) (drop_split bytes read next onward) ahead)

module _ {F : Type 0} (calls : Mut F (ℕ × Unit {0}) Bool) (big : Bool) where
  -- the predicate is called on xs, which are the next n bytes
  module _ (f : F) (bytes : List ℕ) (read : ℕ) (xs : List ℕ) (n : ℕ) (next : Encodes big xs (take n (drop read bytes))) where
    here : Encodes big xs (slice_range bytes read (read + n))
    here = let same : n ≡ read + n - read = omega arith in subst (λ m. Encodes big xs (take m (drop read bytes))) same next

    whole : IsUtf16 big (slice_range bytes read (read + n))
    whole = IsUtf16-from_Encodes _ _ _ here

    -- it may be called on them, if it may be called on all that follows
    pub may-ask : MayBeAsked calls f (text_of big (drop read bytes)) → MayBeAsked calls f xs
    may-ask may =
        MayBeAsked-front calls f xs (text_of big (drop (read + n) bytes))
        (subst (MayBeAsked calls f) (text_of-drop big bytes read (read + n) (omega arith) whole ∙ ap (λ l. l ++ text_of big (drop (read + n) bytes)) (text_of-Encodes _ _ _ here)) may)

    -- the characters that it keeps are moved after what was kept before
    pub KeepsNext-from : (u : F) (moved : List ℕ) (kept k : ℕ) → (left : List ℕ) × RetainsTo calls f xs left u × (take k moved ≡ take kept bytes ++ encode big left)
        → drop (read + n) moved ≡ drop (read + n) bytes → KeepsNext calls big f bytes kept read u moved k (read + n)
    KeepsNext-from u moved kept k held rest = record {
      left = held.0;
      whole = whole;
      asked = subst (λ t. RetainsTo calls f t held.0 u) (sym (text_of-Encodes _ _ _ here)) held.1;
      moved = held.2;
      rest = rest;
    }

  module _ (first : F) (text : List ℕ) where
    -- the predicate was called on `done` and left the state f. What it keeps of `done` is in the
    -- first `kept` bytes, and what remains is in the bytes from `read` on
    pub record Retaining (f : F) (bytes : List ℕ) (kept read : ℕ) : Type 0 where
      pub done : List ℕ
      pub left : List ℕ
      pub split : done ++ text_of big (drop read bytes) ≡ text
      pub asked : RetainsTo calls first done left f
      pub held : Encodes big left (take kept bytes)
      pub ahead : IsUtf16 big (drop read bytes)
      pub may : MayBeAsked calls f (text_of big (drop read bytes))
      pub order : (kept ≤ read) × (read ≤ length bytes)

    -- no call was made yet
    pub Retaining-start : (bytes : List ℕ) → text_of big bytes ≡ text → IsUtf16 big bytes → MayBeAsked calls first (text_of big bytes) → Retaining first bytes 0 0
    Retaining-start bytes same ahead may = record {
      done = [];
      left = [];
      split = same;
      asked = ([], refl, refl, refl);
      held = record { scalars = All-nil IsScalar; spelled = encode-nil big };
      ahead = ahead;
      may = may;
      order = (omega arith, omega arith);
    }

    module _ (f : F) (bytes : List ℕ) (kept read : ℕ) (at : Retaining f bytes kept read) where
      -- if no bytes are left, the predicate was called on all
      module _ (none : drop read bytes ≡ []) where
        all-asked : at.done ≡ text
        all-asked = sym (append-nil at.done) ∙ ap (λ l. at.done ++ l) (sym (ap (text_of big) none ∙ text_of-nil big)) ∙ at.split

        pub Retaining-end : IsUtf16 big (take kept bytes) × RetainsTo calls first text (text_of big (take kept bytes)) f
        Retaining-end = (
          IsUtf16-from_Encodes _ _ _ at.held,
          subst (λ l. RetainsTo calls first l (text_of big (take kept bytes)) f) all-asked
              (subst (λ l. RetainsTo calls first at.done l f) (sym (text_of-Encodes _ _ _ at.held)) at.asked),
        )

      -- one step further
      pub Retaining-next : (u : F) (moved : List ℕ) (k next : ℕ) → KeepsNext calls big f bytes kept read u moved k next → read < next → k ≤ next → next ≤ length moved
          → Retaining u moved k next
      Retaining-next u moved k next step onward down within =
          let xs = text_of big (slice_range bytes read next) in
          let later = drop next bytes in
          let asked = step.asked in
          let coming = text_of-drop big bytes read next (omega arith) step.whole in
          let may = MayBeAsked-back calls f u asked.0 xs (text_of big later) asked.1 asked.2 (subst (MayBeAsked calls f) coming at.may) in
          record {
            done = at.done ++ xs;
            left = at.left ++ step.left;
            split = ap (λ l. at.done ++ xs ++ text_of big l) step.rest ∙ append_assoc at.done xs _ ∙ ap (λ l. at.done ++ l) (sym coming) ∙ at.split;
            asked = RetainsTo-append calls first f u at.done xs at.left step.left at.asked asked;
            held = record {
              scalars = All-append IsScalar at.left step.left at.held.scalars (subst (All IsScalar) (sym asked.3) (All-kept IsScalar asked.0 xs (scalars-text_of big _ step.whole)));
              spelled = encode-append big at.left step.left ∙ ap (λ l. l ++ encode big step.left) at.held.spelled ∙ sym step.moved;
            };
            ahead = subst (IsUtf16 big) (sym step.rest) (IsUtf16-drop big bytes read next (omega arith) step.whole at.ahead);
            may = subst (λ l. MayBeAsked calls u (text_of big l)) (sym step.rest) may;
            order = (down, within);
          }
