-- Unpaired surrogates replaced one after another: the text and the number of replacements before an
-- offset.
use Rattle.std.proofs.Common.{◌≡◌, ℕ, suc, ◌+◌, ◌-◌, ◌*◌, ◌%◌, ◌<◌, ◌≤◌, Bool, true, false, List, [], ◌∷◌, ◌++◌, Option, None, Some, length, map, take, drop, refl, sym, ap, ap₂, ◌∙◌, subst, arith, append-nil, append_assoc, length-drop, length-take-le, take-add, take_all, take-append-drop, if◌then◌else◌}
use Rattle.std.specs.Char.Utf16.{is_high_surrogate}
use Rattle.std.proofs.lemmas.List.{drop-drop, drop_all, take_rest}
use Rattle.utf16_units.specs.Unit.{unit_bytes}
use Rattle.utf16_units.specs.Encoding.{IsUtf16, encode, text_of}
use Rattle.utf16_units.specs.IllFormed.{BeginsWithChar, IsIllFormedAt, IsIncomplete}
use Rattle.utf16_units.specs.Split.{Item, good, lone_lead, lone_trail, lossy_text, split_items, split_tail, whole_lossy_chars}
use Rattle.utf16_units.proofs.BackChar.{length-even}
use Rattle.utf16_units.proofs.CharLemmas.{one_unit_bytes}
use Rattle.utf16_units.proofs.EncodingLemmas.{Encodes-text_of, IsUtf16-char, IsUtf16-nil, encode-append, encode-nil, encode-one, encode-text_of, text_of-nil}
use Rattle.utf16_units.proofs.FirstChar.{AreBytes, first_unit}
use Rattle.utf16_units.proofs.IllFormedLemmas.{faults, rest_from}
use Rattle.utf16_units.proofs.RecipeLemmas.{lossy_char-lone_item, lossy_chars-good, two}
use Rattle.utf16_units.proofs.SplitIllFormed.{AreBytes-drop, lone_item, split_items-fault, split_items-incomplete, split_tail-fault, split_tail-incomplete}
use Rattle.utf16_units.proofs.SplitJoin.{split_items-text, split_tail-text}
use Rattle.utf16_transcode.specs.Unpaired.{lone_items, lone_tail, unpaired}
use Rattle.utf16_transcode.proofs.ToUtf8Parts.{nil_text, tail_text, whole_lossy_chars-append}

-- characters are not unpaired surrogates
pub lone_items-good : (text : List ℕ) (items : List Item) → lone_items (map good text ++ items) ≡ lone_items items
unfolding lone_items
lone_items-good [] items = refl
lone_items-good (c ∷ text) items = lone_items-good text items

-- an unpaired surrogate counts as one
pub lone_items-lone : (unit : ℕ) (items : List Item) → lone_items (lone_item unit ∷ items) ≡ suc (lone_items items)
unfolding lone_items
lone_items-lone unit items = by_class (is_high_surrogate unit) where
  by_class : (leading : Bool) → lone_items ((if leading then lone_lead unit else lone_trail unit) ∷ items) ≡ suc (lone_items items)
  by_class true = refl
  by_class false = refl

-- no bytes have no unpaired surrogate
nil_unpaired : (big : Bool) → unpaired big [] ≡ 0
unfolding lone_items split_items split_tail
nil_unpaired big = refl

-- a whole unit that is truncated is a leading unit
one_unit : (big : Bool) (last : List ℕ) → IsIncomplete big last → length last % 2 ≡ 0 → (length last ≡ 2) × (lone_items [] + lone_tail last ≡ 1)
unfolding lone_items
one_unit big [] cut even = absurd cut
one_unit big (first ∷ []) cut even = absurd (omega (arith, even))
one_unit big (first ∷ second ∷ after) cut even = (omega (arith, cut.1, even), refl)

module _ (big : Bool) (rest : List ℕ) where
  -- a text, and what follows it
  module _ (n : ℕ) (valid : IsUtf16 big (take n rest)) where
    abbrev text : List ℕ
    text = text_of big (take n rest)

    text_items : split_items big rest ≡ map good text ++ split_items big (drop n rest)
    text_items = ap (split_items big) (sym (take-append-drop n rest)) ∙ split_items-text big text (take n rest) (drop n rest) (Encodes-text_of big (take n rest) valid)

    text_tail : split_tail big rest ≡ split_tail big (drop n rest)
    text_tail = ap (split_tail big) (sym (take-append-drop n rest)) ∙ split_tail-text big text (take n rest) (drop n rest) (Encodes-text_of big (take n rest) valid)

    text_shown : lossy_text big rest ≡ text ++ lossy_text big (drop n rest)
    text_shown =
        ap₂ whole_lossy_chars text_items text_tail ∙ whole_lossy_chars-append (map good text) (split_items big (drop n rest)) (split_tail big (drop n rest))
        ∙ ap (λ t. t ++ lossy_text big (drop n rest)) (lossy_chars-good text)

    text_counted : unpaired big rest ≡ unpaired big (drop n rest)
    text_counted = omega (arith, ap₂ (λ i t. lone_items i + lone_tail t) text_items text_tail, lone_items-good text (split_items big (drop n rest)))

  -- an unpaired surrogate, which may be a leading one at the end, and what follows it
  record Lone : Type 0 where
    shown : lossy_text big rest ≡ 0xFFFD ∷ lossy_text big (drop 2 rest)
    counted : unpaired big rest ≡ suc (unpaired big (drop 2 rest))

  module _ (are : AreBytes rest) (some : 0 < length rest) (even : length rest % 2 ≡ 0) where
    lone : (len : Option ℕ) → IsIllFormedAt big rest len → Lone
    lone (Some len) here =
        let fault = faults big rest 0 (Some len) some (IsUtf16-nil big) (subst (λ b. IsIllFormedAt big b (Some len)) (sym (take_rest rest 0)) here) in
        let unit = first_unit big rest in
        let after = drop 2 rest in
        let none = ap (map good) (text_of-nil big) in
        let items : split_items big rest ≡ lone_item unit ∷ split_items big after = split_items-fault big rest 0 are (two fault.1) fault.0 ∙ ap (λ i. i ++ lone_item unit ∷ split_items big after) none in
        let tail = split_tail-fault big rest 0 are (two fault.1) fault.0 in
        record {
          shown =
              ap₂ whole_lossy_chars items tail ∙ whole_lossy_chars-append (lone_item unit ∷ []) (split_items big after) (split_tail big after)
              ∙ ap (λ c. c ∷ lossy_text big after) (lossy_char-lone_item unit);
          counted = omega (arith, ap₂ (λ i t. lone_items i + lone_tail t) items tail, lone_items-lone unit (split_items big after));
        }
    lone None here =
        let fault = faults big rest 0 None some (IsUtf16-nil big) (subst (λ b. IsIllFormedAt big b None) (sym (take_rest rest 0)) here) in
        let items = split_items-incomplete big rest 0 fault.1 fault.0 ∙ ap (map good) (text_of-nil big) in
        let tail = split_tail-incomplete big rest 0 fault.1 fault.0 in
        let last = one_unit big rest here.1 even in
        let none = drop_all 2 rest (omega (arith, last.0)) in
        record {
          shown = tail_text big rest (λ empty. omega (arith, some, ap length empty)) tail ∙ ap (λ t. 0xFFFD ∷ t) (sym (ap (lossy_text big) none ∙ nil_text big));
          counted = ap₂ (λ i t. lone_items i + lone_tail t) items tail ∙ last.1 ∙ ap suc (sym (ap (unpaired big) none ∙ nil_unpaired big));
        }

-- ---- what is done before an offset

-- the bytes before it are the text of the old bytes there, and the bytes from it on are unchanged
pub record Mended (big : Bool) (old now : List ℕ) (at count : ℕ) : Type 0 where
  text : List ℕ
  pub long : length now ≡ length old
  pub within : at ≤ length old
  pub few : 2 * count ≤ at
  pub even : (length old - at) % 2 ≡ 0
  pub written : take at now ≡ encode big text
  pub left : drop at now ≡ drop at old
  shown : lossy_text big old ≡ text ++ lossy_text big (drop at old)
  counted : unpaired big old ≡ count + unpaired big (drop at old)

pub Mended-none : (big : Bool) (old : List ℕ) → length old % 2 ≡ 0 → Mended big old old 0 0
Mended-none big old even = record {
  text = [];
  long = refl;
  within = omega arith;
  few = omega arith;
  even = omega (arith, even);
  written = sym (encode-nil big);
  left = refl;
  shown = refl;
  counted = omega arith;
}

module _ (big : Bool) (old now : List ℕ) (at count : ℕ) (before : Mended big old now at count) where
  -- all is done
  module _ (all : length old ≤ at) where
    pub mended_bytes : now ≡ encode big (lossy_text big old)
    mended_bytes =
        sym (take_all at now (omega (arith, all, before.long))) ∙ before.written
        ∙ ap (encode big) (sym (before.shown ∙ ap (λ b. before.text ++ lossy_text big b) (drop_all at old all) ∙ ap (λ t. before.text ++ t) (nil_text big) ∙ append-nil before.text))

    pub mended_count : count ≡ unpaired big old
    mended_count = omega (arith, before.counted, ap (unpaired big) (drop_all at old all), nil_unpaired big)

  abbrev rest : List ℕ
  rest = drop at old

  -- what is left is unchanged
  as_before : rest_from now at ≡ rest
  as_before = take_rest now at ∙ before.left

  -- a text follows
  pub Mended-text : (n : ℕ) → n ≤ length (rest_from now at) → IsUtf16 big (take n (rest_from now at)) → Mended big old now (at + n) count
  Mended-text n inside text =
      let valid = subst (λ b. IsUtf16 big (take n b)) as_before text in
      let within = subst (λ b. n ≤ length b) as_before inside in
      let front = text_of big (take n rest) in
      record {
        text = before.text ++ front;
        long = before.long;
        within = omega (arith, before.within, within, length-drop at old);
        few = omega (arith, before.few);
        even = omega (arith, before.even, length-take-le n rest within, length-even big (take n rest) valid);
        written =
            take-add at n now ∙ ap₂ (λ t u. t ++ u) before.written (ap (take n) before.left ∙ sym (encode-text_of big (take n rest) valid))
            ∙ sym (encode-append big before.text front);
        left = sym (drop-drop n at now) ∙ ap (drop n) before.left ∙ drop-drop n at old;
        shown =
            before.shown ∙ ap (λ t. before.text ++ t) (text_shown big rest n valid ∙ ap (λ b. front ++ lossy_text big b) (drop-drop n at old))
            ∙ sym (append_assoc before.text front (lossy_text big (drop (at + n) old)));
        counted = omega (arith, before.counted, text_counted big rest n valid, ap (unpaired big) (drop-drop n at old));
      }

  -- a character follows
  pub Mended-char : (n : ℕ) → BeginsWithChar big (rest_from now at) n → Mended big old now (at + n) count
  Mended-char n first = Mended-text n first.within (subst (IsUtf16 big) (sym first.spelled) (IsUtf16-char big first.char first.scalar))

  -- an unpaired surrogate was replaced
  pub Mended-lone : (new : List ℕ) (len : Option ℕ) → AreBytes old → at < length old → IsIllFormedAt big (rest_from now at) len → length new ≡ length now
      → take (at + 2) new ≡ take at now ++ unit_bytes big 0xFFFD → drop (at + 2) new ≡ drop (at + 2) now → Mended big old new (at + 2) (count + 1)
  Mended-lone new len are some fault same put behind =
      let here = lone big rest (AreBytes-drop at old are) (omega (arith, some, length-drop at old)) (omega (arith, before.even, length-drop at old)) len
      (subst (λ b. IsIllFormedAt big b len) as_before fault) in
      record {
        text = before.text ++ 0xFFFD ∷ [];
        long = same ∙ before.long;
        within = omega (arith, some, before.even);
        few = omega (arith, before.few);
        even = omega (arith, before.even);
        written =
            put ∙ ap₂ (λ t u. t ++ u) before.written (sym (one_unit_bytes big 0xFFFD (omega arith)) ∙ sym (encode-one big 0xFFFD))
            ∙ sym (encode-append big before.text (0xFFFD ∷ []));
        left = behind ∙ sym (drop-drop 2 at now) ∙ ap (drop 2) before.left ∙ drop-drop 2 at old;
        shown =
            before.shown ∙ ap (λ t. before.text ++ t) (here.shown ∙ ap (λ b. 0xFFFD ∷ lossy_text big b) (drop-drop 2 at old))
            ∙ sym (append_assoc before.text (0xFFFD ∷ []) (lossy_text big (drop (at + 2) old)));
        counted = omega (arith, before.counted, here.counted, ap (unpaired big) (drop-drop 2 at old));
      }
