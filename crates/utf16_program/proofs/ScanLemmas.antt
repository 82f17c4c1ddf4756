-- What a scan has found so far, and what the next step adds.
use Rattle.std.proofs.Common.{◌≡◌, ℕ, ◌+◌, ◌<◌, ◌≤◌, Bool, List, [], ◌∷◌, ◌++◌, Option, None, Some, length, map, take, drop, refl, sym, ap, ◌∙◌, subst, ⊎_elim, arith, take_all, take-append-drop, append-nil, append_assoc, length-append, length-drop}
use Rattle.std.proofs.lemmas.Bool.{cases_lt}
use Rattle.std.proofs.lemmas.List.{append_cancel_left, drop-drop, drop_all, length-take-le}
use Rattle.std.specs.Prelude.{Err, MatchOption, Ok, OnErr, Result, count_by}
use Rattle.utf16_units.specs.Encoding.{IsUtf16, text_of}
use Rattle.utf16_units.specs.IllFormed.{IsIllFormed, IsIncomplete, IsUtf16ValidUpTo}
use Rattle.utf16_units.specs.Split.{Item, good, item_bytes, items_bytes, split_items, split_tail}
use Rattle.utf16_units.proofs.EncodingLemmas.{Encodes-text_of}
use Rattle.utf16_units.proofs.FirstChar.{AreBytes, first_unit}
use Rattle.utf16_units.proofs.IllFormedLemmas.{IsUtf16ValidUpTo-unique}
use Rattle.utf16_units.proofs.SplitIllFormed.{split_items-fault, split_tail-fault, split_tail-incomplete}
use Rattle.utf16_units.proofs.SplitJoin.{split_items-text, split_tail-text}
use Rattle.utf16_transcode.proofs.DecodesLemmas.{split_tail-again, undecided_items}
use Rattle.utf16_streams.proofs.StreamRules.{tail_none}
use Rattle.utf16_program.specs.Report.{ill_formed_line, ill_formed_lines, is_char, is_ill_formed}
use Rattle.utf16_program.specs.Scans.{BeginsLone, IsFront, Scans, lone}
use Rattle.utf16_program.specs.declared.scan.Found.{Found}
use Rattle.utf16_program.specs.declared.scan.Front.{Front}
use Rattle.utf16_program.proofs.ItemLemmas.{chars-good, count-append, ill_formed_lines-append, ill_formed_lines-good, ill_formed-good, few_chars, length-good, length-items_bytes, lone-bytes, lone-chars, lone-ill_formed}

-- the first `taken` bytes are the items so far, whose lines were appended
pub record Scanned (big : Bool) (offset : ℕ) (bytes old new : List ℕ) (taken chars unpaired : ℕ) : Type 0 where
  pub items : List Item
  pub first : split_items big bytes ≡ items ++ split_items big (drop taken bytes)
  pub tail : split_tail big bytes ≡ split_tail big (drop taken bytes)
  pub long : taken ≡ length (items_bytes big items)
  pub within : taken ≤ length bytes
  pub good : chars ≡ count_by is_char items
  pub bad : unpaired ≡ count_by is_ill_formed items
  pub few : chars + unpaired ≤ taken
  pub text : new ≡ old ++ ill_formed_lines big offset items

pub OnErr-always : {A E P : Type 0} (r : Result A E) → P → OnErr r P
OnErr-always (Ok done) holds = tt
OnErr-always (Err error) holds = holds

-- an unpaired surrogate has two bytes
module _ (big : Bool) (rest : List ℕ) (n : ℕ) (front : IsUtf16ValidUpTo big rest n) (fault : IsIllFormed big rest (Some 2)) where
  two : (bytes : List ℕ) → 0 < length bytes → ¬ (IsIncomplete big bytes) → 2 ≤ length bytes
  two [] some whole = absurd (omega arith)
  two (last ∷ []) some whole = absurd (whole tt)
  two (first ∷ second ∷ bytes) some whole = omega arith

  pub two_bytes : n + 2 ≤ length rest
  two_bytes =
      let at = IsUtf16ValidUpTo-unique big rest fault.valid_up_to n fault.front front in
      let left = length-drop n rest in
      ⊎_elim
      (λ (some : n < length rest).
      let long = two (drop n rest) (omega arith) (λ cut. fault.at_front.1 (subst (λ k. IsIncomplete big (drop k rest)) (sym at) cut)) in
      omega arith)
      (λ (all : length rest ≤ n). absurd (fault.ill_formed (subst (IsUtf16 big) (take_all n rest all) front.valid)))
      (cases_lt n (length rest))

-- the next bytes are more items, and their lines are appended
record Next (big : Bool) (rest : List ℕ) (more : List Item) (n chars unpaired : ℕ) : Type 0 where
  items : split_items big rest ≡ more ++ split_items big (drop n rest)
  tail : split_tail big rest ≡ split_tail big (drop n rest)
  long : length (items_bytes big more) ≡ n
  within : n ≤ length rest
  good : count_by is_char more ≡ chars
  bad : count_by is_ill_formed more ≡ unpaired
  few : chars + unpaired ≤ n

-- what is left is a tail
pub Scans-of : (big : Bool) (offset : ℕ) (bytes old new : List ℕ) (found : Found) → Scanned big offset bytes old new found.taken found.chars found.unpaired
    → split_tail big (drop found.taken bytes) ≡ drop found.taken bytes → Scans big offset bytes old new found
Scans-of big offset bytes old new found all tail =
    let items : split_items big bytes ≡ all.items =
    all.first ∙ ap (λ i. all.items ++ i) (undecided_items big (drop found.taken bytes) tail) ∙ append-nil all.items in
    record {
      lines = all.text ∙ ap (λ i. old ++ ill_formed_lines big offset i) (sym items);
      taken = all.long ∙ ap (λ i. length (items_bytes big i)) (sym items);
      left = sym tail ∙ sym all.tail;
      within = all.within;
      chars = all.good ∙ ap (count_by is_char) (sym items);
      unpaired = all.bad ∙ ap (count_by is_ill_formed) (sym items);
      few = all.few;
    }

-- the bytes are well formed
pub IsFront-valid : (big : Bool) (bytes : List ℕ) → IsUtf16 big bytes → (front : Front) → front.len ≡ length bytes → front.chars ≡ length (text_of big bytes) → front.unpaired ≡ None
    → IsFront big bytes front
IsFront-valid big bytes valid front len chars none =
    let all : take front.len bytes ≡ bytes = take_all front.len bytes (omega (arith, len)) in
    let nothing : drop front.len bytes ≡ [] = drop_all front.len bytes (omega (arith, len)) in
    record {
      within = omega (arith, len);
      valid = subst (IsUtf16 big) (sym all) valid;
      chars = chars ∙ ap (λ b. length (text_of big b)) (sym all);
      after = subst (λ u. MatchOption u (split_tail big (drop front.len bytes) ≡ drop front.len bytes) (BeginsLone big (drop front.len bytes))) (sym none)
          (ap (split_tail big) nothing ∙ tail_none big ∙ sym nothing);
    }

module _ (big : Bool) (bytes : List ℕ) (n : ℕ) (front : IsUtf16ValidUpTo big bytes n) where
  pub IsFront-before : (found : Front) → found.len ≡ n → found.chars ≡ length (text_of big (take n bytes))
      → MatchOption found.unpaired (split_tail big (drop n bytes) ≡ drop n bytes) (BeginsLone big (drop n bytes)) → IsFront big bytes found
  IsFront-before found len chars after = record {
    within = omega (arith, len, front.within);
    valid = subst (λ k. IsUtf16 big (take k bytes)) (sym len) front.valid;
    chars = chars ∙ ap (λ k. length (text_of big (take k bytes))) (sym len);
    after = subst (λ k. MatchOption found.unpaired (split_tail big (drop k bytes) ≡ drop k bytes) (BeginsLone big (drop k bytes))) (sym len) after;
  }

  -- a truncated character is a tail
  pub is_tail : IsIllFormed big bytes None → split_tail big (drop n bytes) ≡ drop n bytes
  is_tail fault =
      let is = split_tail-incomplete big bytes n fault front in
      ap (split_tail big) (sym is) ∙ split_tail-again big bytes ∙ is

  pub begins_lone : AreBytes bytes → IsIllFormed big bytes (Some 2) → BeginsLone big (drop n bytes) (first_unit big (drop n bytes))
  begins_lone are fault =
      let text = text_of big (take n bytes) in
      let begins = sym (take-append-drop n bytes) in
      let encodes = Encodes-text_of big (take n bytes) front.valid in
      let later = drop-drop 2 n bytes in
      record {
        items = append_cancel_left (map good text) (split_items big (drop n bytes)) (lone (first_unit big (drop n bytes)) ∷ split_items big (drop 2 (drop n bytes)))
            (sym (ap (split_items big) begins ∙ split_items-text big text (take n bytes) (drop n bytes) encodes)
            ∙ split_items-fault big bytes n are fault front
            ∙ ap (λ b. map good text ++ lone (first_unit big (drop n bytes)) ∷ split_items big b) (sym later));
        tail = sym (ap (split_tail big) begins ∙ split_tail-text big text (take n bytes) (drop n bytes) encodes)
            ∙ split_tail-fault big bytes n are fault front ∙ ap (split_tail big) (sym later);
        long = omega (arith, two_bytes big bytes n front fault, length-drop n bytes);
      }

module _ (big : Bool) (offset : ℕ) (bytes old mid : List ℕ) (taken chars unpaired : ℕ) (so_far : Scanned big offset bytes old mid taken chars unpaired) where
  abbrev rest : List ℕ
  rest = drop taken bytes

  Scanned-next : (more : List Item) (n c u : ℕ) (new : List ℕ) → Next big rest more n c u → new ≡ mid ++ ill_formed_lines big (offset + taken) more
      → (t all_chars all_unpaired : ℕ) → t ≡ taken + n → all_chars ≡ chars + c → all_unpaired ≡ unpaired + u
      → Scanned big offset bytes old new t all_chars all_unpaired
  Scanned-next more n c u new next text t all_chars all_unpaired at is_chars is_unpaired =
      let same : drop n rest ≡ drop t bytes = drop-drop n taken bytes ∙ ap (λ k. drop k bytes) (sym at) in
      let left = length-drop taken bytes in
      record {
        items = so_far.items ++ more;
        first =
            so_far.first ∙ ap (λ i. so_far.items ++ i) (next.items ∙ ap (λ b. more ++ split_items big b) same)
            ∙ sym (append_assoc so_far.items more (split_items big (drop t bytes)));
        tail = so_far.tail ∙ next.tail ∙ ap (split_tail big) same;
        long = omega (arith, at, so_far.long, next.long, length-items_bytes big so_far.items more);
        within = omega (arith, at, so_far.within, next.within, left);
        good = omega (arith, is_chars, so_far.good, next.good, count-append is_char so_far.items more);
        bad = omega (arith, is_unpaired, so_far.bad, next.bad, count-append is_ill_formed so_far.items more);
        few = omega (arith, at, is_chars, is_unpaired, so_far.few, next.few);
        text =
            text ∙ ap (λ t. t ++ ill_formed_lines big (offset + taken) more) so_far.text
            ∙ append_assoc old (ill_formed_lines big offset so_far.items) (ill_formed_lines big (offset + taken) more)
            ∙ ap (λ n. old ++ (ill_formed_lines big offset so_far.items ++ ill_formed_lines big (offset + n) more)) so_far.long
            ∙ ap (λ l. old ++ l) (sym (ill_formed_lines-append big offset so_far.items more));
      }

  -- characters have no line
  no_lines : (text : List ℕ) → mid ≡ mid ++ ill_formed_lines big (offset + taken) (map good text)
  no_lines text = sym (append-nil mid) ∙ ap (λ l. mid ++ l) (sym (ill_formed_lines-good big (offset + taken) text))

  module _ (front : Front) (is : IsFront big rest front) where
    abbrev text : List ℕ
    text = text_of big (take front.len rest)

    after_front : drop front.len rest ≡ drop (taken + front.len) bytes
    after_front = drop-drop front.len taken bytes

    then : (unpaired : Option ℕ) → front.unpaired ≡ unpaired
        → MatchOption unpaired (split_tail big (drop (taken + front.len) bytes) ≡ drop (taken + front.len) bytes) (BeginsLone big (drop (taken + front.len) bytes))
    then unpaired is_unpaired =
        subst (λ b. MatchOption unpaired (split_tail big b ≡ b) (BeginsLone big b)) after_front
        (subst (λ u. MatchOption u (split_tail big (drop front.len rest) ≡ drop front.len rest) (BeginsLone big (drop front.len rest))) is_unpaired is.after)

    -- nothing comes after it, or an incomplete character
    pub then_tail : front.unpaired ≡ None → split_tail big (drop (taken + front.len) bytes) ≡ drop (taken + front.len) bytes
    then_tail = then None

    -- an unpaired surrogate comes after it
    pub then_lone : (unit : ℕ) → front.unpaired ≡ Some unit → BeginsLone big (drop (taken + front.len) bytes) unit
    then_lone unit = then (Some unit)

    characters : Next big rest (map good text) front.len (length text) 0
    characters =
        let begins = sym (take-append-drop front.len rest) in
        let encodes = Encodes-text_of big (take front.len rest) is.valid in
        let long = length-take-le front.len rest is.within in
        record {
          items = ap (split_items big) begins ∙ split_items-text big text (take front.len rest) (drop front.len rest) encodes;
          tail = ap (split_tail big) begins ∙ split_tail-text big text (take front.len rest) (drop front.len rest) encodes;
          long = length-good big (take front.len rest) is.valid ∙ long;
          within = is.within;
          good = chars-good text;
          bad = ill_formed-good text;
          few = omega (arith, few_chars big (take front.len rest) is.valid, long);
        }

    -- more characters
    pub Scanned-front : Scanned big offset bytes old mid (taken + front.len) (chars + front.chars) unpaired
    Scanned-front = Scanned-next (map good text) front.len (length text) 0 mid characters (no_lines text) (taken + front.len) (chars + front.chars) unpaired
        refl (ap (λ n. chars + n) is.chars) (omega arith)

  module _ (unit : ℕ) (begins : BeginsLone big rest unit) where
    surrogate : Next big rest (lone unit ∷ []) 2 0 1
    surrogate = record {
      items = begins.items;
      tail = begins.tail;
      long = ap length (append-nil (item_bytes big (lone unit))) ∙ lone-bytes big unit;
      within = begins.long;
      good = lone-chars unit;
      bad = lone-ill_formed unit;
      few = omega arith;
    }

    -- one more unpaired surrogate, whose line was appended
    pub Scanned-lone : (new : List ℕ) → new ≡ mid ++ ill_formed_line (offset + taken) (lone unit) → Scanned big offset bytes old new (taken + 2) chars (unpaired + 1)
    Scanned-lone new wrote = Scanned-next (lone unit ∷ []) 2 0 1 new surrogate
        (wrote ∙ ap (λ l. mid ++ l) (sym (append-nil (ill_formed_line (offset + taken) (lone unit))))) (taken + 2) chars (unpaired + 1)
        refl (omega arith) refl

    -- its line is one of the lines
    pub lone_fits : length mid + length (ill_formed_line (offset + taken) (lone unit)) ≤ length old + length (ill_formed_lines big offset (split_items big bytes))
    lone_fits =
        let after = lone unit ∷ split_items big (drop 2 rest) in
        let so_far_lines = ill_formed_lines big offset so_far.items in
        let more = ill_formed_lines big ((offset + taken) + length (item_bytes big (lone unit))) (split_items big (drop 2 rest)) in
        let all = ap (λ i. length (ill_formed_lines big offset i)) (so_far.first ∙ ap (λ i. so_far.items ++ i) begins.items) in
        let joined = ap length (ill_formed_lines-append big offset so_far.items after) in
        let at = ap (λ n. length (ill_formed_lines big (offset + n) after)) (sym so_far.long) in
        let long = length-append so_far_lines (ill_formed_lines big (offset + length (items_bytes big so_far.items)) after) in
        omega (arith, all, joined, long, at, length-append (ill_formed_line (offset + taken) (lone unit)) more, ap length so_far.text, length-append old so_far_lines)
