-- The substrings between occurrences of any part, joined, are the text.
use Rattle.std.proofs.Common.{◌≡◌, ℕ, ◌<◌, Bool, true, false, eqb, List, [], ◌∷◌, ◌++◌, length, map, reverse, refl, sym, ap, ◌∙◌, arith, append_assoc, append-nil, flat_map}
use Rattle.std.proofs.lemmas.List.{length-map, length-reverse, reverse-append, reverse-reverse}
use Rattle.std.proofs.lemmas.List.Splits.{join_with_byte-slice_split}
use Rattle.std.specs.List.{slice_split}
use Rattle.utf16_str.specs.Substrings.{in_order, joined_toward, joined_with, parts_between, parts_from, parts_toward, rjoined_with, rparts_from, single_chars}
use Rattle.utf16_str.proofs.CutBack.{turned}
use Rattle.utf16_str.proofs.PartCounts.{after-joined, join-between, joined}

flat-single : (text : List ℕ) → flat_map (λ t. t) (single_chars text) ≡ text
flat-single [] = refl
flat-single (c ∷ text) = ap (λ t. c ∷ t) (flat-single text)

join-single : (text : List ℕ) → joined [] (single_chars text) ≡ text
join-single [] = refl
join-single (c ∷ text) = ap (λ t. c ∷ t) (flat-single text)

pub join-parts : (part : List ℕ) (begun : Bool) (text : List ℕ) → joined_with part (parts_from part begun text) ≡ text
join-parts [] true text = join-single text
join-parts [] false text = flat-single text
join-parts (c ∷ []) begun text = join_with_byte-slice_split c text
join-parts (c ∷ d ∷ part) begun text = join-between c (d ∷ part) 0 text

-- ---- joined from the end
pub record Joins (back : Bool) (part : List ℕ) (join : List (List ℕ) → List ℕ) : Type 0 where
  pub one : (text : List ℕ) → join (text ∷ []) ≡ text
  pub more : (text next : List ℕ) (texts : List (List ℕ)) → join (text ∷ next ∷ texts) ≡ in_order back text (in_order back part (join (next ∷ texts)))

joins-by : (part : List ℕ) → Joins false part (joined part)
joins-by part = record {
  one = λ text. append-nil text;
  more = λ text next texts. ap (λ t. text ++ t) (append_assoc part next (flat_map (λ t. part ++ t) texts));
}

joins-with : (part : List ℕ) → Joins false part (joined_with part)
joins-with [] = joins-by []
joins-with (c ∷ []) = record { one = λ text. refl; more = λ text next texts. refl }
joins-with (c ∷ d ∷ part) = joins-by (c ∷ d ∷ part)

-- a last substring joined to others
join-last : (part : List ℕ) (join : List (List ℕ) → List ℕ) → Joins false part join → (parts : List (List ℕ)) (last : List ℕ) → 0 < length parts
    → join (parts ++ last ∷ []) ≡ join parts ++ (part ++ last)
join-last part join j [] last some = absurd (omega (arith, some))
join-last part join j (p ∷ []) last some =
    j.more p last [] ∙ ap (λ t. p ++ (part ++ t)) (j.one last) ∙ ap (λ t. t ++ (part ++ last)) (sym (j.one p))
join-last part join j (p ∷ q ∷ parts) last some =
    j.more p q (parts ++ last ∷ []) ∙ ap (λ t. p ++ (part ++ t)) (join-last part join j (q ∷ parts) last (omega arith))
    ∙ ap (λ t. p ++ t) (sym (append_assoc part (join (q ∷ parts)) (part ++ last)))
    ∙ sym (append_assoc p (part ++ join (q ∷ parts)) (part ++ last))
    ∙ ap (λ t. t ++ (part ++ last)) (sym (j.more p q parts))

pub joins-toward : (back : Bool) (part : List ℕ) → Joins back part (joined_toward back part)
joins-toward false part = joins-with part
joins-toward true part = record {
  one = λ text. (joins-with part).one text;
  more = λ text next texts. let parts = reverse (next ∷ texts) in
      ap (joined_with part) (reverse-append (text ∷ []) (next ∷ texts))
      ∙ join-last part (joined_with part) (joins-with part) parts text (omega (arith, length-reverse (next ∷ texts)))
      ∙ sym (append_assoc (joined_with part parts) part text);
}

push : {A : Type 0} (x : A) (xs : List A) → reverse (x ∷ xs) ≡ reverse xs ++ x ∷ []
push x xs = reverse-append (x ∷ []) xs

join-turned : (part : List ℕ) (parts : List (List ℕ)) → joined part (reverse (map reverse parts)) ≡ reverse (joined (reverse part) parts)
join-turned part [] = refl
join-turned part (text ∷ []) = append-nil (reverse text) ∙ ap reverse (sym (append-nil text))
join-turned part (text ∷ next ∷ parts) =
    let more = next ∷ parts in
    let back = joined (reverse part) more in
    ap (joined part) (push (reverse text) (map reverse more))
    ∙ join-last part (joined part) (joins-by part) (reverse (map reverse more)) (reverse text) (omega (arith, length-reverse (map reverse more), length-map more reverse))
    ∙ ap (λ t. t ++ (part ++ reverse text)) (join-turned part (next ∷ parts))
    ∙ ap (λ p. reverse back ++ (p ++ reverse text)) (sym (reverse-reverse part))
    ∙ sym (turned (text ++ (reverse part ++ back)) text (reverse part) back refl)
    ∙ ap (λ t. reverse (text ++ t)) (sym (after-joined (reverse part) more (omega arith)))

join-some : (part text : List ℕ) → 0 < length part → joined part (parts_between part 0 text) ≡ text
join-some [] text some = absurd (omega (arith, some))
join-some (c ∷ part) text some = join-between c part 0 text

pub join-rparts : (part : List ℕ) (begun : Bool) (text : List ℕ) → rjoined_with part (rparts_from part begun text) ≡ text
join-rparts [] begun text =
    join-turned [] (parts_from [] begun (reverse text)) ∙ ap reverse (join-parts [] begun (reverse text)) ∙ reverse-reverse text
join-rparts (c ∷ []) begun text =
    ap (joined_with (c ∷ [])) (reverse-reverse (slice_split (λ d. eqb d c) text)) ∙ join_with_byte-slice_split c text
join-rparts (c ∷ d ∷ part) begun text =
    let whole = c ∷ d ∷ part in
    join-turned whole (parts_between (reverse whole) 0 (reverse text))
    ∙ ap reverse (join-some (reverse whole) (reverse text) (omega (arith, length-reverse whole))) ∙ reverse-reverse text

pub join-toward : (back : Bool) (part : List ℕ) (begun : Bool) (text : List ℕ) → joined_toward back part (parts_toward back part begun text) ≡ text
join-toward false part begun text = join-parts part begun text
join-toward true part begun text = join-rparts part begun text
