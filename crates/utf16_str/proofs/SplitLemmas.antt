-- The substrings of a text that is split at each delimiter: how many there are, and what an
-- iterator over them yields.
use Rattle.std.proofs.Common.{◌≡◌, ◌+◌, ◌^◌, ◌<◌, ◌≤◌, ℕ, Bool, true, eq-eqb, eqb, List, [], ◌∷◌, ◌++◌, length, length-append, Some, refl, sym, subst, arith, ap, ◌∙◌}
use Rattle.std.specs.Iterator.{MakesProgress, YieldsFirstBy, YieldsLastBy, item_count}
use Rattle.std.specs.Iterator.Runs.{EveryRun, ItemsMapTo, ItemsMapToReversed}
use Rattle.std.specs.List.{slice_split}
use Rattle.std.proofs.iter.runs.Sources.{from_back, from_front}
use Rattle.utf16_units.specs.Delimited.{Lacks}
use Rattle.utf16_units.specs.Encoding.{is_utf16, text_of}
use Rattle.utf16_units.proofs.BoundaryLemmas.{length-le-size}
use Rattle.utf16_units.proofs.DelimitedLemmas.{parts-last}
use Rattle.utf16_units.proofs.EncodingLemmas.{IsUtf16-from_is_utf16, length-text}
use Rattle.utf16_str.proofs.PredicateAround.{split-around}

-- an iterator that returned the first text left has fewer left
module _ {A B : Type 0} (can : List B → Type 0) (always : (items : List B) → can items) (before after : List B) (x : A) (b : B) where
  pub progress-part : before ≡ b ∷ after → MakesProgress can (item_count (λ rest. rest)) before (Some x) after
  progress-part e = record {
    on = λ _. (always after, tt, subst (λ items. length after < length items) (sym e) (omega arith));
    keeps = always after;
    rests = λ _. tt;
  }

  pub progress-part-back : before ≡ after ++ b ∷ [] → MakesProgress can (item_count (λ rest. rest)) before (Some x) after
  progress-part-back e = record {
    on = λ _. (always after, tt, subst (λ items. length after < length items) (sym e) (omega (arith, length-append after (b ∷ []))));
    keeps = always after;
    rests = λ _. tt;
  }

-- an iterator whose model is the list of its items' models yields items of these models, in order
pub text_runs : {A B : Type 0} (v : A → B) → EveryRun (YieldsFirstBy v (λ (rest : List B). rest)) (λ p. ItemsMapTo p v p.from)
text_runs v = from_front (YieldsFirstBy v (λ rest. rest)) v (λ rest. rest) (λ s t h. ap length h.0) (λ s x t h. h)

-- from the back it yields them in reverse
pub text_runs_back : {A B : Type 0} (v : A → B) → EveryRun (YieldsLastBy v (λ (rest : List B). rest)) (λ p. ItemsMapToReversed p v p.from)
text_runs_back v = from_back (YieldsLastBy v (λ rest. rest)) v (λ rest. rest) (λ s t h. ap length h.0) (λ s x t h. h)

-- the last substring is what follows the last delimiter
pub parts-last_one : (e : ℕ) (text front last : List ℕ) → text ≡ front ++ e ∷ last → Lacks e last
    → slice_split (λ c. eqb c e) text ≡ slice_split (λ c. eqb c e) front ++ last ∷ []
parts-last_one e text front last is lacks =
    ap (slice_split (λ c. eqb c e)) is ∙ split-around (λ c. eqb c e) front e last (eq-eqb e e refl)
    ∙ ap (λ parts. slice_split (λ c. eqb c e) front ++ parts) (parts-last e last lacks)

-- there are fewer than 2 ^ 64 substrings, since the bytes are a slice's
pub few-parts : (big : Bool) (bytes : List ℕ) (n : ℕ) → is_utf16 big bytes ≡ true → length bytes + 2 < 2 ^ 64 → n ≤ length (text_of big bytes) + 2 → n < 2 ^ 64
few-parts big bytes n checked long few =
    omega (arith, long, few, length-text big bytes (IsUtf16-from_is_utf16 big bytes checked), length-le-size (text_of big bytes))
