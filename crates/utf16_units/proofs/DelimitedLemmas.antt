-- A text split at a delimiter, text after text, and the list of texts that it begins with.
use Rattle.std.proofs.Common.{◌≡◌, ◌≢◌, ℕ, ◌+◌, ◌<◌, ◌≤◌, List, [], ◌∷◌, ◌++◌, All, true, false, eqb, get_or, length, map, take, arith, refl, ap, ap₂, subst, sym, ◌∙◌, append_assoc, append-nil, inl, inr}
use Rattle.std.proofs.lemmas.Bool.{ne_eqb}
use Rattle.std.proofs.lemmas.Bool.Decides.{eqb_tells}
use Rattle.std.proofs.lemmas.List.{get_or-map, length-map, take_all}
use Rattle.std.proofs.lemmas.List.Elements.{All-cons, All-head, All-more, All-nil, All-tail, All-weaker}
use Rattle.std.proofs.lemmas.List.Splits.{slice_split_at, slice_split_none}
use Rattle.std.specs.List.{slice_split}
use Rattle.utf16_units.specs.Boundary.{text_from, text_to}
use Rattle.utf16_units.specs.Delimited.{IsEntry, IsListBegun, Lacks, before_empty, closed, ended, listed}
use Rattle.utf16_units.specs.Encoding.{size}
use Rattle.utf16_units.proofs.BoundaryLemmas.{text_from-at, text_to-at}
use Rattle.utf16_units.proofs.PartsEnded.{parts_ended, parts_lack}

same : (e : ℕ) → eqb e e ≡ true
same e = elim (eqb_tells e e) [ inl is ↦ is.0 | inr other ↦ absurd (other.1 refl) ]

tested : (e : ℕ) (text : List ℕ) → Lacks e text → All (λ c. eqb c e ≡ false) text
tested e text lacks = All-weaker (λ c. c ≢ e) (λ c. eqb c e ≡ false) (λ c. ne_eqb c e) text lacks

-- a text split at each delimiter: the part before the first one, and then those after it; or the
-- whole text, if there is none
pub parts-first : (e : ℕ) (text front back : List ℕ) → text ≡ front ++ e ∷ back → Lacks e front
    → slice_split (λ c. eqb c e) text ≡ front ∷ slice_split (λ c. eqb c e) back
parts-first e text front back is lacks =
    ap (slice_split (λ c. eqb c e)) is ∙ slice_split_at (λ c. eqb c e) front e back (tested e front lacks) (same e)

-- the part before the first delimiter is unique, and so is the rest after it
pub one_split : (e : ℕ) (front back other rest : List ℕ) → Lacks e front → Lacks e other → front ++ e ∷ back ≡ other ++ e ∷ rest
    → (front ≡ other) × (back ≡ rest)
one_split e [] back [] rest lacks lack same_text = (refl, cc)
one_split e [] back (c ∷ other) rest lacks lack same_text = absurd (All-head (λ x. x ≢ e) c other lack cc)
one_split e (c ∷ front) back [] rest lacks lack same_text = absurd (All-head (λ x. x ≢ e) c front lacks cc)
one_split e (c ∷ front) back (d ∷ other) rest lacks lack same_text =
    let first : c ≡ d = cc in
    let after = one_split e front back other rest (All-tail (λ x. x ≢ e) c front lacks) (All-tail (λ x. x ≢ e) d other lack) cc in
    (ap₂ (λ x xs. x ∷ xs) first after.0, after.1)

pub parts-last : (e : ℕ) (text : List ℕ) → Lacks e text → slice_split (λ c. eqb c e) text ≡ text ∷ []
parts-last e text lacks = slice_split_none (λ c. eqb c e) text (tested e text lacks)

-- the text before the first delimiter, if it is not empty, and then those after it
pub listed-first : (e : ℕ) (text front back : List ℕ) → text ≡ front ++ e ∷ back → Lacks e front → front ≢ [] → listed e text ≡ front ∷ listed e back
unfolding listed before_empty
listed-first e text [] back is lacks some = absurd (some refl)
listed-first e text (c ∷ front) back is lacks some =
    ap before_empty (parts-first e text (c ∷ front) back is lacks)

-- a text without the delimiter is one text
pub listed-last : (e : ℕ) (text : List ℕ) → Lacks e text → text ≢ [] → listed e text ≡ text ∷ []
unfolding listed before_empty
listed-last e [] lacks some = absurd (some refl)
listed-last e (c ∷ text) lacks some = ap before_empty (parts-last e (c ∷ text) lacks)

-- no texts, if the part before the first delimiter is empty
pub listed-none : (e : ℕ) (text front back : List ℕ) → text ≡ front ++ e ∷ back → front ≡ [] → listed e text ≡ []
unfolding listed before_empty
listed-none e text front back is none =
    ap before_empty (parts-first e text [] back (is ∙ ap (λ t. t ++ e ∷ back) none) (All-nil (λ c. c ≢ e)))

pub listed-nil : (e : ℕ) → listed e [] ≡ []
unfolding listed before_empty
listed-nil e = refl

-- the prefix of a text of its whole size is the text, and nothing follows
pub text_to-whole : (text : List ℕ) → text_to text (size text) ≡ text
text_to-whole text = ap (λ t. text_to t (size text)) (sym (append-nil text)) ∙ text_to-at text [] (size text) refl

pub text_from-whole : (text : List ℕ) → text_from text (size text) ≡ []
text_from-whole text = ap (λ t. text_from t (size text)) (sym (append-nil text)) ∙ text_from-at text [] (size text) refl

-- reading a list gives its texts
pub listed-closed : (e : ℕ) (texts : List (List ℕ)) → All (IsEntry e) texts → listed e (closed e texts) ≡ texts
listed-closed e [] entries = listed-none e (e ∷ []) [] [] refl refl
listed-closed e (text ∷ texts) entries =
    let first = All-head (IsEntry e) text texts entries in
    let is : closed e (text ∷ texts) ≡ text ++ e ∷ closed e texts = append_assoc (text ++ e ∷ []) (ended e texts) (e ∷ []) ∙ append_assoc text (e ∷ []) (closed e texts) in
    listed-first e (closed e (text ∷ texts)) text (closed e texts) is first.1 first.0
    ∙ ap (λ ts. text ∷ ts) (listed-closed e texts (All-tail (IsEntry e) text texts entries))

-- the list of the texts before the first empty one is a prefix of all the texts, delimited, and one
-- more delimiter
begun : (e : ℕ) (parts : List (List ℕ)) → (behind : List ℕ) × (closed e (before_empty parts) ++ behind ≡ ended e parts ++ e ∷ [])
unfolding before_empty
begun e [] = ([], refl)
begun e ([] ∷ parts) = (ended e parts ++ e ∷ [], refl)
begun e ((c ∷ part) ∷ parts) =
    let rest = begun e parts in
    let text = (c ∷ part) ++ e ∷ [] in
    let more = ended e (before_empty parts) in
    (rest.0, ap (λ t. t ++ rest.0) (append_assoc text more (e ∷ [])) ∙ append_assoc text (more ++ e ∷ []) rest.0 ∙ ap (λ t. text ++ t) rest.1 ∙ sym (append_assoc text (ended e parts) (e ∷ [])))

fit : (e : ℕ) (parts : List (List ℕ)) → All (Lacks e) parts → All (IsEntry e) (before_empty parts)
unfolding before_empty
fit e [] lack = All-nil (IsEntry e)
fit e ([] ∷ parts) lack = All-nil (IsEntry e)
fit e ((c ∷ part) ∷ parts) lack =
    All-cons (IsEntry e) (c ∷ part) (before_empty parts) (λ nil. absurd cc, All-head (Lacks e) (c ∷ part) parts lack) (fit e parts (All-tail (Lacks e) (c ∷ part) parts lack))

-- the texts read from a text are those that it begins with, as a list
pub list_begun : (e : ℕ) (text : List ℕ) → IsListBegun e text (listed e text)
unfolding listed
list_begun e text =
    let parts = slice_split (λ c. eqb c e) text in
    let begins = begun e parts in
    record {
      entries = fit e parts (parts_lack e text);
      behind = begins.0;
      begins = begins.1 ∙ ap (λ t. t ++ e ∷ []) (parts_ended e text) ∙ append_assoc text (e ∷ []) (e ∷ []);
    }

-- a reader takes the texts one after another, as the parts before delimiters, and the last
pub ruleset delimited = (listed-first, listed-last, listed-none, listed-nil, listed-closed, list_begun, text_to-whole, text_from-whole)

-- ---- texts examined one after another

module _ {X : Type 0} (P : List ℕ → Type 0) (text : X → List ℕ) (items : List X) (i : ℕ) where
  pub All-next : (item : X) → i < length items → item ≡ get_or items i item → All P (take i (map text items)) → P (text item)
      → All P (take (i + 1) (map text items))
  All-next item within is before here =
      All-more P (map text items) i (text item) (omega (arith, length-map items text, within)) before
      (subst P (ap text is ∙ sym (get_or-map text items i item (text item) within)) here)

  pub All-whole : length items ≤ i → All P (take i (map text items)) → All P (map text items)
  All-whole past all = subst (All P) (take_all i (map text items) (omega (arith, length-map items text, past))) all
