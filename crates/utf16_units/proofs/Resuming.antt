-- A reader that resumes by the error, over the chunks of a stream, gets the text of the one split,
-- and what it keeps is the tail of that split.
use Rattle.std.proofs.Common.{◌≡◌, ◌↔◌, ℕ, zero, suc, ◌+◌, ◌<◌, ◌≤◌, List, [], ◌∷◌, ◌++◌, Option, None, Some, length, length-drop, take, drop, sym, ap, ap₂, ◌∙◌, subst, arith, append-nil, append_assoc}
use Rattle.std.proofs.lemmas.List.{append_cancel_left}
use Rattle.std.specs.List.{concat}
use Rattle.utf16_units.specs.Recipe.{Coding, RecipeOf, ResumesOf, ended, fed, incomplete, resumed, valid}

-- bytes are a text, or they have an error
pub data Decided (coding : Coding) (bytes : List ℕ) : Type 0 where
  is_text : (text : List ℕ) → coding.IsTextOf text bytes → Decided coding bytes
  has_error : (front : List ℕ) (n : ℕ) (len : Option ℕ) → coding.HasErrorAt bytes n len → coding.IsTextOf front (take n bytes) → Decided coding bytes

-- what is needed of the text and of the tail that the split of bytes has, with U+FFFD for what is
-- ill formed; the bytes may have to be below 256
pub record SplitAtErrors (coding : Coding) (Are : List ℕ → Type 0) (text tail : List ℕ → List ℕ) : Type 0 where
  pub nothing : coding.IsTextOf [] []
  pub whole : (bytes given : List ℕ) → coding.IsTextOf given bytes → (text bytes ≡ given) × (tail bytes ≡ [])
  pub fault : (bytes front : List ℕ) (n len : ℕ) → Are bytes → coding.HasErrorAt bytes n (Some len) → coding.IsTextOf front (take n bytes)
      → (text bytes ≡ front ++ 0xFFFD ∷ text (drop (n + len) bytes)) × (tail bytes ≡ tail (drop (n + len) bytes))
  pub some : (bytes : List ℕ) (n len : ℕ) → coding.HasErrorAt bytes n (Some len) → 0 < len
  pub cut : (bytes front : List ℕ) (n : ℕ) → coding.HasErrorAt bytes n None → coding.IsTextOf front (take n bytes) → (text bytes ≡ front) × (tail bytes ≡ drop n bytes)
  pub decides : (bytes : List ℕ) → Decided coding bytes
  pub joined : (front back : List ℕ) → (text (front ++ back) ≡ text front ++ text (tail front ++ back)) × (tail (front ++ back) ≡ tail (tail front ++ back))
  pub dropped : (n : ℕ) (bytes : List ℕ) → Are bytes → Are (drop n bytes)
  pub parted : (front back : List ℕ) → Are (front ++ back) → Are front × Are (tail front ++ back)

module _ (coding : Coding) (Are : List ℕ → Type 0) (text tail : List ℕ → List ℕ) (split : SplitAtErrors coding Are text tail) where
  abbrev IsSplit : List ℕ → List ℕ → List ℕ → Type 0
  IsSplit bytes given kept = (given ≡ text bytes) × (kept ≡ tail bytes)

  recipe_of_split : {bytes given kept : List ℕ} → Are bytes → RecipeOf coding bytes given kept → IsSplit bytes given kept
  recipe_of_split are (valid bytes given e) =
      let same = split.whole bytes given e in
      (sym same.0, sym same.1)
  recipe_of_split are (resumed bytes front given kept n len at e rest) =
      let same = split.fault bytes front n len are at e in
      let next = recipe_of_split (split.dropped (n + len) bytes are) rest in
      (ap (λ t. front ++ 0xFFFD ∷ t) next.0 ∙ sym same.0, next.1 ∙ sym same.1)
  recipe_of_split are (incomplete bytes front n at e) =
      let same = split.cut bytes front n at e in
      (sym same.0, sym same.1)

  -- what a reader gets who follows the recipe
  record Followed (bytes : List ℕ) : Type 0 where
    given : List ℕ
    kept : List ℕ
    recipe : RecipeOf coding bytes given kept

  decided_by : (bytes : List ℕ) → ((m : ℕ) → 0 < m → Followed (drop m bytes)) → Decided coding bytes → Followed bytes
  decided_by bytes next (is_text given e) = record { given = given; kept = []; recipe = valid bytes given e }
  decided_by bytes next (has_error front n None at e) = record { given = front; kept = drop n bytes; recipe = incomplete bytes front n at e }
  decided_by bytes next (has_error front n (Some len) at e) =
      let after = next (n + len) (omega (arith, split.some bytes n len at)) in
      record { given = front ++ 0xFFFD ∷ after.given; kept = after.kept; recipe = resumed bytes front after.given after.kept n len at e after.recipe }

  -- it terminates, since each step leaves fewer bytes
  follow : (most : ℕ) (bytes : List ℕ) → length bytes ≤ most → Followed bytes
  follow zero [] within = record { given = []; kept = []; recipe = valid [] [] split.nothing }
  follow zero (b ∷ bytes) within = absurd (omega arith)
  follow (suc most) bytes within = decided_by bytes (λ m some. follow most (drop m bytes) (omega (arith, length-drop m bytes))) (split.decides bytes)

  pub split_of_recipe : (bytes : List ℕ) → Are bytes → RecipeOf coding bytes (text bytes) (tail bytes)
  split_of_recipe bytes are =
      let followed = follow (length bytes) bytes (omega arith) in
      let same = recipe_of_split are followed.recipe in
      subst (λ t. RecipeOf coding bytes t (tail bytes)) same.0 (subst (RecipeOf coding bytes followed.given) same.1 followed.recipe)

  pub recipe_is_split : (bytes given kept : List ℕ) → Are bytes → RecipeOf coding bytes given kept ↔ IsSplit bytes given kept
  recipe_is_split bytes given kept are = (
    recipe_of_split are,
    (λ same. subst (λ t. RecipeOf coding bytes t kept) (sym same.0) (subst (RecipeOf coding bytes (text bytes)) (sym same.1) (split_of_recipe bytes are))),
  )

  -- bytes that are kept between two chunks: no text is in them, and all of them are their tail
  abbrev IsKept : List ℕ → Type 0
  IsKept kept = (text kept ≡ []) × (tail kept ≡ kept)

  tail_kept : (bytes : List ℕ) → IsKept (tail bytes)
  tail_kept bytes =
      let whole = ap text (append-nil bytes) in
      let at_end = split.joined bytes [] in
      let same = append-nil (tail bytes) in (
        append_cancel_left (text bytes) (text (tail bytes)) [] (sym (at_end.0 ∙ ap (λ b. text bytes ++ text b) same) ∙ whole ∙ sym (append-nil (text bytes))),
        sym (sym (ap tail (append-nil bytes)) ∙ at_end.1 ∙ ap tail same),
      )

  resumes_split : {before : List ℕ} {pieces : List (List ℕ)} {given kept : List ℕ} → Are (before ++ concat pieces) → IsKept before
      → ResumesOf coding before pieces given kept → IsSplit (before ++ concat pieces) given kept
  resumes_split are is (ended before) = (sym (ap text (append-nil before) ∙ is.0), sym (ap tail (append-nil before) ∙ is.1))
  resumes_split are is (fed before piece pieces given kept more last recipe next) =
      let same = append_assoc before piece (concat pieces) in
      let both = split.parted (before ++ piece) (concat pieces) (subst Are (sym same) are) in
      let first = recipe_of_split both.0 recipe in
      let others = ap (λ k. k ++ concat pieces) first.1 in
      let second = resumes_split (subst Are (sym others) both.1) (subst IsKept (sym first.1) (tail_kept (before ++ piece))) next in
      let all = split.joined (before ++ piece) (concat pieces) in (
        ap₂ (λ f s. f ++ s) first.0 (second.0 ∙ ap text others) ∙ sym all.0 ∙ ap text same,
        second.1 ∙ ap tail others ∙ sym all.1 ∙ ap tail same,
      )

  -- what a reader gets that resumes over the chunks
  record Resumed (before : List ℕ) (pieces : List (List ℕ)) : Type 0 where
    given : List ℕ
    kept : List ℕ
    resumes : ResumesOf coding before pieces given kept

  resume : (before : List ℕ) (pieces : List (List ℕ)) → Are (before ++ concat pieces) → Resumed before pieces
  resume before [] are = record { given = []; kept = before; resumes = ended before }
  resume before (piece ∷ pieces) are =
      let bytes = before ++ piece in
      let both = split.parted bytes (concat pieces) (subst Are (sym (append_assoc before piece (concat pieces))) are) in
      let next = resume (tail bytes) pieces both.1 in
      record {
        given = text bytes ++ next.given;
        kept = next.kept;
        resumes = fed before piece pieces (text bytes) (tail bytes) next.given next.kept (split_of_recipe bytes both.0) next.resumes;
      }

  start_split : (pieces : List (List ℕ)) {given kept : List ℕ} → Are (concat pieces) → ResumesOf coding [] pieces given kept → IsSplit (concat pieces) given kept
  start_split pieces are resumes = resumes_split are (split.whole [] [] split.nothing) resumes

  pub resumes_is_split : (pieces : List (List ℕ)) (given kept : List ℕ) → Are (concat pieces) → ResumesOf coding [] pieces given kept ↔ IsSplit (concat pieces) given kept
  resumes_is_split pieces given kept are =
      let resumed = resume [] pieces are in
      let all = start_split pieces are resumed.resumes in (
        start_split pieces are,
        (λ same.
            subst (λ t. ResumesOf coding [] pieces t kept) (all.0 ∙ sym same.0)
            (subst (ResumesOf coding [] pieces resumed.given) (all.1 ∙ sym same.1) resumed.resumes)),
      )
