-- Steps of decoding in sequence, in either direction.
use Rattle.std.proofs.Common.{◌≡◌, ℕ, ◌≤◌, List, [], ◌∷◌, ◌++◌, length, map, refl, sym, ap, ap₂, ◌∙◌, append_assoc, append-nil, arith}
use Rattle.std.proofs.lemmas.List.{map-append}
use Rattle.std.proofs.lemmas.List.Concat.{flat_map-append}
use Rattle.std.specs.List.{flat_map}
use Rattle.utf16_transcode.specs.Decodes.{DecodesAs}
use Rattle.utf16_transcode.specs.StreamSplit.{StreamSplit, IsSplitInChunks}
use Rattle.utf16_transcode.specs.Stops.{TextDoesNotFit}

module _ (parts : StreamSplit) (into : ℕ → List ℕ) where
  -- what is written for items
  abbrev pub written_for : List parts.Item → List ℕ
  written_for items = flat_map into (map parts.shown items)

  pub written_for-append : (items more : List parts.Item) → written_for (items ++ more) ≡ written_for items ++ written_for more
  written_for-append items more = ap (flat_map into) (map-append parts.shown items more) ∙ flat_map-append into (map parts.shown items) (map parts.shown more)

  -- nothing is decoded
  pub Decodes-none : (bytes old : List ℕ) → DecodesAs parts into bytes bytes old old
  Decodes-none bytes old = record { taken = []; items = refl; tail = refl; text = sym (append-nil old) }

  -- one step and then another
  pub Decodes-then : (bytes rest last old mid new : List ℕ) → DecodesAs parts into bytes rest old mid → DecodesAs parts into rest last mid new
      → DecodesAs parts into bytes last old new
  Decodes-then bytes rest last old mid new first second = record {
    taken = first.taken ++ second.taken;
    items = first.items ∙ ap (λ i. first.taken ++ i) second.items ∙ sym (append_assoc first.taken second.taken (parts.items last));
    tail = first.tail ∙ second.tail;
    text =
        second.text ∙ ap (λ t. t ++ written_for second.taken) first.text ∙ append_assoc old (written_for first.taken) (written_for second.taken)
        ∙ ap (λ t. old ++ t) (sym (written_for-append first.taken second.taken));
  }

  -- steps, and then decoding the rest
  pub Decodes-last : (bytes rest old mid new : List ℕ) → DecodesAs parts into bytes rest old mid → new ≡ mid ++ written_for (parts.items rest)
      → new ≡ old ++ written_for (parts.items bytes)
  Decodes-last bytes rest old mid new steps last =
      last ∙ ap (λ t. t ++ written_for (parts.items rest)) steps.text ∙ append_assoc old (written_for steps.taken) (written_for (parts.items rest))
      ∙ ap (λ t. old ++ t) (sym (written_for-append steps.taken (parts.items rest)) ∙ ap written_for (sym steps.items))

  -- steps that leave bytes that decode to nothing
  pub Decodes-end : (bytes rest old new : List ℕ) → DecodesAs parts into bytes rest old new → parts.items rest ≡ []
      → new ≡ old ++ written_for (parts.items bytes)
  Decodes-end bytes rest old new steps none =
      steps.text ∙ ap (λ i. old ++ written_for i) (sym (append-nil steps.taken) ∙ ap (λ i. steps.taken ++ i) (sym none) ∙ sym steps.items)

  -- if bytes decode to nothing, so do the bytes that steps leave of them
  pub Decodes-empty : (bytes rest old new : List ℕ) → DecodesAs parts into bytes rest old new → parts.items bytes ≡ [] → parts.items rest ≡ []
  Decodes-empty bytes rest old new steps none = last steps.taken (sym steps.items ∙ none) where
    last : (taken : List parts.Item) → taken ++ parts.items rest ≡ [] → parts.items rest ≡ []
    last [] e = e
    last (item ∷ taken) e = absurd (cc)

  module _ (split : IsSplitInChunks parts) where
    -- bytes decode to the same with more bytes after them
    pub Decodes-more : (bytes rest next old new : List ℕ) → DecodesAs parts into bytes rest [] new
        → DecodesAs parts into (bytes ++ next) (rest ++ next) old (old ++ new)
    Decodes-more bytes rest next old new d = record {
      taken = d.taken;
      items =
          split.items bytes next ∙ ap₂ (λ i t. i ++ parts.items (t ++ next)) d.items d.tail
          ∙ append_assoc d.taken (parts.items rest) (parts.items (parts.tail rest ++ next))
          ∙ ap (λ i. d.taken ++ i) (sym (split.items rest next));
      tail = split.tail bytes next ∙ ap (λ t. parts.tail (t ++ next)) d.tail ∙ sym (split.tail rest next);
      text = ap (λ t. old ++ t) d.text;
    }

    -- the tail of a tail is the tail itself
    pub tail_again : (bytes : List ℕ) → parts.tail (parts.tail bytes) ≡ parts.tail bytes
    tail_again bytes = ap parts.tail (sym (append-nil (parts.tail bytes))) ∙ sym (split.tail bytes []) ∙ ap parts.tail (append-nil bytes)

-- the first character of a text fits
pub first_fits : (into : ℕ → List ℕ) (text more : List ℕ) (first left : ℕ) → text ≡ first ∷ more → length (into first) ≤ left → ¬ (TextDoesNotFit into text left)
first_fits into text more first left is fits full =
    let begins = full.begins in
    let same : full.char ≡ first = cc in
    omega (arith, fits, full.too_long, ap (λ c. length (into c)) same)
