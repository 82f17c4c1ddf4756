-- The whole of an input: what is decoded, and the replacement of its tail.
use Rattle.std.proofs.Common.{◌≡◌, ℕ, ◌<◌, ◌≤◌, List, [], ◌∷◌, ◌++◌, length, map, take, drop, refl, sym, ap, ap₂, ◌∙◌, subst, arith, append-nil, append_assoc}
use Rattle.std.proofs.lemmas.List.{drop_all, map-append}
use Rattle.std.proofs.lemmas.List.Concat.{flat_map-append}
use Rattle.std.specs.List.{flat_map}
use Rattle.utf16_transcode.specs.Decodes.{DecodesAs}
use Rattle.utf16_transcode.specs.StreamSplit.{StreamSplit, IsSplitInChunks, decided}
use Rattle.utf16_transcode.specs.WholeText.{WritesWhole}
use Rattle.utf16_transcode.specs.Stops.{StopsPartial, StopsLossy, TextDoesNotFit}
use Rattle.utf16_transcode.specs.Transcoded.{DecodesAsTo}
use Rattle.utf16_transcode.specs.declared.progress.Stop.{Stop}
use Rattle.utf16_transcode.specs.declared.progress.Stop.TheVariants.{Incomplete, Done, IllFormed, NoSpace}

module _ (parts : StreamSplit) (into : ℕ → List ℕ) (split : IsSplitInChunks parts) where
  -- what was decoded is a prefix of the whole, and the rest's whole follows it
  pub whole_text : (bytes rest new : List ℕ) → DecodesAs parts into bytes rest [] new
      → flat_map into (parts.whole bytes) ≡ new ++ flat_map into (parts.whole rest)
  whole_text bytes rest new d =
      ap (flat_map into)
      (split.whole bytes ∙ ap₂ (λ i t. map parts.shown i ++ parts.at_end t) d.items d.tail
      ∙ ap (λ t. t ++ parts.at_end (parts.tail rest)) (map-append parts.shown d.taken (parts.items rest))
      ∙ append_assoc (map parts.shown d.taken) (decided parts rest) (parts.at_end (parts.tail rest))
      ∙ ap (λ t. map parts.shown d.taken ++ t) (sym (split.whole rest)))
      ∙ flat_map-append into (map parts.shown d.taken) (parts.whole rest) ∙ ap (λ n. n ++ flat_map into (parts.whole rest)) (sym d.text)

  -- the whole of a tail is its replacement
  pub whole_tail : (rest : List ℕ) → parts.tail rest ≡ rest → parts.whole rest ≡ parts.at_end rest
  whole_tail rest same = split.whole rest ∙ ap₂ (λ i t. map parts.shown i ++ parts.at_end t) (split.undecided rest same) same

  module _ (input to : List ℕ) (read written : ℕ) (d : DecodesAsTo parts into input to read written) where
    abbrev rest : List ℕ
    rest = drop read input

    pub WritesWhole-decoded : WritesWhole parts.whole into input to read written
    WritesWhole-decoded = record { within = d.within; fits = d.fits; shown = whole_text input rest (take written to) d.decodes }

    -- the replacement of the tail was appended
    pub WritesWhole-end : (next : List ℕ) (last : ℕ) → parts.tail rest ≡ rest → last ≤ length next
        → take last next ≡ take written to ++ flat_map into (parts.at_end rest) → WritesWhole parts.whole into input next (length input) last
    WritesWhole-end next last same room bytes = record {
      within = omega arith;
      fits = room;
      shown =
          whole_text input rest (take written to) d.decodes ∙ ap (λ t. take written to ++ flat_map into t) (whole_tail rest same)
          ∙ sym bytes ∙ sym (append-nil (take last next))
          ∙ ap (λ t. take last next ++ flat_map into t)
          (sym (ap parts.whole (drop_all (length input) input (omega arith)) ∙ whole_tail [] split.nothing ∙ split.no_end));
    }

  -- why it stopped, if not before a tail
  pub stops_whole : (bytes : List ℕ) (left : ℕ) (stop : Stop) → ¬ (stop ≡ Incomplete) → StopsPartial parts into bytes left stop
      → StopsLossy parts.whole into bytes left stop
  stops_whole bytes left Done other here = here
  stops_whole bytes left (IllFormed len) other here = here
  stops_whole bytes left Incomplete other here = absurd (other refl)
  stops_whole bytes left NoSpace other here = record {
    char = here.char;
    more = here.more ++ parts.at_end (parts.tail bytes);
    begins = split.whole bytes ∙ ap (λ t. t ++ parts.at_end (parts.tail bytes)) here.begins;
    too_long = here.too_long;
  }

  -- the replacement of the tail does not fit
  pub end_does_not_fit : (rest : List ℕ) (left : ℕ) → parts.tail rest ≡ rest → left < length (flat_map into (parts.at_end rest))
      → TextDoesNotFit into (parts.whole rest) left
  end_does_not_fit rest left same few = subst (λ t. TextDoesNotFit into t left) (sym (whole_tail rest same)) (one (parts.at_end rest) (split.one rest) few) where
    one : (text : List ℕ) → length text ≤ 1 → left < length (flat_map into text) → TextDoesNotFit into text left
    one [] short few = absurd (omega arith)
    one (char ∷ []) short few = record {
      char = char;
      more = [];
      begins = refl;
      too_long = omega (arith, few, ap length (append-nil (into char)));
    }
    one (char ∷ next ∷ more) short few = absurd (omega arith)
