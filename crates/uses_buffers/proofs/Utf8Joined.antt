-- The text of the parts of bytes, one after another.
use Rattle.std.proofs.Common.{◌≡◌, ℕ, ◌+◌, ◌<◌, ◌≤◌, List, ◌∷◌, ◌++◌, length, drop, slice_index, refl, sym, ap, ◌∙◌, subst, arith, append-nil, append_assoc}
use Rattle.std.proofs.lemmas.List.{drop_all, drop_more, take_rest}
use Rattle.std.specs.List.{flat_map, slice_range}
use Rattle.utf16_units.specs.Cuts.{parts, parts_from}
use Rattle.utf8_bytes.specs.Boundary.{AreCuts, AreCutsFrom}
use Rattle.utf8_bytes.specs.Split.{lossy_text}
use Rattle.uses_buffers.proofs.Utf8Cuts.{IsCut-within}

-- after k parts, up to an offset: their text follows the old one, and the ends ascend from there
pub record Joined (bytes ends old : List ℕ) (k from : ℕ) (text : List ℕ) : Type 0 where
  pub rest : old ++ flat_map lossy_text (parts bytes ends) ≡ text ++ flat_map lossy_text (parts_from bytes from (drop k ends))
  pub within : from ≤ length bytes
  pub cuts : AreCutsFrom bytes from (drop k ends)

pub Joined-none : (bytes ends old : List ℕ) → AreCuts bytes ends → Joined bytes ends old 0 0 old
Joined-none bytes ends old cuts = record { rest = refl; within = omega arith; cuts = cuts }

module _ (bytes ends old : List ℕ) (k from : ℕ) (text : List ℕ) (so_far : Joined bytes ends old k from text) where
  module _ (inside : k < length ends) where
    abbrev end : ℕ
    end = slice_index ends k

    abbrev part : List ℕ
    part = slice_range bytes from end

    following : AreCutsFrom bytes from (end ∷ drop (k + 1) ends)
    following = subst (AreCutsFrom bytes from) (drop_more ends k 0 inside) so_far.cuts

    pub Joined-before : from ≤ end
    Joined-before = following.0

    pub Joined-more : (next : List ℕ) → next ≡ text ++ lossy_text part → Joined bytes ends old (k + 1) end next
    Joined-more next grown =
        let after = flat_map lossy_text (parts_from bytes end (drop (k + 1) ends)) in record {
          rest =
              so_far.rest
              ∙ ap (λ s. text ++ flat_map lossy_text (parts_from bytes from s)) (drop_more ends k 0 inside)
              ∙ sym (append_assoc text (lossy_text part) after)
              ∙ ap (λ t. t ++ after) (sym grown);
          within = IsCut-within bytes end following.1;
          cuts = following.2;
        }

  pub Joined-all : (next : List ℕ) → length ends ≤ k → next ≡ text ++ lossy_text (slice_range bytes from (length bytes)) → next ≡ old ++ flat_map lossy_text (parts bytes ends)
  Joined-all next past grown =
      grown
      ∙ ap (λ p. text ++ lossy_text p) (take_rest bytes from)
      ∙ ap (λ t. text ++ t) (sym (append-nil (lossy_text (drop from bytes))))
      ∙ ap (λ s. text ++ flat_map lossy_text (parts_from bytes from s)) (sym (drop_all k ends past))
      ∙ sym so_far.rest
