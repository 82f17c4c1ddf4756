-- A string with the texts of items appended, and one more.
use Rattle.std.proofs.Common.{◌≡◌, ◌≢◌, ◌+◌, ◌≤◌, ℕ, List, [], ◌∷◌, ◌++◌, ap, append-nil, arith, flat_map, length, sym, ◌∙◌}
use Rattle.std.proofs.lemmas.List.{flat_map_more}
use Rattle.utf16_units.specs.declared.byte_order.Utf16Order.{Ghosts}
use Rattle.utf16_units.specs.Encoding.{size}
use Rattle.utf16string.specs.WString.{Extends, wstring_bytes, wstring_capacity, wstring_text}
use Rattle.utf16string.specs.declared.wstring.WString.{WString}
use Rattle.utf16_str.proofs.CutFront.{no_part}

module _ {E Z X : Type 0} {order : Ghosts E} (text : X → List ℕ) (old : WString E Z order) where
  -- the texts so far are appended to the old one, and the capacity is the same if they are empty
  abbrev pub Joined : List X → WString E Z order → Type 0
  Joined items now =
      Extends old (flat_map text items) now
      × (wstring_capacity old ≤ wstring_capacity now)
      × (length (wstring_bytes old) ≤ length (wstring_bytes now))
      × (length (wstring_bytes now) ≡ length (wstring_bytes old) → wstring_capacity now ≡ wstring_capacity old)

  module _ (items : List X) (now new : WString E Z order) (x : X) (so : Joined items now) where
    pub joined-more : wstring_text new ≡ wstring_text now ++ text x → length (wstring_bytes new) ≡ length (wstring_bytes now) + size (text x)
        → wstring_capacity now ≤ wstring_capacity new → text x ≢ [] → Joined (items ++ x ∷ []) new
    joined-more more long grows some = (
      more ∙ ap (λ t. t ++ text x) so.0 ∙ flat_map_more text (wstring_text old) items x,
      omega (arith, grows, so.1),
      omega (arith, long, so.2),
      λ same. absurd (some (no_part (text x) (omega (arith, same, long, so.2)))),
    )

    pub joined-none : text x ≡ [] → Joined (items ++ x ∷ []) now
    joined-none none = (
      sym (append-nil (wstring_text now)) ∙ ap (λ t. wstring_text now ++ t) (sym none) ∙ ap (λ t. t ++ text x) so.0 ∙ flat_map_more text (wstring_text old) items x,
      so.1,
      so.2,
      so.3,
    )
