-- How many unpaired surrogates bytes have.
use Rattle.std.specs.Prelude.{ℕ, suc, ◌+◌, Bool, List, [], ◌∷◌}
use Rattle.utf16_units.specs.Split.{Item, good, lone_lead, lone_trail, split_items, split_tail}

-- the number of unpaired surrogates among items (Unicode, section 3.8: isolated surrogate code
-- units)
unfoldable pub lone_items : List Item → ℕ
lone_items [] = 0
lone_items (good c ∷ items) = lone_items items
lone_items (lone_trail unit ∷ items) = suc (lone_items items)
lone_items (lone_lead unit ∷ items) = suc (lone_items items)

-- 1 if a leading surrogate is left at the end, else 0
abbrev pub lone_tail : List ℕ → ℕ
lone_tail [] = 0
lone_tail (last ∷ []) = 0
lone_tail (first ∷ second ∷ after) = 1

-- the number of unpaired surrogates in bytes, including a leading one at the end
abbrev pub unpaired : Bool → List ℕ → ℕ
unpaired big bytes = lone_items (split_items big bytes) + lone_tail (split_tail big bytes)
