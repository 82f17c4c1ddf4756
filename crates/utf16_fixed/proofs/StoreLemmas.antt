-- Parts of a vector that are stored one after another.
use Rattle.std.proofs.Common.{◌≡◌, ℕ, ◌+◌, List, ◌++◌, length, map, take, ap, ◌∙◌, arith, append_assoc}
use Rattle.std.proofs.lemmas.List.{length-map, map-id}
use Rattle.std.proofs.lemmas.Simd.{pick_l_left, pick_l_whole}
use Rattle.std.specs.List.{range_with_len}
use lib.Lanes.{pick_l}

module _ (at : ℕ) (old one two units : List ℕ) (long : length units ≡ 8) where
  pub eight-fours : take (at + 4) one ≡ take at old ++ pick_l 0 (map (λ (u : ℕ). u) units ++ map (λ (u : ℕ). u) units) (range_with_len 0 4)
      → take (at + 4 + 4) two ≡ take (at + 4) one ++ pick_l 0 (map (λ (u : ℕ). u) units ++ map (λ (u : ℕ). u) units) (range_with_len 4 4)
      → take (at + 8) two ≡ take at old ++ units
  eight-fours first second =
      let wide = map (λ (u : ℕ). u) units in
      let many : length wide ≡ 8 = length-map units (λ u. u) ∙ long in
      let end : at + 8 ≡ at + 4 + 4 = omega arith in
      ap (λ k. take k two) end ∙ second ∙ ap (λ t. t ++ pick_l 0 (wide ++ wide) (range_with_len 4 4)) first
      ∙ append_assoc (take at old) (pick_l 0 (wide ++ wide) (range_with_len 0 4)) (pick_l 0 (wide ++ wide) (range_with_len 4 4))
      ∙ ap (λ t. take at old ++ t) (pick_l_left 0 wide wide 8 (range_with_len 0 8) many tt ∙ pick_l_whole 0 wide 8 many ∙ map-id units)

module _ (at : ℕ) (old one two three four units : List ℕ) (long : length units ≡ 32) where
  pub wide-eights : take (at + 8) one ≡ take at old ++ pick_l 0 (units ++ units) (range_with_len 0 8)
      → take (at + 8 + 8) two ≡ take (at + 8) one ++ pick_l 0 (units ++ units) (range_with_len 8 8)
      → take (at + 16 + 8) three ≡ take (at + 16) two ++ pick_l 0 (units ++ units) (range_with_len 16 8)
      → take (at + 24 + 8) four ≡ take (at + 24) three ++ pick_l 0 (units ++ units) (range_with_len 24 8)
      → take (at + 32) four ≡ take at old ++ units
  wide-eights a b c d =
      let p = pick_l 0 (units ++ units) (range_with_len 0 8) in
      let q = pick_l 0 (units ++ units) (range_with_len 8 8) in
      let r = pick_l 0 (units ++ units) (range_with_len 16 8) in
      let s = pick_l 0 (units ++ units) (range_with_len 24 8) in
      let end_b : at + 16 ≡ at + 8 + 8 = omega arith in
      let end_c : at + 24 ≡ at + 16 + 8 = omega arith in
      let end_d : at + 32 ≡ at + 24 + 8 = omega arith in
      ap (λ k. take k four) end_d ∙ d ∙ ap (λ t. t ++ s) (ap (λ k. take k three) end_c ∙ c ∙ ap (λ t. t ++ r) (ap (λ k. take k two) end_b ∙ b ∙ ap (λ t. t ++ q) a))
      ∙ append_assoc ((take at old ++ p) ++ q) r s ∙ append_assoc (take at old ++ p) q (r ++ s) ∙ append_assoc (take at old) p (q ++ (r ++ s))
      ∙ ap (λ t. take at old ++ t) (pick_l_left 0 units units 32 (range_with_len 0 32) long tt ∙ pick_l_whole 0 units 32 long)

module _ (at : ℕ) (old one two bytes : List ℕ) (long : length bytes ≡ 32) where
  pub sixteen-halves : take (at + 16) one ≡ take at old ++ pick_l 0 (bytes ++ bytes) (range_with_len 0 16)
      → take (at + 16 + 16) two ≡ take (at + 16) one ++ pick_l 0 (bytes ++ bytes) (range_with_len 16 16)
      → take (at + 32) two ≡ take at old ++ bytes
  sixteen-halves first second =
      let end : at + 32 ≡ at + 16 + 16 = omega arith in
      ap (λ k. take k two) end ∙ second ∙ ap (λ t. t ++ pick_l 0 (bytes ++ bytes) (range_with_len 16 16)) first
      ∙ append_assoc (take at old) (pick_l 0 (bytes ++ bytes) (range_with_len 0 16)) (pick_l 0 (bytes ++ bytes) (range_with_len 16 16))
      ∙ ap (λ t. take at old ++ t) (pick_l_left 0 bytes bytes 32 (range_with_len 0 32) long tt ∙ pick_l_whole 0 bytes 32 long)
