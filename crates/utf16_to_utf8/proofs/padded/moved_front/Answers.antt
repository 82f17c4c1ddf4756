use Rattle.std.proofs.Common.{◌≡◌, ℕ, List, ◌≤◌, ◌-◌, length, take, drop, length-drop, replicate, refl, sym, ap, subst, ◌∙◌, arith, w8}
use Rattle.std.proofs.lemmas.Simd.{SwzOk, SwzOk-from_Each1, length-swz_l, swz_l}
use Rattle.utf16_to_utf8.proofs.PaddedLemmas.{front-of, moved, moved-long, moved-stand, swz-moved}
use Rattle.utf16_to_utf8.proofs.padded.moved_front.Goals as goal

pub swizzle : goal.swizzle
swizzle c =
    let len = c.args.len in
    subst (SwzOk w8 16 16 0) (sym c.last_places.ensures)
    (SwzOk-from_Each1 w8 16 1 16 0 (moved len) refl (omega (arith, moved-long len c.requires)) (moved-stand len c.requires))

pub returns-clause-len : goal.returns-clause-len
returns-clause-len c = length-swz_l w8 16 c.args.bytes 0 c.last_places.result ∙ ap length c.last_places.ensures ∙ moved-long c.args.len c.requires

moved-bytes : (bytes places : List ℕ) (len : ℕ) → length bytes ≡ 16 → len ≤ 16 → places ≡ moved len
    → (let result = swz_l w8 16 bytes 0 places in (take len result ≡ drop (16 - len) bytes) × (drop len result ≡ replicate (16 - len) 0))
moved-bytes bytes places len long few is =
    let whole = ap (swz_l w8 16 bytes 0) is ∙ swz-moved bytes len long few in
    let parts = front-of (drop (16 - len) bytes) (replicate (16 - len) 0) len (omega (arith, length-drop (16 - len) bytes, long, few)) in
    (ap (take len) whole ∙ parts.0, ap (drop len) whole ∙ parts.1)

pub returns-clause-front : goal.returns-clause-front
returns-clause-front c = (moved-bytes c.args.bytes _ c.args.len c.fits-bytes.0 c.requires c.last_places.ensures).0

pub returns-clause-zeros : goal.returns-clause-zeros
returns-clause-zeros c = (moved-bytes c.args.bytes _ c.args.len c.fits-bytes.0 c.requires c.last_places.ensures).1
