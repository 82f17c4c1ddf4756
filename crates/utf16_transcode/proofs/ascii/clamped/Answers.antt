use Rattle.std.proofs.Common.{ℕ, cond, ltb, replicate, slice_index, w16, ap, ◌∙◌}
use Rattle.std.proofs.lemmas.List.{get_or-replicate, length-replicate}
use Rattle.utf16_units.proofs.LanesByIndex.{lanes_chosen}
use Rattle.utf16_transcode.proofs.AsciiLemmas.{lesser}
use Rattle.utf16_transcode.proofs.ascii.clamped.Goals as goal

pub returns : goal.returns
returns c =
    let units = c.args.units in
    let most : ℕ = 0xFF in
    let limits = replicate 32 most in
    let chosen = lanes_chosen 32 w16 ltb units most units limits c.fits-units.0 c.fits-units.0 (length-replicate 32 most) in
    record {
      len = chosen.len;
      lanes = λ i lt. chosen.lanes i lt ∙ ap (λ limit. cond (ltb (slice_index units i) most) (slice_index units i) limit) (get_or-replicate 32 i most 0 lt) ∙ lesser (slice_index units i) most;
    }
