use Rattle.std.proofs.Common.{◌≡◌, ◌+◌, ◌*◌, ◌/◌, ◌%◌, ◌^◌, ◌<◌, ◌==◌, ℕ, Bool, true, false, cond, ltb, slice_index, refl, ap, ap₂, ◌∙◌}
use Rattle.utf16_from_utf8.proofs.UnitLemmas.{two-is, two_lead}
use Rattle.utf16_from_utf8.proofs.sixteen.units_of_two.Goals as goal

-- a bit of a lane that was chosen
turn : (b : Bool) → ◌≡◌ {A = ℕ} (cond (cond b 0xFF 0 == 0) 0 1) (cond b 1 0)
turn true = refl
turn false = refl

pub returns : goal.returns
returns c b2 =
    let block = c.args.block in
    let b1 = c.args.b1 in
    let lead : (i : ℕ) → i < 16 → slice_index c.sum-lead.result i ≡ two_lead (slice_index b1 i) =
    λ i few. c.sum-lead.ensures.lanes i few
    ∙ ap₂ (λ x y. (x + y) % 2 ^ 8) (c.greater.ensures.lanes i few ∙ ap (λ e. cond (ltb (slice_index b1 i) e) e (slice_index b1 i)) (c.each.ensures.lanes i few)) (c.each-2.ensures.lanes i few) in
    record {
      high_len = c.down.ensures.len;
      low_len = c.sum.ensures.len;
      bound = c.set_bits.ensures.bound;
      each = λ i few follows. two-is _ _ _ _ _ _ follows
          (c.set_bits.ensures.bits i few
          ∙ ap (λ x. cond (x == 0) 0 1) (c.where_below-ended.ensures.lanes i few ∙ ap₂ (cond (ltb (slice_index block i) 0xC0)) (c.each-3.ensures.lanes i few) (c.each-4.ensures.lanes i few))
          ∙ turn (ltb (slice_index block i) 0xC0))
          (c.down.ensures.lanes i few ∙ ap (λ x. x / 2 ^ 2) (lead i few))
          (c.sum.ensures.lanes i few ∙ ap₂ (λ x y. (x + y) % 2 ^ 8) (c.masked.ensures.lanes i few) (c.up.ensures.lanes i few ∙ ap (λ x. x * 2 ^ 6 % 2 ^ 8) (lead i few)));
    }
