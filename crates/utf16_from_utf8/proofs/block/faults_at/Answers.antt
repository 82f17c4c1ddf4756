use Rattle.std.proofs.Common.{◌≡◌, ◌+◌, ◌-◌, ◌<◌, ◌∙◌, ℕ, sym, arith}
use Rattle.std.proofs.lemmas.Simd.{get_or-chunk}
use Rattle.utf16_from_utf8.specs.Follow.{limit_of}
use Rattle.utf16_from_utf8.proofs.FollowLemmas.{before-one, before-two, follows-at, further-below}
use Rattle.utf16_from_utf8.proofs.block.faults_at.Goals as goal

pub returns : goal.returns
returns g c i below =
    let bytes = c.args.bytes.now in
    let at = c.args.at in
    let limit = limit_of g.row.MOST in
    let three = get_or-chunk (at - 3) 16 bytes i 0 below in
    let two = c.before_at.ensures.two.lanes i below ∙ before-two bytes c.before_at.result.1 at i (omega (arith, c.requires.some)) below c.before_at.ensures.one.lanes in
    let one = c.before_at.ensures.one.lanes i below ∙ before-one bytes at i (omega (arith, c.requires.some)) below in
    let here = get_or-chunk at 16 bytes i 0 below in
    let each =
    λ (j : ℕ) (place : ℕ) (is : place ≡ at - 3 + j) (few : j < 19). further-below bytes (at - 3) limit 19 j place is few c.requires.below in
    let both =
    c.faults.ensures i below
    (omega (arith, three, each i (at - 3 + i) (omega arith) (omega (arith, below))))
    (omega (arith, two, each (i + 1) (at - 2 + i) (omega (arith, c.requires.some)) (omega (arith, below))))
    (omega (arith, one, each (i + 2) (at - 1 + i) (omega (arith, c.requires.some)) (omega (arith, below))))
    (omega (arith, here, each (i + 3) (at + i) (omega (arith, c.requires.some)) (omega (arith, below)))) in (
      (λ none. follows-at _ _ _ _ _ _ _ _ (sym three) (sym two) (sym one) (sym here) (both.0 none)),
      (λ follows. both.1 (follows-at _ _ _ _ _ _ _ _ three two one here follows)),
    )
