use Rattle.std.proofs.Common.{◌≡◌, ◌-◌, [], count_ones, get_or, take, sym, subst}
use Rattle.std.proofs.lemmas.Nat.{ones-le}
use Rattle.std.specs.List.{range_with_len}
use Rattle.utf16_to_utf8.specs.declared.places.TheConstants.{PLACES}
use Rattle.utf16_to_utf8.specs.Pack.{packed}
use Rattle.utf16_to_utf8.proofs.PlaceLemmas.{row, row-good}
use Rattle.utf16_to_utf8.proofs.places.places.Goals as goal

pub returns-clause-places : goal.returns-clause-places
returns-clause-places c flags eight is =
    subst (λ one. take (16 - count_ones one) (get_or PLACES one []) ≡ packed flags (range_with_len 0 16)) (sym is) (row flags eight)

pub returns-clause-below : goal.returns-clause-below
returns-clause-below c = (row-good c.args.one c.requires).1

pub returns-clause-long : goal.returns-clause-long
returns-clause-long c = (row-good c.args.one c.requires).0

pub returns-clause-few : goal.returns-clause-few
returns-clause-few c = ones-le 8 c.args.one c.requires
