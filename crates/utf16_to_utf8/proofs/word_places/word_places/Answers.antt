use Rattle.std.proofs.Common.{◌≡◌, ◌-◌, [], count_ones, get_or, take, sym, subst}
use Rattle.std.proofs.lemmas.Nat.{ones-le}
use Rattle.std.specs.List.{range_with_len}
use Rattle.utf16_to_utf8.specs.declared.word_places.TheConstants.{WORD_PLACES}
use Rattle.utf16_to_utf8.specs.Pack.{packed_words}
use Rattle.utf16_to_utf8.proofs.WordLemmas.{word_row, word_row-good}
use Rattle.utf16_to_utf8.proofs.word_places.word_places.Goals as goal

pub returns-clause-places : goal.returns-clause-places
returns-clause-places c bits eight is =
    subst (λ k. take (12 - count_ones k) (get_or WORD_PLACES k []) ≡ packed_words bits (range_with_len 0 16)) (sym is) (word_row bits eight)

pub returns-clause-below : goal.returns-clause-below
returns-clause-below c = (word_row-good c.args.flags c.requires).1

pub returns-clause-long : goal.returns-clause-long
returns-clause-long c = (word_row-good c.args.flags c.requires).0

pub returns-clause-few : goal.returns-clause-few
returns-clause-few c = ones-le 8 c.args.flags c.requires
