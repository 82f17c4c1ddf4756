-- The proofs of the laws, each under its law's name.
use Rattle.std.proofs.Common.{length, take, take_at, refl, ap, ◌∙◌, sym, subst, []}
use Rattle.std.proofs.lemmas.List.{map-append}
use Rattle.utf8_bytes.specs.Laws.{CutAnywhere, ItemsStay, RecipeIsSplit, ResumesIsSplit, ShownAfter, ShownWithin, SplitExists, SplitExtends, SplitUnique, SubpartIsMaximal, TailInFirst, TailIsUndecided, TextIsShown, WholeIsLossy}
use Rattle.utf8_bytes.specs.Split.{lossy_char, lossy_chars, split_items, split_tail}
use Rattle.utf8_bytes.proofs.SplitLemmas.{Split-computed}
use Rattle.utf8_bytes.proofs.SplitUnique.{Split-same, split_items-append, split_tail-append}
use Rattle.utf8_bytes.proofs.TextLemmas.{shown_encode}
use Rattle.utf8_bytes.specs.Recipe.{utf8_coding}
use Rattle.utf8_bytes.proofs.RecipeLemmas.{splits}
use Rattle.std.specs.List.{concat}
use Rattle.utf16_units.proofs.Resuming.{recipe_is_split as split_by_recipe, resumes_is_split as split_by_resuming}
use Rattle.utf8_bytes.proofs.LossyLemmas.{lossy_text-append, lossy_text-is}
use Rattle.utf8_bytes.proofs.ShownLemmas.{split_within}
use Rattle.utf8_bytes.proofs.PartLemmas.{tail_from, tail_undecided}
use Rattle.utf8_bytes.proofs.MaximalLemmas.{error_len_is}
use Rattle.utf8_bytes.proofs.AfterLemmas.{tail_first, text_after}

pub split_exists : SplitExists
split_exists = Split-computed

pub split_unique : SplitUnique
split_unique = Split-same

pub split_extends : SplitExtends
split_extends front back = (split_items-append front back, split_tail-append front back)

pub items_stay : ItemsStay
items_stay front back =
    let items = split_items front in
    ap (take (length items)) (split_items-append front back) ∙ take_at items _ (length items) refl

pub cut_anywhere : CutAnywhere
cut_anywhere front back = (
  ap lossy_chars (split_items-append front back) ∙ map-append lossy_char (split_items front) _,
  lossy_text-append front back,
)

pub text_is_shown : TextIsShown
text_is_shown = shown_encode

pub recipe_is_split : RecipeIsSplit
recipe_is_split bytes text kept = split_by_recipe utf8_coding (λ b. Unit {0}) (λ b. lossy_chars (split_items b)) split_tail splits bytes text kept tt

pub resumes_is_split : ResumesIsSplit
resumes_is_split pieces text kept = split_by_resuming utf8_coding (λ b. Unit {0}) (λ b. lossy_chars (split_items b)) split_tail splits pieces text kept tt

pub whole_is_lossy : WholeIsLossy
whole_is_lossy = lossy_text-is

pub shown_within : ShownWithin
shown_within bytes = split_within bytes (split_items bytes) (split_tail bytes) (split_exists bytes)

pub tail_is_undecided : TailIsUndecided
tail_is_undecided bytes = ((λ is. tail_from bytes is.0 is.1), tail_undecided bytes)

pub subpart_is_maximal : SubpartIsMaximal
subpart_is_maximal = error_len_is

pub tail_in_first : TailInFirst
tail_in_first = tail_first

pub shown_after : ShownAfter
shown_after tail back ends = text_after tail back ends

-- the laws, for the functions that state them
pub ruleset laws = (
  items_stay,
  cut_anywhere,
  recipe_is_split,
  resumes_is_split,
  whole_is_lossy,
  tail_in_first,
)
