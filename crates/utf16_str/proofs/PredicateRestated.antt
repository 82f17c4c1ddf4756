-- What a call says of a predicate's answers, by other words for these answers. A caller that passed
-- a closure gives `λ c b h. search rules` as the last fact.
use Rattle.std.proofs.Common.{ℕ, Bool, List, Option, None, Some, true, false}
use Rattle.std.proofs.lemmas.List.Elements.{All-weaker}
use Rattle.utf16_str.specs.Predicates.{IsFirstWith, IsLastWith, IsTrimmedEndWith, IsTrimmedStartWith, IsTrimmedWith, SaysOfEach}

module _ (P Q : ℕ → Bool → Type 0) (text : List ℕ) where
  each : (b : Bool) (part : List ℕ) → ((c : ℕ) (b : Bool) → P c b → Q c b) → SaysOfEach P b part → SaysOfEach Q b part
  each b part to says = All-weaker (λ c. P c b) (λ c. Q c b) (λ c. to c b) part says

  pub first-restated : (o : Option ℕ) → IsFirstWith P text o → ((c : ℕ) (b : Bool) → P c b → Q c b) → IsFirstWith Q text o
  first-restated None says to = record { found = each false text to says.found }
  first-restated (Some at) says to = record {
    found = record {
      front = says.found.front;
      found = says.found.found;
      back = says.found.back;
      split = says.found.split;
      offset = says.found.offset;
      before = each false says.found.front to says.found.before;
      here = to says.found.found true says.found.here;
    };
  }

  pub last-restated : (o : Option ℕ) → IsLastWith P text o → ((c : ℕ) (b : Bool) → P c b → Q c b) → IsLastWith Q text o
  last-restated None says to = record { found = each false text to says.found }
  last-restated (Some at) says to = record {
    found = record {
      front = says.found.front;
      found = says.found.found;
      back = says.found.back;
      split = says.found.split;
      offset = says.found.offset;
      here = to says.found.found true says.found.here;
      after = each false says.found.back to says.found.after;
    };
  }

  pub start-restated : (rest : List ℕ) → IsTrimmedStartWith P text rest → ((c : ℕ) (b : Bool) → P c b → Q c b) → IsTrimmedStartWith Q text rest
  start-restated rest start to = record {
    front = start.front;
    split = start.split;
    trimmed = each true start.front to start.trimmed;
    stops = λ c more is. to c false (start.stops c more is);
  }

  pub end-restated : (rest : List ℕ) → IsTrimmedEndWith P text rest → ((c : ℕ) (b : Bool) → P c b → Q c b) → IsTrimmedEndWith Q text rest
  end-restated rest end to = record {
    back = end.back;
    split = end.split;
    trimmed = each true end.back to end.trimmed;
    stops = λ front c is. to c false (end.stops front c is);
  }

pub both-restated : (P Q : ℕ → Bool → Type 0) (text rest : List ℕ) → IsTrimmedWith P text rest → ((c : ℕ) (b : Bool) → P c b → Q c b) → IsTrimmedWith Q text rest
both-restated P Q text rest both to =
    record { middle = both.middle; start = start-restated P Q text both.middle both.start to; end = end-restated P Q both.middle rest both.end to }
