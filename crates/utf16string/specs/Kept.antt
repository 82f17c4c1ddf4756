-- One step of retaining in place: a predicate is called on the next characters, and those that it
-- keeps are moved down.
use Rattle.std.specs.Prelude.{◌≡◌, ℕ, Bool, List, ◌++◌, take, drop}
use Rattle.std.specs.Fn.{Mut}
use Rattle.std.specs.List.{slice_range}
use Rattle.utf16_units.specs.Encoding.{IsUtf16, encode, text_of}
use Rattle.utf16string.specs.Retain.{RetainsTo}

module _ {F : Type 0} (calls : Mut F (ℕ × Unit {0}) Bool) (big : Bool) where
  -- the predicate is called on each character between the offsets `read` and `next` in turn, and
  -- its last state is `last`. The characters that it keeps, `left`, follow the first `kept` bytes,
  -- up to `end`. The bytes from `next` on are unchanged
  pub record KeepsNext (f : F) (old : List ℕ) (kept read : ℕ)
      (last : F) (new : List ℕ) (end next : ℕ) : Type 0 where
    pub left : List ℕ
    pub whole : IsUtf16 big (slice_range old read next)
    pub asked : RetainsTo calls f (text_of big (slice_range old read next)) left last
    pub moved : take end new ≡ take kept old ++ encode big left
    pub rest : drop next new ≡ drop next old
