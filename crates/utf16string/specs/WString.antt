-- What contracts can say of a `WString`: its vector, bytes, text and capacity.
use Rattle.std.specs.Borrow.{Bor}
use Rattle.std.specs.Iterator.{YieldsThen}
use Rattle.std.specs.List.{flat_map}
use Rattle.std.specs.Prelude.{◌≡◌, ◌≢◌, ◌<◌, ◌+◌, ℕ, List, [], Option, Some, length}
use Rattle.std.specs.Prelude.{Vec}
use Rattle.std.specs.Str.{chars}
use Rattle.std.specs.Vec.{vec_capacity, vec_items}
use Rattle.utf16_units.specs.declared.byte_order.Utf16Order.{Ghosts}
use Rattle.utf16_units.specs.Edit.{push_text}
use Rattle.utf16_units.specs.Encoding.{size, text_of, utf8_of}
use Rattle.utf16_str.specs.WStr.{wstr_text}
use Rattle.utf16_str.specs.declared.wstr.WStr.{WStr}
use Rattle.utf16string.specs.declared.wstring.WString.{WString}

-- the texts of views, one after another
abbrev pub view_texts : {E : Type 0} {order : Ghosts E} → List (WStr E order) → List ℕ
view_texts views = flat_map wstr_text views

-- the characters of UTF-8 strings, one string after another
abbrev pub str_texts : List (Bor (List ℕ)) → List ℕ
str_texts strings = flat_map (λ s. chars s.now) strings

-- calls of an iterator gave some items, and then one whose text is not empty
abbrev pub StopsFrom : {S T : Type 0} → (S → Option T → S → Type 0) → S → (T → List ℕ) → Type 0
StopsFrom {S = S} {T = T} steps it text =
    (front : List T) × (item : T) × (rest : S) × YieldsThen steps it front (Some item) rest × (text item ≢ [])

module _ {E Z : Type 0} {order : Ghosts E} where
  -- `s.into_bytes()`
  abbrev pub wstring_vec : WString E Z order → Vec ℕ Z
  wstring_vec s = s.raw

  -- `s.as_bytes()`
  abbrev pub wstring_bytes : WString E Z order → List ℕ
  wstring_bytes s = vec_items (wstring_vec s)

  -- the characters of the string
  abbrev pub wstring_text : WString E Z order → List ℕ
  wstring_text s = text_of order.BIG (wstring_bytes s)

  -- `s.capacity()`
  abbrev pub wstring_capacity : WString E Z order → ℕ
  wstring_capacity s = vec_capacity (wstring_vec s)

  -- the string has the same bytes and the same capacity
  abbrev pub IsUnchanged : WString E Z order → WString E Z order → Type 0
  IsUnchanged old new = (wstring_bytes new ≡ wstring_bytes old) × (wstring_capacity new ≡ wstring_capacity old)

  -- `new` has the text of `old`, followed by these characters
  abbrev pub Extends : WString E Z order → List ℕ → WString E Z order → Type 0
  Extends old text new = wstring_text new ≡ push_text (wstring_text old) text

  -- calls of an iterator gave items whose texts were appended to `old`, and then one whose text does
  -- not fit in what `new` has left
  abbrev pub StopsAt : {S T : Type 0} → (S → Option T → S → Type 0) → S → (T → List ℕ) → WString E Z order → WString E Z order → Type 0
  StopsAt {S = S} {T = T} steps it text old new =
      (front : List T) × (item : T) × (rest : S) × YieldsThen steps it front (Some item) rest
      × Extends old (flat_map text front) new
      × (wstring_capacity new < length (wstring_bytes new) + size (text item))

  -- that text in UTF-8
  abbrev pub wstring_utf8 : WString E Z order → List ℕ
  wstring_utf8 s = utf8_of order.BIG (wstring_bytes s)

  -- `new` has the text of `old`, followed by the texts of these views
  abbrev pub ExtendsViews : WString E Z order → List (WStr E order) → WString E Z order → Type 0
  ExtendsViews old views new = Extends old (view_texts views) new

  -- `new` has the text of `old`, followed by the characters of these strings
  abbrev pub ExtendsStrs : WString E Z order → List (Bor (List ℕ)) → WString E Z order → Type 0
  ExtendsStrs old strings new = Extends old (str_texts strings) new
