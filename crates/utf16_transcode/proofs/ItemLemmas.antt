-- The first item of bytes of which there are four or more.
use Rattle.std.proofs.Common.{◌≡◌, ℕ, ◌≤◌, List, ◌++◌, None, length, map, take, drop, refl, sym, ap, ap₂, ◌∙◌, subst, arith, drop_at, length-append, take-append-drop}
use Rattle.std.proofs.lemmas.List.{length-take-le}
use Rattle.std.proofs.lemmas.Str.{IsUtf8-encode}
use Rattle.std.specs.Char.{IsScalar, encode_utf8}
use Rattle.std.specs.Str.{IsUtf8, chars}
use Rattle.utf8_bytes.specs.Split.{good, split_items, split_tail}
use Rattle.utf8_bytes.proofs.BeginsLemmas.{some_bytes}
use Rattle.utf8_bytes.proofs.SplitIllFormed.{split_undecided}
use Rattle.utf8_bytes.proofs.TextLemmas.{split_items-text, split_tail-text}
use Rattle.utf16_transcode.specs.Stops.{BeginsWith}
use Rattle.utf16_transcode.specs.FromUtf8.{IsIllFormedUtf8At}
use Rattle.utf16_transcode.specs.Utf8Stream.{FirstItem}
use Rattle.utf16_transcode.proofs.DecodesUtf8.{length-split_tail}
use Rattle.utf16_transcode.proofs.FromUtf8Lemmas.{chars-char}

-- a character before other bytes
FirstItem-char : (front rest : List ℕ) (c : ℕ) → IsScalar c → encode_utf8 c ≡ front → FirstItem (front ++ rest) c (length front)
FirstItem-char front rest c scalar spelled =
    let text = subst (λ b. IsUtf8 b) spelled (IsUtf8-encode c scalar) in
    let chars_is = ap chars (sym spelled) ∙ chars-char c scalar in
    let next = drop_at front rest (length front) refl in
    record {
      item = good c;
      is = refl;
      some = omega (arith, some_bytes c, ap length spelled);
      within = omega (arith, length-append front rest);
      items = split_items-text front rest text ∙ ap₂ (λ t r. map good t ++ split_items r) chars_is (sym next);
      tail = split_tail-text front rest text ∙ ap split_tail (sym next);
    }

-- a character at the start is the first item
pub FirstItem-begins : (bytes : List ℕ) (c n : ℕ) → BeginsWith encode_utf8 bytes c n → FirstItem bytes c n
FirstItem-begins bytes c n begins =
    let size : length (take n bytes) ≡ n = length-take-le n bytes begins.within in
    subst (λ m. FirstItem bytes c m) size
    (subst (λ b. FirstItem b c (length (take n bytes))) (take-append-drop n bytes) (FirstItem-char (take n bytes) (drop n bytes) c begins.scalar (sym begins.spelled)))

-- four bytes never end too early
pub four_decide : (bytes : List ℕ) → 4 ≤ length bytes → ¬ (IsIllFormedUtf8At bytes None)
four_decide bytes four is =
    let all = (split_undecided bytes is.0 (sym is.1)).1 in
    omega (arith, four, length-split_tail bytes, ap length all)
