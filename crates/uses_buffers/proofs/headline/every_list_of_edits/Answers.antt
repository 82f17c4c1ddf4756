use Rattle.std.proofs.Common.{◌≡◌, ◌∙◌, ℕ, List, Result, Ok, Err, IfOk, OnErr, ap}
use Rattle.std.specs.Vec.{vec_items}
use Rattle.utf16_tools.specs.Step.{Run}
use Rattle.utf16string.specs.Encoding.{Encodes}
use Rattle.utf16string.specs.WString.{IsUnchanged, wstring_bytes, wstring_text}
use Rattle.uses_buffers.proofs.headline.every_list_of_edits.Goals as goal

-- what holds for the text that is left holds for some text
some_text : {X Y : Type 0} (r : Result X Y) (P : X → List ℕ → Type 0) (Q : List ℕ → Type 0) (text : List ℕ)
    → Q text → IfOk r (λ x. P x text) → IfOk r (λ x. (last : List ℕ) × P x last × Q last)
some_text (Ok x) P Q text q p = (text, p, q)
some_text (Err e) P Q text q p = tt

kept : {X Y : Type 0} (r : Result X Y) (P Q : Type 0) → (P → Q) → OnErr r P → OnErr r Q
kept (Ok x) P Q so p = tt
kept (Err e) P Q so p = so p

pub returns-clause-edited : goal.returns-clause-edited
returns-clause-edited g c =
    some_text c.run-replies.result (λ replies last. Run (wstring_text c.args.string) c.args.edits.items (vec_items replies) last)
    (λ last. Encodes g.E.Utf16Order.BIG last c.into_bytes.result.items) (wstring_text c.run-replies.new.string) c.into_bytes.ensures.encoding c.run-replies.ensures.run

pub returns-clause-err : goal.returns-clause-err
returns-clause-err g c =
    kept c.run-replies.result (IsUnchanged c.args.string c.run-replies.new.string) (c.into_bytes.result.items ≡ wstring_bytes c.args.string)
    (λ same. ap vec_items c.into_bytes.ensures.vec ∙ same.0) c.run-replies.ensures.err
