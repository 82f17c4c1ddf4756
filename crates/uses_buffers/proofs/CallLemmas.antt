-- Calls one after another, each given what the one before left.
use Rattle.std.proofs.Common.{◌≡◌, ◌≢◌, ℕ, ◌+◌, ◌-◌, ◌<◌, ◌≤◌, List, [], ◌∷◌, ◌++◌, length, map, take, drop, refl, sym, ap, ap₂, ◌∙◌, subst, arith, append-nil, append_assoc, length-append, length-take-le, sum_by, take-append-drop}
use Rattle.std.proofs.lemmas.List.{drop-append-le, drop_all, take_rest}
use Rattle.std.proofs.lemmas.List.Concat.{flat_map-append}
use Rattle.std.proofs.lemmas.List.Sums.{sum_by-cons}
use Rattle.std.specs.List.{flat_map}
use Rattle.utf16_transcode.specs.Decodes.{DecodesAs}
use Rattle.utf16_transcode.specs.StreamSplit.{StreamSplit, IsSplitInChunks, decided}
use Rattle.utf16_transcode.specs.Stream.{FeedsAs, StopsFeeding}
use Rattle.utf16_transcode.specs.declared.progress.Stop.{Stop}
use Rattle.utf16_transcode.specs.declared.progress.Stop.TheVariants.{Incomplete, Done, IllFormed, NoSpace}
use Rattle.utf16_units.proofs.IllFormedLemmas.{rest_from}
use Rattle.utf16_transcode.proofs.DecodesSteps.{Decodes-last, Decodes-more, Decodes-then, tail_again, written_for, written_for-append}
use Rattle.utf16_transcode.proofs.StreamSteps.{fed_text}
use Rattle.utf16_transcode.proofs.WholeLemmas.{whole_tail, whole_text}
use Rattle.uses_buffers.specs.FormCalls as forms
use Rattle.uses_buffers.specs.FormCalls.{Completes, Conversion, IsCall, Joined}
use Rattle.uses_buffers.proofs.FormLemmas.{decodes_onto}
use Rattle.uses_buffers.proofs.LoopLemmas.{composes}
use Rattle.uses_buffers.specs.Calls.{Call, Continue, EndWith, Feed, Feeding, FeedsAll, IsFeed, all_output, all_read, feed_output, output}

-- ---- calls of a conversion

module _ (Promised : List ℕ → Call → Type 0) (conversion : Conversion ℕ ℕ Stop) (same : NoSpace ≡ conversion.no_space)
    (promised : (input : List ℕ) (call : Call) → Promised input call → IsCall conversion input (output call) call.read (length call.to - call.written) call.stop) where
  abbrev did : Call → forms.Call conversion
  did call = record { out = output call; read = call.read; left = length call.to - call.written; stop = call.stop }

  steps : (input : List ℕ) (calls : List Call) (left : List ℕ) → Continue Promised input calls left → forms.Continue conversion input (map did calls) left
  steps input [] left run = run
  steps input (call ∷ calls) left run = (promised input call run.0, run.1 ∙ same, steps (drop call.read input) calls left run.2)

  outs : (calls : List Call) → flat_map (λ (call : forms.Call conversion). call.out) (map did calls) ≡ flat_map output calls
  outs [] = refl
  outs (call ∷ calls) = ap (λ t. output call ++ t) (outs calls)

  reads : (calls : List Call) → sum_by (λ (call : forms.Call conversion). call.read) (map did calls) ≡ sum_by (λ (call : Call). call.read) calls
  reads [] = refl
  reads (call ∷ calls) =
      sum_by-cons (λ (call : forms.Call conversion). call.read) (did call) (map did calls) ∙ ap (λ n. call.read + n) (reads calls) ∙ sym (sum_by-cons (λ (call : Call). call.read) call calls)

  -- such calls did together what one call with enough space does
  pub composed : Joined conversion → (input : List ℕ) (calls : List Call) (last : Call) → EndWith Promised input calls last
      → Completes conversion input (all_output calls last) (all_read calls last) last.stop
  composed joined input calls last run =
      let left = length last.to - last.written in
      let all = composes conversion joined input (map did calls) (did last)
      (record { rest = run.left; before = steps input calls run.left run.before; did = promised run.left last run.promised }) in
      record {
        left = left;
        call =
            subst (λ out. IsCall conversion input (out ++ output last) (all_read calls last) left last.stop) (outs calls)
            (subst (λ n. IsCall conversion input (forms.all_out conversion (map did calls) (did last)) (n + last.read) left last.stop) (reads calls) all);
        ends = λ is. run.ends (is ∙ sym same);
      }

-- ---- a stream, through any number of calls for each chunk

-- one call: what follows its chunk in the stream is left too
module _ (parts : StreamSplit) (into : ℕ → List ℕ) (split : IsSplitInChunks parts) (bytes pending chunk left to old all next : List ℕ) (read written : ℕ)
    (before : DecodesAs parts into bytes (pending ++ chunk) old all) (feeds : FeedsAs parts into pending chunk left to read written) (grown : next ≡ all ++ take written to) where
  pub feed_more : DecodesAs parts into bytes (left ++ rest_from chunk read) old next
  feed_more =
      subst (λ r. DecodesAs parts into bytes (left ++ r) old next) (sym (take_rest chunk read))
      (Decodes-then parts into bytes (pending ++ chunk) (left ++ drop read chunk) old all next before
      (subst (DecodesAs parts into (pending ++ chunk) (left ++ drop read chunk) all) (sym grown)
      (decodes_onto parts into (pending ++ chunk) (left ++ drop read chunk) all (take written to) feeds.decodes)))

  -- with a buffer of four bytes or more fewer items are left
  pub feed_smaller : 4 ≤ length to → length to < written + 4 → length (parts.items (left ++ rest_from chunk read)) < length (parts.items (pending ++ chunk))
  feed_smaller room full = by_taken feeds.decodes.taken feeds.decodes.items feeds.decodes.text where
    out : length (take written to) ≡ written
    out = length-take-le written to feeds.fits

    by_taken : (taken : List parts.Item) → parts.items (pending ++ chunk) ≡ taken ++ parts.items (left ++ drop read chunk)
        → take written to ≡ flat_map into (map parts.shown taken) → length (parts.items (left ++ rest_from chunk read)) < length (parts.items (pending ++ chunk))
    by_taken [] items text = let none = ap length text in let some = out in absurd (omega arith)
    by_taken (item ∷ taken) items text =
        let all = ap length items ∙ length-append (item ∷ taken) (parts.items (left ++ drop read chunk)) in
        let same = ap (λ r. length (parts.items (left ++ r))) (take_rest chunk read) in
        omega arith

  -- all of the chunk was taken
  pub feed_end : (room : ℕ) (stop : Stop) → stop ≢ NoSpace → StopsFeeding parts into pending chunk left read room stop
      → (next ≡ old ++ flat_map into (decided parts bytes)) × (left ≡ parts.tail bytes)
  feed_end room Done other done = (
    Decodes-last parts into bytes (pending ++ chunk) old all next before (grown ∙ ap (λ t. all ++ t) (fed_text parts into split pending chunk left to read written room feeds done)),
    done.1 ∙ sym before.tail,
  )
  feed_end room (IllFormed len) other done = absurd done
  feed_end room Incomplete other done = absurd done
  feed_end room NoSpace other done = absurd (other refl)

-- what is certain of the chunks so far, and one chunk more
module _ (parts : StreamSplit) (into : ℕ → List ℕ) (split : IsSplitInChunks parts) (front back pending all next left : List ℕ)
    (so_far : all ≡ flat_map into (decided parts front)) (tail : pending ≡ parts.tail front) where
  pub chunk_text : next ≡ all ++ flat_map into (decided parts (pending ++ back)) → next ≡ flat_map into (decided parts (front ++ back))
  chunk_text grown =
      grown ∙ ap₂ (λ t p. t ++ flat_map into (decided parts (p ++ back))) so_far tail
      ∙ sym (ap (written_for parts into) (split.items front back) ∙ written_for-append parts into (parts.items front) (parts.items (parts.tail front ++ back)))

  pub chunk_tail : left ≡ parts.tail (pending ++ back) → left ≡ parts.tail (front ++ back)
  chunk_tail is = is ∙ ap (λ p. parts.tail (p ++ back)) tail ∙ sym (split.tail front back)

-- the end of a stream
module _ (parts : StreamSplit) (into : ℕ → List ℕ) (split : IsSplitInChunks parts) where
  pub end_text : (bytes pending all next : List ℕ) → all ≡ flat_map into (decided parts bytes) → pending ≡ parts.tail bytes
      → next ≡ all ++ flat_map into (parts.at_end pending) → next ≡ flat_map into (parts.whole bytes)
  end_text bytes pending all next so_far tail grown =
      grown ∙ ap₂ (λ t p. t ++ flat_map into (parts.at_end p)) so_far tail
      ∙ sym (ap (flat_map into) (split.whole bytes) ∙ flat_map-append into (decided parts bytes) (parts.at_end (parts.tail bytes)))

  -- four bytes suffice for the replacement of a tail
  pub end_fits : ((c : ℕ) → length (into c) ≤ 4) → (tail : List ℕ) → length (flat_map into (parts.at_end tail)) ≤ 4
  end_fits short tail = one (parts.at_end tail) (split.one tail) where
    one : (text : List ℕ) → length text ≤ 1 → length (flat_map into text) ≤ 4
    one [] few = omega arith
    one (c ∷ []) few = omega (arith, ap length (append-nil (into c)), short c)
    one (c ∷ d ∷ more) few = absurd (omega arith)

-- ---- a stream, in any chunks

module _ (parts : StreamSplit) (into : ℕ → List ℕ) (split : IsSplitInChunks parts) where
  -- one call: what follows its chunk in the stream is left too
  fed_whole : (pending bytes left to : List ℕ) (offered read written : ℕ) → FeedsAs parts into pending (take offered bytes) left to read written
      → flat_map into (parts.whole (pending ++ bytes)) ≡ take written to ++ flat_map into (parts.whole (left ++ drop read bytes))
  fed_whole pending bytes left to offered read written feeds =
      let chunk = take offered bytes in
      let after = drop offered bytes in
      let front : (pending ++ chunk) ++ after ≡ pending ++ bytes = append_assoc pending chunk after ∙ ap (λ b. pending ++ b) (take-append-drop offered bytes) in
      let back : (left ++ drop read chunk) ++ after ≡ left ++ drop read bytes =
      append_assoc left (drop read chunk) after ∙ ap (λ b. left ++ b) (sym (drop-append-le read chunk after feeds.within) ∙ ap (drop read) (take-append-drop offered bytes)) in
      ap (λ b. flat_map into (parts.whole b)) (sym front)
      ∙ whole_text parts into split ((pending ++ chunk) ++ after) ((left ++ drop read chunk) ++ after) (take written to)
      (Decodes-more parts into split (pending ++ chunk) (left ++ drop read chunk) after [] (take written to) feeds.decodes)
      ∙ ap (λ b. take written to ++ flat_map into (parts.whole b)) back

  fed_calls : (pending bytes : List ℕ) (feeds : List Feed) (last left : List ℕ) → Feeding (IsFeed parts into) pending bytes feeds last left
      → flat_map into (parts.whole (pending ++ bytes)) ≡ flat_map feed_output feeds ++ flat_map into (parts.whole (last ++ left))
  fed_calls pending bytes [] last left same = ap₂ (λ p b. flat_map into (parts.whole (p ++ b))) (sym same.0) (sym same.1)
  fed_calls pending bytes (feed ∷ feeds) last left steps =
      fed_whole pending bytes feed.pending feed.to feed.offered feed.read feed.written steps.0.0
      ∙ ap (λ t. feed_output feed ++ t) (fed_calls feed.pending (drop feed.read bytes) feeds last left steps.1)
      ∙ sym (append_assoc (feed_output feed) (flat_map feed_output feeds) (flat_map into (parts.whole (last ++ left))))

  pub stream_calls : (bytes : List ℕ) (feeds : List Feed) (last : Feed) → FeedsAll (IsFeed parts into) bytes feeds last
      → (flat_map feed_output feeds ++ feed_output last) ++ flat_map into (parts.at_end last.pending) ≡ flat_map into (parts.whole bytes)
  stream_calls bytes feeds last run =
      let done = subst (StopsFeeding parts into run.pending (take last.offered run.left) last.pending last.read (length last.to - last.written)) run.done run.fed.1 in
      let tail : parts.tail last.pending ≡ last.pending = ap parts.tail done.1 ∙ tail_again parts into split (run.pending ++ take last.offered run.left) ∙ sym done.1 in
      let none : last.pending ++ drop last.read run.left ≡ last.pending =
      ap (λ b. last.pending ++ b) (drop_all last.read run.left (omega (arith, run.all))) ∙ append-nil last.pending in
      sym
      (fed_calls [] bytes feeds run.pending run.left run.before
      ∙ ap (λ t. flat_map feed_output feeds ++ t)
      (fed_whole run.pending run.left last.pending last.to last.offered last.read last.written run.fed.0
      ∙ ap (λ b. feed_output last ++ flat_map into (parts.whole b)) none ∙ ap (λ t. feed_output last ++ flat_map into t) (whole_tail parts into split last.pending tail))
      ∙ sym (append_assoc (flat_map feed_output feeds) (feed_output last) (flat_map into (parts.at_end last.pending))))
