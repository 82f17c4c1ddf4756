use Rattle.std.proofs.Common.{◌≡◌, ◌-◌, ◌++◌, length, take, drop, sym, ap, ◌∙◌, subst, arith, take-add, length-drop}
use Rattle.std.proofs.lemmas.List.{take_rest}
use Rattle.std.specs.Io.KnownBytes.{Appends}
use Rattle.std.proofs.KnownBytes.{Appends-trans}
use Rattle.utf16_streams.specs.Watched.{watched_inner}
use Rattle.utf16_streams.proofs.watched.Watched.write_all.Goals as goal

pub loop-written-preserved : goal.loop-written-preserved
loop-written-preserved g c =
    let bytes = c.args.bytes.now in
    let at = c.loop-written.written in
    let n = c.in_ok-written.field-0 in
    let kept = c.loop-written.invariant in
    let whole = Appends-trans _ _ _ _ _ kept.1 c.in_ok-written.ensures.transfers in
    let long : length (take (length bytes - at) (drop at bytes)) ≡ length bytes - at = ap length (take_rest bytes at) ∙ length-drop at bytes in
    let joined = ap (λ t. take at bytes ++ take n t) (take_rest bytes at) ∙ sym (take-add at n bytes) in (
      omega (arith, long, kept.0, c.in_ok-written.ensures.within),
      subst (Appends (g.W.Write.contents (watched_inner c.args.self.now)) (g.W.Write.contents (watched_inner c.write.new.self))) joined whole,
      c.in_ok-written.ensures.faults ∙ kept.2,
    )
