use Rattle.std.proofs.Common.{◌∙◌, ◌+◌, ap, arith, length}
use Rattle.std.specs.List.{remove_range}
use Rattle.utf16string.proofs.Ranged.{put-cut_out}
use Rattle.utf16string.proofs.wstring.ranges.replace_bytes.Goals as goal

pub returns-then-bytes-room-clause-items : goal.returns-then-bytes-room-clause-items
returns-then-bytes-room-clause-items g c =
    c.cut_out.ensures.items ∙ ap (λ bytes. remove_range bytes (c.args.start + length c.args.bytes.now) c.args.end) c.put_over.ensures.items
    ∙ put-cut_out c.args.raw.now.items c.args.bytes.now c.args.start c.args.end (omega arith) (omega (arith, c.args.raw.now.ok.0))
