use Rattle.std.proofs.Common.{◌+◌, ◌-◌, ◌<◌, ℕ, List, IsTrue, length, slice_index, arith}
use Rattle.utf16_from_utf8.specs.Follow.{FollowTo}
use Rattle.utf16_from_utf8.proofs.LaneLemmas.{greatest-below}
use Rattle.utf16_from_utf8.proofs.LimitLemmas.{below-greatest}
use Rattle.utf16_from_utf8.proofs.ReadLemmas.{follow-from, follow-more-from, whole-utf8}
use Rattle.utf16_from_utf8.proofs.WellFormedLemmas.{text-follows}
use Rattle.utf16_from_utf8.proofs.valid.is_text.Goals as goal

pub loop-read-preserved : goal.loop-read-preserved
loop-read-preserved c =
    let now = c.loop-read.invariant in
    let bytes = c.args.bytes.now in
    let read = c.loop-read.read in
    record {
      within = omega (arith, now.within, c.loop-read-test.true);
      faults = (
        (λ none. let both = greatest-below 1 _ _ _ c.greater-faults.ensures none in follow-more-from bytes read read (omega arith) (now.faults.0 both.0) (c.read_sixteen.ensures.faults.0 both.1)),
        (λ all. below-greatest 1 _ _ _ c.greater-faults.ensures (now.faults.1 (λ i below. all i (omega (arith, below)))) (c.read_sixteen.ensures.faults.1 (follow-from bytes read all))),
      );
    }

pub returns-then-whole_len-bytes : goal.returns-then-whole_len-bytes
returns-then-whole_len-bytes c = (
  (λ are. whole-utf8 bytes (omega (arith, c.if-bytes-le16.false)) (λ i below. all are i (omega (arith, below, c.if-bytes-le16.false))) (c.whole_len.ensures.whole c.if-whole_len-bytes.true)),
  (λ utf8. c.are_below.ensures.1 (none (text-follows bytes 0 (length bytes) utf8 (omega arith)))),
)
  where
    bytes : List ℕ
    bytes = c.args.bytes.now

    all : IsTrue c.are_below.result → FollowTo (length bytes - 16 + 16) bytes 0
    all are =
        let both = greatest-below 1 _ _ _ c.greater-faults-2.ensures (c.are_below.ensures.0 are) in
        follow-more-from bytes (length bytes - 16) c.loop-read.read (omega (arith, c.loop-read-test.false)) (c.loop-read.invariant.faults.0 both.0) (c.read_sixteen-2.ensures.faults.0 both.1)

    none : FollowTo (length bytes) bytes 0 → (i : ℕ) → i < 16 → slice_index c.greater-faults-2.result i < 1
    none all = below-greatest 1 _ _ _ c.greater-faults-2.ensures
        (c.loop-read.invariant.faults.1 (λ i below. all i (omega (arith, below, c.loop-read.invariant.within))))
        (c.read_sixteen-2.ensures.faults.1 (follow-from bytes (length bytes - 16) (λ i below. all i (omega (arith, below, c.if-bytes-le16.false)))))
