use Rattle.std.proofs.Common.{◌≡◌, ◌++◌, length, ap, ◌∙◌, arith, drop, length-take-le, sym, take_at}
use Rattle.utf16_units.specs.Split.{lossy_chars, split_items}
use Rattle.utf16_transcode.proofs.DecidedLemmas.{decided_copy, decided_scalars}
use Rattle.utf16_transcode.proofs.well_formed.write_well_formed.Goals as goal

pub returns-clause-bytes : goal.returns-clause-bytes
returns-clause-bytes g c =
    let len = c.decided_len-len in
    ap (λ copy. copy ++ drop len.result c.args.to.now) (decided_copy _ c.args.raw.now len.result len.ensures.len _ c.make_well_formed.new.utf16 c.copy_from_slice.ensures.after len.ensures.whole c.make_well_formed.ensures.bytes)

pub returns-clause-encoding : goal.returns-clause-encoding
returns-clause-encoding g c =
    let big = g.E.Utf16Order.BIG in
    let raw = c.args.raw.now in
    let len = c.decided_len-len in
    let copy = c.make_well_formed.new.utf16 in
    let long : length copy ≡ len.result = omega (arith, len.ensures.len, c.make_well_formed.auto.utf16, ap length c.copy_from_slice.ensures.after, length-take-le len.result raw (omega (arith, len.ensures.len))) in
    record {
      scalars = decided_scalars big raw (λ k. omega (arith, c.type_inv.raw k));
      spelled =
          sym (take_at copy (drop len.result c.args.to.now) len.result long
          ∙ decided_copy _ raw len.result len.ensures.len _ copy c.copy_from_slice.ensures.after len.ensures.whole c.make_well_formed.ensures.bytes);
    }

pub returns-clause-well_formed : goal.returns-clause-well_formed
returns-clause-well_formed g c = record { text = lossy_chars (split_items g.E.Utf16Order.BIG c.args.raw.now); encodes = returns-clause-encoding g c }
