use Rattle.std.proofs.Common.{◌*◌, ℕ, arith, refl, slice_index}
use Rattle.journal.proofs.Packed.{words_more}
use Rattle.journal.proofs.packing.pack.Goals as goal

pub offsets-preserved : goal.offsets-preserved
offsets-preserved c =
    let offset : ℕ = c.offsets.offset in
    record {
      upto = omega arith;
      done = words_more (slice_index c.args.words.now) c.offsets.packed _ offset (2 * offset)
          (slice_index c.args.words.now offset) (omega (arith, c.requires.packed, c.offsets.auto.packed)) (omega arith)
          c.offsets.invariant.done refl refl;
    }
