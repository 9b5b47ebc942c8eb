use Rattle.std.proofs.Common.{◌+◌, ◌-◌, ◌*◌, ◌∙◌, ℕ, arith}
use Rattle.std.proofs.lemmas.List.{get_or-set_other}
use Rattle.journal.specs.Pages.{word_at}
use Rattle.journal.proofs.Packed.{pair_of, set_more}
use Rattle.journal.proofs.packing.unpack.Goals as goal

pub offsets-preserved : goal.offsets-preserved
offsets-preserved c =
    let offset : ℕ = c.offsets.offset in
    let at : ℕ = 2 * offset in
    record {
      upto = omega arith;
      done = set_more (word_at c.args.packed.now) c.offsets.words offset c.word_in.result (omega (arith, c.requires.page))
          c.offsets.invariant.done
          (c.word_in.ensures ∙ pair_of c.args.packed.now at (at + 2 - at) offset (omega arith) (omega arith));
      after = λ k far. get_or-set_other c.offsets.words offset k c.word_in.result 0 (λ same. omega (arith, far, same))
          ∙ c.offsets.invariant.after k far;
    }
